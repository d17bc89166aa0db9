-- Reading a header by UEFI (UEFI 2.10, 5.3.2) and document 02, 9/13: the sum covers the size that the header states, the rest of the block is zero, and the header stands
-- in the block that it names as its own. In order: 1, 8 for the backup, 2, 4, 29, 5, 30, 31. Assumes nothing.
use Rattle.std.specs.Prelude.{Bool, not, ◌||◌, List, ◌∷◌, ◌++◌, ℕ, ◌+◌, ◌*◌, ◌-◌, ◌/◌, eqb, ltb, length}
use Rattle.units.specs.Answer.{Answer, accepted, refuse, pick}
use Rattle.units.specs.Bytes.{part, num, same, all_zero}
use Rattle.units.specs.Places.{good_size, inside}
use Rattle.crc32.specs.Crc.{crc}
use Rattle.header.specs.declared.Header.{Header}
use Rattle.header.specs.Format.{signature, header_at}

-- HeaderSize: at byte 12, in 4 bytes; at least 92, at most the block
abbrev pub stated_at : List ℕ → ℕ → ℕ
stated_at xs at = num xs (at + 12) 4

unfoldable pub bad_stated : ℕ → ℕ → Bool
bad_stated n b = ltb n 92 || ltb b n

-- HeaderCRC32: over n bytes from a place on, with its own field, the bytes 16 to 19, as zero
unfoldable pub sized_sum : List ℕ → ℕ → ℕ → ℕ
sized_sum xs at n = crc (part xs at 16 ++ (0 ∷ 0 ∷ 0 ∷ 0 ∷ part xs (at + 20) (n - 20)))

-- the header at a place, as block lba: 2 if the block is not inside, 4 for another signature, 29 for a size that cannot be, 5 for another sum over that size,
-- 30 for a byte behind that size that is not zero, 31 if it names another block as its own (MyLBA, at byte 24)
unfoldable pub header_in : List ℕ → ℕ → ℕ → ℕ → Answer Header
header_in xs b lba at =
    pick (not (inside (length xs) at b)) (refuse 2)
    (pick (not (same (part xs at 8) signature)) (refuse 4)
    (pick (bad_stated (stated_at xs at) b) (refuse 29)
    (pick (not (eqb (sized_sum xs at (stated_at xs at)) (num xs (at + 16) 4))) (refuse 5)
    (pick (not (all_zero (part xs (at + stated_at xs at) (b - stated_at xs at)))) (refuse 30)
    (pick (not (eqb (num xs (at + 24) 8) lba)) (refuse 31)
    (accepted (header_at xs at)))))))

-- the header in a block
abbrev pub block_read : List ℕ → ℕ → ℕ → Answer Header
block_read xs b lba = header_in xs b lba (lba * b)

-- the primary header, in block 1
unfoldable pub primary_by_uefi : List ℕ → ℕ → Answer Header
primary_by_uefi xs b = pick (not (good_size b)) (refuse 1) (block_read xs b 1)

-- the backup header, in the last whole block: 8 below three blocks
unfoldable pub backup_by_uefi : List ℕ → ℕ → Answer Header
backup_by_uefi xs b =
    pick (not (good_size b)) (refuse 1)
    (pick (ltb (length xs) (3 * b)) (refuse 8)
    (block_read xs b ((length xs - b) / b)))
