-- Reading headers, by document 01, "Header": 2, 4, 5 at a place; the primary stands at byte B, the backup at block (L - B) / B, 8 first. Assumes nothing.
use Rattle.std.specs.Prelude.{not, List, ℕ, ◌+◌, ◌*◌, ◌-◌, ◌/◌, eqb, ltb, length}
use Rattle.units.specs.declared.Lba.{Lba}
use Rattle.units.specs.Answer.{Answer, accepted, refuse, pick}
use Rattle.units.specs.Bytes.{part, num, same}
use Rattle.units.specs.Places.{good_size, inside}
use Rattle.crc32.specs.HeaderSum.{header_sum}
use Rattle.header.specs.declared.Header.{Header}
use Rattle.header.specs.Format.{signature, header_at}

-- the header at a place: 2 if its 92 bytes are not there, 4 for another signature, 5 for another check sum, whatever size the header states
unfoldable pub header_read : List ℕ → ℕ → Answer Header
header_read xs at =
    pick (not (inside (length xs) at 92)) (refuse 2)
    (pick (not (same (part xs at 8) signature)) (refuse 4)
    (pick (not (eqb (header_sum xs at) (num xs (at + 16) 4))) (refuse 5)
    (accepted (header_at xs at))))

-- the primary header, at byte b
unfoldable pub primary_read : List ℕ → ℕ → Answer Header
primary_read xs b = pick (not (good_size b)) (refuse 1) (header_read xs b)

-- the backup's block in an image of n bytes: 8 below three blocks
unfoldable pub backup_block : ℕ → ℕ → Answer Lba
backup_block n b =
    pick (not (good_size b)) (refuse 1)
    (pick (ltb n (3 * b)) (refuse 8)
    (accepted (record { 0 = (n - b) / b })))

-- the backup header, in that block
unfoldable pub backup_read : List ℕ → ℕ → Answer Header
backup_read xs b =
    pick (not (good_size b)) (refuse 1)
    (pick (ltb (length xs) (3 * b)) (refuse 8)
    (header_read xs ((length xs - b) / b * b)))
