-- Writing headers, by document 01, "Header": 11, 3 and 2 of the array, 3 and 2 of the own block; one whole block is stored. Assumes nothing.
use Rattle.std.specs.Prelude.{Bool, not, List, ◌++◌, ℕ, ◌*◌, ◌-◌, ◌^◌, leb, length, replicate}
use Rattle.std.proofs.lemmas.List.Edits.{sets}
use Rattle.units.specs.Answer.{Answer, accepted, refused, refuse, pick, Outcome, gives}
use Rattle.units.specs.Bytes.{part}
use Rattle.units.specs.Places.{good_size, inside, inside_or_empty}
use Rattle.crc32.specs.Crc.{crc}
use Rattle.crc32.specs.HeaderSum.{header_sum}
use Rattle.header.specs.declared.Header.{Header}
use Rattle.header.specs.declared.Written.{Written}
use Rattle.header.specs.Format.{header_bytes}

-- the bytes of the array that a header names
abbrev pub array_bytes : Header → ℕ
array_bytes h = h.num_parts * h.part_size

-- the array's check sum: 1, 3 if its start passes 64 bits, 2 if it is not inside; an empty array is summed anywhere
unfoldable pub parts_sum : List ℕ → Header → ℕ → Answer ℕ
parts_sum xs h b =
    pick (not (good_size b)) (refuse 1)
    (pick (leb (2 ^ 64) (h.part_start.0 * b)) (refuse 3)
    (pick (not (inside_or_empty (length xs) (h.part_start.0 * b) (array_bytes h))) (refuse 2)
    (accepted (crc (part xs (h.part_start.0 * b) (array_bytes h))))))

-- the header with its reserved field and its two sums given, all else as it was
abbrev pub filled : Header → ℕ → ℕ → ℕ → Header
filled h reserved own parts =
    record {
      revision = h.revision;
      header_size_le = h.header_size_le;
      crc32 = own;
      reserved = reserved;
      current_lba = h.current_lba;
      backup_lba = h.backup_lba;
      first_usable = h.first_usable;
      last_usable = h.last_usable;
      disk_guid = h.disk_guid;
      part_start = h.part_start;
      num_parts = h.num_parts;
      part_size = h.part_size;
      crc32_parts = parts;
    }

-- the header as it is stored: reserved is 0
abbrev pub stored : Header → Header
stored h = filled h 0 h.crc32 h.crc32_parts

-- the header with two given sums
abbrev pub summed : Header → ℕ → ℕ → Header
summed h own parts = filled h h.reserved own parts

-- the header with the array's sum and then its own, over the bytes that are stored
unfoldable pub with_sums : Header → ℕ → Header
with_sums h parts = summed h (header_sum (header_bytes (stored (summed h 0 parts))) 0) parts

-- one whole block of b bytes
abbrev pub header_block : Header → ℕ → List ℕ
header_block h b = header_bytes (stored h) ++ replicate (b - 92) 0

-- the own block, once the array's sum is known: 3, 2
unfoldable pub own_block : List ℕ → Header → ℕ → Answer ℕ → Outcome (Answer Written)
own_block xs h b (refused w) = gives (refused w) xs
own_block xs h b (accepted parts) =
    pick (leb (2 ^ 64) (h.current_lba.0 * b)) (gives (refuse 3) xs)
    (pick (not (inside (length xs) (h.current_lba.0 * b) b)) (gives (refuse 2) xs)
    (gives (accepted (record { count = b; header = with_sums h parts })) (sets xs (h.current_lba.0 * b) (header_block (with_sums h parts) b))))

-- a write that the given test refuses by 11. The array is summed as it was before the store
unfoldable pub written : Bool → List ℕ → Header → ℕ → Outcome (Answer Written)
written wrong xs h b =
    pick (not (good_size b)) (gives (refuse 1) xs)
    (pick wrong (gives (refuse 11) xs)
    (own_block xs h b (parts_sum xs h b)))

-- a primary header stands before its backup, a backup after its primary
abbrev pub primary_written : List ℕ → Header → ℕ → Outcome (Answer Written)
primary_written xs h b = written (leb h.backup_lba.0 h.current_lba.0) xs h b

abbrev pub backup_written : List ℕ → Header → ℕ → Outcome (Answer Written)
backup_written xs h b = written (leb h.current_lba.0 h.backup_lba.0) xs h b
