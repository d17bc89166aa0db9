-- The card check, which comes first in put, clear, payload write and listing: a refusal, or none, from the image's length, the block size and the two tables.
-- From document 01, "Card check": 1, 8, 10; 4, 5, 16, 6 of the primary and of the backup; 17; 16, to which document 02, 3/13 adds two used slots with one partition GUID.
-- Where it refuses, from document 02, 5/13: 4, 5, 16, 6 say front or back, 17 the disk GUID or the first slot that differs, 16 of the entries the front. Block 0 is not
-- read. Assumes nothing.
use Rattle.std.specs.Prelude.{Bool, not, ◌&&◌, ◌||◌, List, ℕ, ◌+◌, ◌*◌, ◌-◌, eqb, ltb, length, take}
use Rattle.units.specs.declared.Place.TheVariants as place
use Rattle.units.specs.declared.why.Why.{Why}
use Rattle.units.specs.Answer.{Answer, plain, placed, within, when, or_else, judged}
use Rattle.units.specs.Bytes.{part, same}
use Rattle.units.specs.Places.{good_size}
use Rattle.crc32.specs.Crc.{crc}
use Rattle.crc32.specs.HeaderSum.{header_sum}
use Rattle.header.specs.Format.{signature, header_at}
use Rattle.tables.specs.Places.{blocks, array_blocks}
use Rattle.tables.specs.Lens.{Side, Front, Back, Copy, Tables, tables}
use Rattle.tables.specs.Checks.{lowest}
use Rattle.tables.specs.Entries.{entry, entries_ok}
use Rattle.tables.specs.Headers.{laid_fields}

-- 1 bad block size, 8 below three blocks, 10 no room for two tables
unfoldable pub room_check : ℕ → ℕ → Why
room_check B n =
    or_else (when (not (good_size B)) (plain 1))
    (or_else (when (ltb n (3 * B)) (plain 8))
    (when (ltb (blocks B n - 1) (2 * array_blocks B + 3)) (plain 10)))

-- 4 signature, 5 header sum, 16 layout, 6 array sum of one table, whose header's 92 bytes are x. 16 is given if any field but the GUID and the two sums is not the one that lay would write
unfoldable pub copy_check : ℕ → ℕ → Side → List ℕ → List ℕ → Why
copy_check B n s x arr =
    or_else (when (not (same (part x 0 8) signature)) (plain 4))
    (or_else (when (not (eqb (header_sum x 0) (header_at x 0).crc32)) (plain 5))
    (or_else (when (not (laid_fields B n s (header_at x 0))) (plain 16))
    (when (not (eqb (crc arr) (header_at x 0).crc32_parts)) (plain 6))))

-- the 92 bytes of a header's block, and the disk GUID's sixteen among them
abbrev pub head_of : Copy → List ℕ
head_of c = take 92 c.header

unfoldable pub guid_of : Copy → List ℕ
guid_of c = part (head_of c) 56 16

-- the array place of the first slot whose 128 bytes differ, or 128
unfoldable pub differs : List ℕ → List ℕ → ℕ
differs x y = lowest 128 (λ (k : ℕ). not (same (entry x k) (entry y k)))

-- 17 of two tables whose GUIDs are g and h and whose arrays are x and y: the disk GUID, else the first slot that differs; 16 an entry is wrong, or two used ones have one partition GUID
unfoldable pub pair_check : ℕ → ℕ → List ℕ → List ℕ → List ℕ → List ℕ → Why
pair_check B n g h x y =
    or_else (when (not (same g h)) (placed 17 place.DiskGuid))
    (or_else (when (not (same x y)) (placed 17 (place.InSlot (record { 0 = differs x y + 1 }))))
    (when (not (entries_ok B n x)) (placed 16 place.Front)))

-- the tests of the two tables beside each other
abbrev pub tables_check : ℕ → ℕ → Tables → Why
tables_check B n t = pair_check B n (guid_of t.front) (guid_of t.back) t.front.array t.back.array

-- the tests of one table
abbrev pub table_check : ℕ → ℕ → Side → Copy → Why
table_check B n s c = copy_check B n s (head_of c) c.array

unfoldable pub check : ℕ → ℕ → Tables → Why
check B n t =
    or_else (room_check B n)
    (or_else (within place.Front (table_check B n Front t.front))
    (or_else (within place.Back (table_check B n Back t.back))
    (tables_check B n t)))

-- the check before 5/13, which names no place. What the check says once its place is dropped is this (`drop-check` in proofs/Dropped)
unfoldable pub plain_pair : ℕ → ℕ → List ℕ → List ℕ → List ℕ → List ℕ → Why
plain_pair B n g h x y =
    or_else (when (not (same g h && same x y)) (plain 17))
    (when (not (entries_ok B n x)) (plain 16))

unfoldable pub plain_check : ℕ → ℕ → Tables → Why
plain_check B n t =
    or_else (room_check B n)
    (or_else (table_check B n Front t.front)
    (or_else (table_check B n Back t.back)
    (plain_pair B n (guid_of t.front) (guid_of t.back) t.front.array t.back.array)))

-- slots count from 1
abbrev pub bad_slot : ℕ → Bool
bad_slot s = ltb s 1 || ltb 128 s

-- 18 no such slot, after the check: the tests of a call on one slot
unfoldable pub slot_check : ℕ → ℕ → Tables → ℕ → Why
slot_check B n t s = or_else (check B n t) (when (bad_slot s) (plain 18))

-- what the public call answers
abbrev pub check_answer : ℕ → List ℕ → Answer Unit
check_answer B xs = judged (check B (length xs) (tables B xs)) tt
