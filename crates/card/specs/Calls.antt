-- What the card calls answer, and the image that they leave. What a call refuses by is a function of the image's length, the block size and the two tables.
-- From document 01, "The card calls": lay, put, clear, payload write; 25 from document 02, 3/13; 28 from 7/13. Assumes nothing.
use Rattle.std.specs.Prelude.{◌≡◌, false, not, ◌||◌, List, ℕ, ◌+◌, ◌*◌, ◌-◌, eqb, ltb, length}
use Rattle.std.proofs.lemmas.List.Edits.{sets}
use Rattle.units.specs.declared.Guid.{Guid}
use Rattle.units.specs.declared.BytePlace.{BytePlace}
use Rattle.units.specs.declared.why.Why.{Why}
use Rattle.units.specs.Answer.{Answer, plain, of_slot, when, or_else, judged, pick, Outcome, settle}
use Rattle.units.specs.Bytes.{part}
use Rattle.units.specs.Guids.{guid_at, guid_bytes}
use Rattle.partition.specs.declared.Partition.{Partition}
use Rattle.partition.specs.Format.{entry_bytes, tidied}
use Rattle.mbr.specs.Format.{mbr_bytes, fresh}
use Rattle.tables.specs.Checks.{lowest}
use Rattle.tables.specs.Places.{blocks, first_usable_of, last_usable_of}
use Rattle.tables.specs.Lens.{Side, Front, Copy, Tables, copy_in, copy_bytes, tables, tables_at, with_tables_at}
use Rattle.tables.specs.Entries.{zeros, entry, set_entry, used, first_of, last_of, part_guid_of, overlaps, first_twin}
use Rattle.tables.specs.Headers.{card_of, head_block}
use Rattle.tables.specs.Check.{room_check, guid_of, check, slot_check, bad_slot}

-- the protective MBR's 512 bytes, for a backup in block k: its record has k blocks, or FFFFFFFF
unfoldable pub mbr : ℕ → List ℕ
mbr k = mbr_bytes (fresh (pick (ltb k 0xFFFFFFFF) k 0xFFFFFFFF))

-- the image with an empty card over it: the protective MBR and both tables
abbrev pub laid_image : ℕ → ℕ → List ℕ → List ℕ → List ℕ
laid_image B n xs g = with_tables_at B n (sets xs 0 (mbr (blocks B n - 1))) (card_of B n g (zeros 16384))

-- each call at a length n, which is the image's. The contracts have `lay_outcome` and so on, at the end. g is the GUID's sixteen bytes
unfoldable pub lay_at : ℕ → ℕ → List ℕ → List ℕ → Outcome (Answer Unit)
lay_at B n xs g = settle (room_check B n) tt xs (laid_image B n xs g)

-- the array place of the lowest other used slot that shares a block with e, or 128
unfoldable pub first_overlap : List ℕ → ℕ → List ℕ → ℕ
first_overlap arr k e = lowest 128 (λ (j : ℕ). pick (eqb j k) false (overlaps e (entry arr j)))

-- 18 no such slot, 19 nil type, 20 last before first, 21 outside the usable blocks: of a record's 128 bytes e, its name cleared, for slot s
unfoldable pub record_check : ℕ → ℕ → ℕ → List ℕ → Why
record_check B n s e =
    or_else (when (bad_slot s) (plain 18))
    (or_else (when (not (used e)) (plain 19))
    (or_else (when (ltb (last_of e) (first_of e)) (plain 20))
    (when (ltb (first_of e) (first_usable_of B) || ltb (last_usable_of B n) (last_of e)) (plain 21))))

-- 22 overlap, with the lowest other slot that shares a block
unfoldable pub overlap_check : List ℕ → ℕ → List ℕ → Why
overlap_check arr k e = when (ltb (first_overlap arr k e) 128) (of_slot 22 (first_overlap arr k e + 1))

-- 25 a twin, with the lowest other used slot that has the partition GUID
unfoldable pub twin_check : List ℕ → ℕ → List ℕ → Why
twin_check arr k e = when (ltb (first_twin arr k (part_guid_of e)) 128) (of_slot 25 (first_twin arr k (part_guid_of e) + 1))

-- 28 if the reserved part of a record's flags is not zero
unfoldable pub flag_check : ℕ → Why
flag_check reserved = when (not (eqb reserved 0)) (plain 28)

-- put's tests of a record and of the other slots of an array: 22 over all of them, then 25, and then 28
abbrev pub entry_check : ℕ → ℕ → List ℕ → ℕ → List ℕ → ℕ → Why
entry_check B n arr s e reserved =
    or_else (record_check B n s e)
    (or_else (overlap_check arr (s - 1) e)
    (or_else (twin_check arr (s - 1) e)
    (flag_check reserved)))

-- both after the check
unfoldable pub put_check : ℕ → ℕ → Tables → ℕ → List ℕ → ℕ → Why
put_check B n t s e reserved = or_else (check B n t) (entry_check B n t.front.array s e reserved)

-- the tables with one entry changed, under lay's headers with the GUID kept
unfoldable pub changed : ℕ → ℕ → Tables → ℕ → List ℕ → Tables
changed B n t s e = card_of B n (guid_of t.front) (set_entry t.front.array (s - 1) e)

unfoldable pub put_at : ℕ → ℕ → List ℕ → ℕ → List ℕ → ℕ → Outcome (Answer Unit)
put_at B n xs s e reserved =
    settle (put_check B n (tables_at B n xs) s e reserved) tt xs (with_tables_at B n xs (changed B n (tables_at B n xs) s e))

unfoldable pub clear_at : ℕ → ℕ → List ℕ → ℕ → Outcome (Answer Unit)
clear_at B n xs s =
    settle (slot_check B n (tables_at B n xs) s) tt xs (with_tables_at B n xs (changed B n (tables_at B n xs) s (zeros 128)))

-- the entry of a slot, as the front table has it
abbrev pub slot_entry : Tables → ℕ → List ℕ
slot_entry t s = entry t.front.array (s - 1)

-- 18 no such slot, 23 unused, after the check: the tests of a call on a used slot
unfoldable pub used_check : ℕ → ℕ → Tables → ℕ → Why
used_check B n t s = or_else (slot_check B n t s) (when (not (used (slot_entry t s))) (plain 23))

-- how many bytes the partition of an entry has
abbrev pub partition_bytes : ℕ → List ℕ → ℕ
partition_bytes B e = (last_of e + 1 - first_of e) * B

-- m bytes are to be written, at place p of the partition: 24 past its end, after those. The sum is one of whole numbers
unfoldable pub payload_check : ℕ → ℕ → Tables → ℕ → ℕ → ℕ → Why
payload_check B n t s p m = or_else (used_check B n t s) (when (ltb (partition_bytes B (slot_entry t s)) (p + m)) (plain 24))

abbrev pub payload_place : ℕ → Tables → ℕ → ℕ → ℕ
payload_place B t s p = first_of (slot_entry t s) * B + p

-- the place itself, or the refusal
abbrev pub place_answer : ℕ → List ℕ → ℕ → ℕ → ℕ → Answer BytePlace
place_answer B xs s p m = judged (payload_check B (length xs) (tables B xs) s p m) (record { 0 = payload_place B (tables B xs) s p })

-- the answer is how many bytes were stored
unfoldable pub payload_at : ℕ → ℕ → List ℕ → ℕ → ℕ → List ℕ → Outcome (Answer ℕ)
payload_at B n xs s p ys =
    settle (payload_check B n (tables_at B n xs) s p (length ys)) (length ys) xs (sets xs (payload_place B (tables_at B n xs) s p) ys)

-- ---- the public calls

-- what put tests and stores: the record's 128 bytes, the units of its name after the first zero cleared, and without the reserved flags, which it refuses
abbrev pub put_bytes : Partition → List ℕ
put_bytes p = entry_bytes (tidied p)

abbrev pub lay_outcome : ℕ → List ℕ → Guid → Outcome (Answer Unit)
lay_outcome B xs g = lay_at B (length xs) xs (guid_bytes g)

abbrev pub put_outcome : ℕ → List ℕ → ℕ → Partition → Outcome (Answer Unit)
put_outcome B xs s p = put_at B (length xs) xs s (put_bytes p) p.flags.reserved

abbrev pub clear_outcome : ℕ → List ℕ → ℕ → Outcome (Answer Unit)
clear_outcome B xs s = clear_at B (length xs) xs s

abbrev pub payload_outcome : ℕ → List ℕ → ℕ → ℕ → List ℕ → Outcome (Answer ℕ)
payload_outcome B xs s p ys = payload_at B (length xs) xs s p ys

-- what a read of so many bytes as `out` has leaves there: the partition's from place p on. The answer is how many these are
unfoldable pub read_at : ℕ → ℕ → List ℕ → ℕ → ℕ → List ℕ → Outcome (Answer ℕ)
read_at B n xs s p out =
    settle (payload_check B n (tables_at B n xs) s p (length out)) (length out) out (part xs (payload_place B (tables_at B n xs) s p) (length out))

abbrev pub read_outcome : ℕ → List ℕ → ℕ → ℕ → List ℕ → Outcome (Answer ℕ)
read_outcome B xs s p out = read_at B (length xs) xs s p out

-- a GUID is the one in a table's header: by its fields, and by its sixteen bytes
pub record KeptGuid (c : Copy) (g : Guid) : Type 0 where
  pub fields : g ≡ guid_at (guid_of c) 0
  pub bytes : guid_bytes g ≡ guid_of c

-- a table with array place k changed, under a header's block h
abbrev pub changed_copy : Copy → ℕ → List ℕ → List ℕ → Copy
changed_copy c k e h = record { header = h; array = set_entry c.array k e }

-- the bytes of a table, ys before, with slot s changed under the header of a GUID and an array's sum
abbrev pub changed_bytes : ℕ → ℕ → Side → List ℕ → ℕ → List ℕ → Guid → ℕ → List ℕ
changed_bytes B n side ys s e g parts = copy_bytes side (changed_copy (copy_in B side ys) (s - 1) e (head_block B n side g parts))

-- the entry of a slot in the bytes of a front table
abbrev pub front_entry : ℕ → List ℕ → ℕ → List ℕ
front_entry B ys s = entry (copy_in B Front ys).array (s - 1)
