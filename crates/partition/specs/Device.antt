-- Writing an entry alone. To an image, by document 01, "Partition entry", device writes: 7, then 3 (start product, index product, their sum, the zeroed length,
-- the end), then 2. None of the five passes 64 bits unless the end does, so one test says them all (`end-passes` in proofs/Laws). By document 02, 7/13, 28 comes
-- after 7 if the reserved part of the flags needs more than 45 bits; so it is in filling a lent buffer, which has no other refusal. Assumes nothing.
use Rattle.std.specs.Prelude.{not, ◌||◌, List, ℕ, ◌+◌, ◌*◌, ◌^◌, eqb, ltb, leb, length, replicate}
use Rattle.std.proofs.lemmas.List.Edits.{sets}
use Rattle.units.specs.declared.BytePlace.{BytePlace}
use Rattle.units.specs.Answer.{Answer, accepted, refused, refuse, pick, and_then, Outcome, gives}
use Rattle.units.specs.Places.{good_size, inside_or_empty}
use Rattle.partition.specs.declared.Flags.{Flags}
use Rattle.partition.specs.declared.Partition.{Partition}
use Rattle.partition.specs.Flags.{too_wide}
use Rattle.partition.specs.Format.{entry_bytes, fitted}

-- the place `offset` bytes after base, if `n` bytes from there on end below 2 ^ 64: 3
unfoldable pub run_place : ℕ → ℕ → ℕ → Answer BytePlace
run_place base offset n = pick (leb (2 ^ 64) (base + offset + n)) (refuse 3) (accepted (record { 0 = base + offset }))

-- the sizes of a block and of an entry: 1, 7
unfoldable pub device_sizes : ℕ → ℕ → Answer Unit
device_sizes b size =
    pick (not (good_size b)) (refuse 1)
    (pick (eqb size 0 || ltb 4096 size) (refuse 7)
    (accepted tt))

-- where entry `index` of an array of entries of `size` bytes starts, if `count` entries from there on end below 2 ^ 64: 1, 7, 3
unfoldable pub device_place : ℕ → ℕ → ℕ → ℕ → ℕ → Answer BytePlace
device_place start index b size count = and_then (device_sizes b size) (λ u. run_place (start * b) (index * size) (count * size))

-- the same for one entry with its flags: 1, 7, 28, 3
unfoldable pub entry_device : Flags → ℕ → ℕ → ℕ → ℕ → Answer BytePlace
entry_device f start index b size =
    and_then (device_sizes b size) (λ u.
    pick (too_wide f) (refuse 28)
    (run_place (start * b) (index * size) (1 * size)))

-- n bytes stored at a place that may have been refused: 2, unless there are none; the answer is n
unfoldable pub stored_at : List ℕ → Answer BytePlace → ℕ → List ℕ → Outcome (Answer ℕ)
stored_at xs (refused w) n vs = gives (refused w) xs
stored_at xs (accepted at) n vs =
    pick (not (inside_or_empty (length xs) at.0 n)) (gives (refuse 2) xs)
    (gives (accepted n) (sets xs at.0 vs))

-- a record in a lent buffer: 28 whatever its length is, else the record's bytes, cut or filled to that length
unfoldable pub entry_written : List ℕ → Partition → Outcome (Answer Unit)
entry_written xs p =
    pick (too_wide p.flags) (gives (refuse 28) xs)
    (gives (accepted tt) (fitted (length xs) (entry_bytes p)))

-- one entry: the record's bytes, cut or filled to the entry size
abbrev pub entry_stored : List ℕ → Partition → ℕ → ℕ → ℕ → ℕ → Outcome (Answer ℕ)
entry_stored xs p index start b size = stored_at xs (entry_device p.flags start index b size) size (fitted size (entry_bytes p))

-- zeros over `count` entries; none are zeroed at any place that does not overflow
abbrev pub zeros_stored : List ℕ → ℕ → ℕ → ℕ → ℕ → ℕ → Outcome (Answer ℕ)
zeros_stored xs index count start b size = stored_at xs (device_place start index b size count) (count * size) (replicate (count * size) 0)
