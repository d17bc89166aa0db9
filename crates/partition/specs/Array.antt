-- Reading the entry array that a header names, by document 01, "Partition entry": 3, 7, 2, 6, then 18 for one entry. An entry of 128 zero bytes is absent.
-- Assumes nothing.
use Rattle.std.specs.Prelude.{Bool, false, not, ◌||◌, List, [], ◌∷◌, ℕ, zero, suc, ◌+◌, ◌*◌, ◌-◌, ◌^◌, eqb, ltb, leb, length, get_or, take}
use Rattle.units.specs.declared.BytePlace.{BytePlace}
use Rattle.units.specs.Answer.{Answer, accepted, refuse, pick, and_then, Beside, beside}
use Rattle.units.specs.Bytes.{part, all_zero}
use Rattle.units.specs.Places.{good_size, inside_or_empty}
use Rattle.crc32.specs.Crc.{crc}
use Rattle.header.specs.declared.Header.{Header}
use Rattle.partition.specs.declared.Partition.{Partition}
use Rattle.partition.specs.Format.{entry_at, zero_partition}

-- the entry at array place k, of an array at byte place at
abbrev pub entry_place : ℕ → ℕ → ℕ
entry_place at k = at + k * 128

-- present: not 128 zero bytes, whatever its type is
abbrev pub present : List ℕ → ℕ → ℕ → Bool
present xs at k = not (all_zero (part xs (entry_place at k) 128))

-- the present slots of the n entries from array place k on, ascending
unfoldable pub present_from : List ℕ → ℕ → ℕ → ℕ → List ℕ
present_from xs at k zero = []
present_from xs at k (suc n) = pick (present xs at k) ((k + 1) ∷ present_from xs at (k + 1) n) (present_from xs at (k + 1) n)

-- the first present slot after a slot, of count entries, or 0
unfoldable pub first_slot : List ℕ → ℕ → ℕ → ℕ → ℕ
first_slot xs at count after = get_or (present_from xs at after (count - after)) 0 0

-- where the array stands: 1, 3 if its start passes 64 bits, 7 if an entry is not of 128 bytes, 2 if it is not inside, 6 for another check sum.
-- An empty array is inside anywhere
unfoldable pub array_found : List ℕ → Header → ℕ → Answer BytePlace
array_found xs h b =
    pick (not (good_size b)) (refuse 1)
    (pick (leb (2 ^ 64) (h.part_start.0 * b)) (refuse 3)
    (pick (not (eqb h.part_size 128)) (refuse 7)
    (pick (not (inside_or_empty (length xs) (h.part_start.0 * b) (h.num_parts * 128))) (refuse 2)
    (pick (not (eqb (crc (part xs (h.part_start.0 * b) (h.num_parts * 128))) h.crc32_parts)) (refuse 6)
    (accepted (record { 0 = h.part_start.0 * b }))))))

-- where a slot's entry stands: 18 outside 1 to the entry count
unfoldable pub partition_found : List ℕ → Header → ℕ → ℕ → Answer BytePlace
partition_found xs h b slot =
    and_then (array_found xs h b) (λ at.
    pick (ltb slot 1 || ltb h.num_parts slot) (refuse 18)
    (accepted (record { 0 = entry_place at.0 (slot - 1) })))

-- an entry that is asked for: whether it is present, and its record
pub record Found : Type 0 where
  pub present : Bool
  pub partition : Partition

unfoldable pub partition_read : List ℕ → Header → ℕ → ℕ → Answer Found
partition_read xs h b slot =
    and_then (partition_found xs h b slot) (λ at.
    accepted (record { present = not (all_zero (part xs at.0 128)); partition = entry_at xs at.0 }))

-- how many entries are present
unfoldable pub partition_count : List ℕ → Header → ℕ → Answer ℕ
partition_count xs h b = and_then (array_found xs h b) (λ at. accepted (length (present_from xs at.0 0 h.num_parts)))

-- the first present slot after a slot, alone in a list, or none
unfoldable pub partition_after : List ℕ → Header → ℕ → ℕ → Answer (List ℕ)
partition_after xs h b after =
    and_then (array_found xs h b) (λ at. accepted (take 1 (present_from xs at.0 after (h.num_parts - after))))

-- beside a refusal stands the zero record, absent
abbrev pub reading_of : Answer Found → Beside Found
reading_of r = beside (record { present = false; partition = zero_partition }) r
