-- Reading the entry array that a header names, by UEFI (UEFI 2.10, 5.3.3) and document 02, 9/13: 1, 7, 3, 2, 6, then 18 for one entry and 15 for a row. An entry is absent exactly if
-- its type is nil, and its bytes after 128 are passed over. Assumes nothing.
use Rattle.std.specs.Prelude.{true, false, not, ◌||◌, List, ℕ, ◌*◌, ◌-◌, ◌^◌, eqb, ltb, leb, length, take}
use Rattle.units.specs.declared.BytePlace.{BytePlace}
use Rattle.units.specs.Answer.{Answer, accepted, refuse, pick, and_then}
use Rattle.units.specs.Bytes.{part}
use Rattle.units.specs.Places.{good_size, inside_or_empty}
use Rattle.crc32.specs.Crc.{crc}
use Rattle.header.specs.declared.Header.{Header}
use Rattle.header.specs.Writing.{array_bytes}
use Rattle.partition.specs.Format.{nil_type_at, entry_at, zero_partition}
use Rattle.partition.specs.Array.{Found}
use Rattle.rows.specs.declared.Entry.{Entry}
use Rattle.rows.specs.Slots.{slots_from, place_each, typed_each}
use Rattle.rows.specs.Row.{typed_entries}
use Rattle.uefi.specs.Reading.{primary_by_uefi, backup_by_uefi}
use Rattle.uefi.specs.Sizes.{good_each}

-- where the array stands: 1, 7 for a size that entries cannot have, 3 if its start passes 64 bits, 2 if it is not inside, 6 for another sum. An empty array is inside anywhere
unfoldable pub array_by_uefi : List ℕ → Header → ℕ → Answer BytePlace
array_by_uefi xs h b =
    pick (not (good_size b)) (refuse 1)
    (pick (not (good_each h.part_size)) (refuse 7)
    (pick (leb (2 ^ 64) (h.part_start.0 * b)) (refuse 3)
    (pick (not (inside_or_empty (length xs) (h.part_start.0 * b) (array_bytes h))) (refuse 2)
    (pick (not (eqb (crc (part xs (h.part_start.0 * b) (array_bytes h))) h.crc32_parts)) (refuse 6)
    (accepted (record { 0 = h.part_start.0 * b }))))))

-- the used entries with their slots, ascending
unfoldable pub entries_by_uefi : List ℕ → Header → ℕ → Answer (List Entry)
entries_by_uefi xs h b = and_then (array_by_uefi xs h b) (λ at. accepted (typed_entries xs h.part_size at.0 h.num_parts))

-- how many there are
abbrev pub counted : Answer (List Entry) → Answer ℕ
counted a = and_then a (λ es. accepted (length es))

-- the first used slot after a slot, alone in a list, or none
unfoldable pub after_by_uefi : List ℕ → Header → ℕ → ℕ → Answer (List ℕ)
after_by_uefi xs h b after =
    and_then (array_by_uefi xs h b) (λ at. accepted (take 1 (slots_from (typed_each xs h.part_size at.0) after (h.num_parts - after))))

-- where a slot's entry stands: 18 outside 1 to the entry count
unfoldable pub place_by_uefi : List ℕ → Header → ℕ → ℕ → Answer BytePlace
place_by_uefi xs h b slot =
    and_then (array_by_uefi xs h b) (λ at.
    pick (ltb slot 1 || ltb h.num_parts slot) (refuse 18)
    (accepted (record { 0 = place_each h.part_size at.0 (slot - 1) })))

-- what an entry holds: its record, from its first 128 bytes, or of a nil type none
unfoldable pub held_at : List ℕ → ℕ → Found
held_at xs at = pick (nil_type_at xs at) (record { present = false; partition = zero_partition }) (record { present = true; partition = entry_at xs at })

unfoldable pub entry_by_uefi : List ℕ → Header → ℕ → ℕ → Answer Found
entry_by_uefi xs h b slot = and_then (place_by_uefi xs h b slot) (λ at. accepted (held_at xs at.0))

-- a table in one: its header's refusals, then its array's
unfoldable pub primary_entries : List ℕ → ℕ → Answer (List Entry)
primary_entries xs b = and_then (primary_by_uefi xs b) (λ h. entries_by_uefi xs h b)

unfoldable pub backup_entries : List ℕ → ℕ → Answer (List Entry)
backup_entries xs b = and_then (backup_by_uefi xs b) (λ h. entries_by_uefi xs h b)
