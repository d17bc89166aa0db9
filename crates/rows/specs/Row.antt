-- The present entries of a header's array in a row of records that the caller lends, by document 01, "Partition entry", "Reading the array": the first places
-- hold the present entries with their slots, ascending, the count is returned, and the rest are unchanged; 15 after 3, 7, 2, 6. Assumes nothing.
use Rattle.std.specs.Prelude.{◌≡◌, List, ◌++◌, map, ℕ, ◌-◌, ltb, length, drop}
use Rattle.std.proofs.Common.{sym, ◌∙◌}
use Rattle.units.specs.Answer.{Answer, accepted, refused, refuse, pick, and_then}
use Rattle.header.specs.declared.Header.{Header}
use Rattle.partition.specs.Format.{entry_at}
use Rattle.partition.specs.Array.{entry_place, present_from, array_found}
use Rattle.rows.specs.declared.Entry.{Entry}
use Rattle.rows.specs.Slots.{slots_from, place_each, typed_each}

-- the entry in slot s of an array at byte place at
unfoldable pub entry_of : List ℕ → ℕ → ℕ → Entry
entry_of xs at s = record { slot = record { 0 = s }; partition = entry_at xs (entry_place at (s - 1)) }

-- the present ones of its n entries, ascending by slot
unfoldable pub present_entries : List ℕ → ℕ → ℕ → List Entry
present_entries xs at n = map (entry_of xs at) (present_from xs at 0 n)

-- the entry in slot s of an array of entries of `each` bytes, from its first 128
unfoldable pub entry_each : List ℕ → ℕ → ℕ → ℕ → Entry
entry_each xs each at s = record { slot = record { 0 = s }; partition = entry_at xs (place_each each at (s - 1)) }

-- those of its n entries that are used by their type, ascending by slot
unfoldable pub typed_entries : List ℕ → ℕ → ℕ → ℕ → List Entry
typed_entries xs each at n = map (entry_each xs each at) (slots_from (typed_each xs each at) 0 n)

-- 1, 3, 7, 2, 6, then 15 if more entries are present than a row of m records has places
unfoldable pub partitions_read : List ℕ → Header → ℕ → ℕ → Answer (List Entry)
partitions_read xs h b m =
    and_then (array_found xs h b) (λ at.
    pick (ltb m (length (present_from xs at.0 0 h.num_parts))) (refuse 15)
    (accepted (present_entries xs at.0 h.num_parts)))

-- an answer, and what the lent row holds at the end
pub record RowOutcome : Type 0 where
  pub answer : Answer ℕ
  pub row : List Entry

-- the answer is the count, the first places hold the entries, and the rest are as they were; a refusal changes no place
unfoldable pub row_outcome : Answer (List Entry) → List Entry → RowOutcome
row_outcome (accepted es) row = record { answer = accepted (length es); row = es ++ drop (length es) row }
row_outcome (refused w) row = record { answer = refused w; row = row }

-- a call ends in an outcome: its answer and the row at exit are those of the outcome, which is a function of what it was given
pub record RowEnds (o : RowOutcome) (r : Answer ℕ) (lent : List Entry) : Type 0 where
  pub answer : r ≡ o.answer
  pub row : lent ≡ o.row

-- such a promise allows one answer and one content of the row
pub row-unique : {o : RowOutcome} {r s : Answer ℕ} {i j : List Entry} → RowEnds o r i → RowEnds o s j → (r ≡ s) × (i ≡ j)
row-unique p q = (p.answer ∙ sym q.answer, p.row ∙ sym q.row)
