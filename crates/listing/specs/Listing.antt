-- The listing of a card: its present entries, ascending by slot, after the card check. From document 01, "Listing": the card check, then 15.
-- The row that is lent comes with its own form; here are the count, the entries one by one in three ways of asking, and the answer for a row of m records.
-- Assumes nothing.
use Rattle.std.specs.Prelude.{not, List, map, ℕ, ◌-◌, ltb, length, take, drop}
use Rattle.units.specs.declared.why.Why.{Why}
use Rattle.units.specs.Answer.{Answer, plain, when, or_else, judged}
use Rattle.units.specs.Bytes.{all_zero}
use Rattle.partition.specs.declared.Partition.{Partition}
use Rattle.partition.specs.Format.{entry_at}
use Rattle.partition.specs.Array.{Found, entry_place, present_from}
use Rattle.tables.specs.Lens.{Tables, tables}
use Rattle.tables.specs.Entries.{entry}
use Rattle.tables.specs.Check.{check, slot_check}

-- the slots of the present entries, ascending
unfoldable pub present_slots : Tables → List ℕ
present_slots t = present_from t.front.array 0 0 128

-- an entry with its slot
pub record Listed : Type 0 where
  pub slot : ℕ
  pub partition : Partition

abbrev pub listed : Tables → ℕ → Listed
listed t s = record { slot = s; partition = entry_at t.front.array (entry_place 0 (s - 1)) }

-- how many entries are present
abbrev pub count_answer : ℕ → List ℕ → Answer ℕ
count_answer B xs = judged (check B (length xs) (tables B xs)) (length (present_slots (tables B xs)))

-- the first present slot after a slot, alone in a list, or none; slot 0 stands before the first
abbrev pub next_answer : ℕ → List ℕ → ℕ → Answer (List ℕ)
next_answer B xs after = judged (check B (length xs) (tables B xs)) (take 1 (present_from (tables B xs).front.array 0 after (128 - after)))

-- what slot s holds: 18 after the check, as in clear
abbrev pub slot_read : ℕ → List ℕ → ℕ → Answer Found
slot_read B xs s =
    judged (slot_check B (length xs) (tables B xs) s)
    (record { present = not (all_zero (entry (tables B xs).front.array (s - 1))); partition = entry_at (tables B xs).front.array (entry_place 0 (s - 1)) })

-- present entry k, counted from 0, with its slot and its record, alone in a list; none where k is not below the count
abbrev pub nth_answer : ℕ → List ℕ → ℕ → Answer (List Listed)
nth_answer B xs k = judged (check B (length xs) (tables B xs)) (map (listed (tables B xs)) (take 1 (drop k (present_slots (tables B xs)))))

-- all of them
abbrev pub entries_answer : ℕ → List ℕ → Answer (List Listed)
entries_answer B xs = judged (check B (length xs) (tables B xs)) (map (listed (tables B xs)) (present_slots (tables B xs)))

-- the count, for a lent row of m records: 15 if more entries are present
unfoldable pub listing_check : ℕ → ℕ → Tables → ℕ → Why
listing_check B n t m = or_else (check B n t) (when (ltb m (length (present_slots t))) (plain 15))
