-- The reader of a pulled card: the front table if its header, layout, array and entries pass, else the back one by the same tests, else 27. What it shows: the disk
-- GUID and the array, so all 128 slots. From document 02, 6/13. Assumes nothing.
use Rattle.std.specs.Prelude.{◌≡◌, Bool, not, ◌&&◌, List, ℕ, ◌+◌, ◌-◌, eqb, ltb, length, take}
use Rattle.units.specs.declared.why.Why.{Why}
use Rattle.units.specs.Answer.{Answer, plain, pick, when, or_else, judged}
use Rattle.partition.specs.Format.{entry_at}
use Rattle.partition.specs.Array.{Found, entry_place, present, present_from}
use Rattle.rows.specs.declared.Entry.{Entry}
use Rattle.rows.specs.Row.{present_entries}
use Rattle.tables.specs.Places.{back_array}
use Rattle.tables.specs.Lens.{Side, Front, Back, Copy, Tables, side_of, copy_at, tables}
use Rattle.tables.specs.Entries.{entries_ok}
use Rattle.tables.specs.Check.{room_check, table_check, guid_of, bad_slot}
use Rattle.reader.specs.declared.inner.Choice.{Choice}

-- one table's header, layout, array and entries pass
unfoldable pub passes : ℕ → ℕ → Side → Copy → Bool
passes B n s c = eqb (table_check B n s c).number 0 && entries_ok B n c.array

-- the front, else the back, else neither
abbrev pub chosen : {X : Type 0} → ℕ → ℕ → Tables → X → X → X → X
chosen B n t x y z = pick (passes B n Front t.front) x (pick (passes B n Back t.back) y z)

-- what a reader shows: a GUID's sixteen bytes and an array, or nothing
pub data Shown : Type 0 where
  none : Shown
  table : (g arr : List ℕ) → Shown

abbrev pub table_of : Copy → Shown
table_of c = table (guid_of c) c.array

unfoldable pub shown : ℕ → ℕ → Tables → Shown
shown B n t = chosen B n t (table_of t.front) (table_of t.back) none

-- 27 where neither passes
abbrev pub chosen_number : ℕ → ℕ → Tables → ℕ
chosen_number B n t = chosen B n t 0 0 27

-- after 1, 8, 10
unfoldable pub reader_check : ℕ → ℕ → Tables → Why
reader_check B n t = or_else (room_check B n) (plain (chosen_number B n t))

-- whether it takes the back table; where neither passes it is refused by 27, and this is not asked
abbrev pub takes_back : ℕ → ℕ → Tables → Bool
takes_back B n t = not (passes B n Front t.front)

abbrev pub taken_side : ℕ → ℕ → Tables → Side
taken_side B n t = side_of (takes_back B n t)

-- the array of the table that it takes
abbrev pub taken_array : ℕ → ℕ → Tables → List ℕ
taken_array B n t = (copy_at (taken_side B n t) t).array

-- where a side's array starts in an image of n bytes
abbrev pub array_byte_place : ℕ → ℕ → Side → ℕ
array_byte_place B n Front = B + B
array_byte_place B n Back = back_array B n

-- what the choice between the tables of an image tells: the number that refuses it, and where none does the side that is taken
abbrev pub Chosen : ℕ → List ℕ → Choice → Type 0
Chosen B xs c = (c.number ≡ (reader_check B (length xs) (tables B xs)).number) × (c.number ≡ 0 → c.back ≡ takes_back B (length xs) (tables B xs))

-- ---- the calls, on an image

-- which table it takes
abbrev pub side_answer : ℕ → List ℕ → Answer Side
side_answer B xs = judged (reader_check B (length xs) (tables B xs)) (taken_side B (length xs) (tables B xs))

-- how many entries are present
abbrev pub reader_count : ℕ → List ℕ → Answer ℕ
reader_count B xs = judged (reader_check B (length xs) (tables B xs)) (length (present_from (taken_array B (length xs) (tables B xs)) 0 0 128))

-- the first present slot after a slot, alone in a list, or none; slot 0 stands before the first
abbrev pub reader_next : ℕ → List ℕ → ℕ → Answer (List ℕ)
reader_next B xs after = judged (reader_check B (length xs) (tables B xs)) (take 1 (present_from (taken_array B (length xs) (tables B xs)) 0 after (128 - after)))

-- what slot s holds: 18 last
unfoldable pub reader_slot_check : ℕ → ℕ → Tables → ℕ → Why
reader_slot_check B n t s = or_else (reader_check B n t) (when (bad_slot s) (plain 18))

abbrev pub held_in : List ℕ → ℕ → Found
held_in arr s = record { present = present arr 0 (s - 1); partition = entry_at arr (entry_place 0 (s - 1)) }

abbrev pub reader_slot : ℕ → List ℕ → ℕ → Answer Found
reader_slot B xs s = judged (reader_slot_check B (length xs) (tables B xs) s) (held_in (taken_array B (length xs) (tables B xs)) s)

-- all present entries, before a row is lent, and for a row of m records: 15 last
abbrev pub reader_entries : ℕ → List ℕ → Answer (List Entry)
reader_entries B xs = judged (reader_check B (length xs) (tables B xs)) (present_entries (taken_array B (length xs) (tables B xs)) 0 128)

unfoldable pub reader_row_check : ℕ → ℕ → Tables → ℕ → Why
reader_row_check B n t m = or_else (reader_check B n t) (when (ltb m (length (present_entries (taken_array B n t) 0 128))) (plain 15))

abbrev pub reader_read : ℕ → List ℕ → ℕ → Answer (List Entry)
reader_read B xs m = judged (reader_row_check B (length xs) (tables B xs) m) (present_entries (taken_array B (length xs) (tables B xs)) 0 128)
