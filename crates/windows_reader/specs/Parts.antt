-- The part of a window that the reader takes, and what a list of such a part is. From document 02, 10/13: the reader of the array chooses the good copy and hands back that part of the head or of the
-- tail, or an empty part of the head with a refusal. Assumes nothing.
use Rattle.std.specs.Prelude.{◌≡◌, List, ℕ, ◌+◌, ◌*◌, ltb, length}
use Rattle.units.specs.declared.why.Why.{Why}
use Rattle.units.specs.Answer.{Answer, plain, when, or_else, if_zero, judged}
use Rattle.units.specs.Bytes.{part}
use Rattle.rows.specs.declared.Entry.{Entry}
use Rattle.rows.specs.declared.inner.Plan.{Plan}
use Rattle.rows.specs.Row.{present_entries}
use Rattle.rows.specs.Plans.{Made, planned}
use Rattle.tables.specs.Lens.{Side, Front, Back}
use Rattle.reader.specs.declared.inner.Choice.{Choice}
use Rattle.reader.specs.Reader.{reader_check, takes_back, taken_side, reader_entries}
use Rattle.windows.specs.Windows.{window_tables, window_answer, window_why}

-- the array in a window: in the head after block 0 and the header's block, in the tail from its start
abbrev pub array_of : ℕ → Side → List ℕ → List ℕ → List ℕ
array_of B Front head tail = part head (B + B) 16384
array_of B Back head tail = part tail 0 16384

-- where it starts, of windows that start at h and at t
abbrev pub array_from : ℕ → Side → ℕ × ℕ → ℕ × ℕ → ℕ × ℕ
array_from B Front h t = (h.0, B + B + h.1)
array_from B Back h t = (t.0, 0 + t.1)

-- what refuses the reader of windows
abbrev pub reader_why : ℕ → ℕ → List ℕ → List ℕ → Why
reader_why B N head tail = window_why B N head tail (reader_check B)

-- the part of the head or of the tail that has the good array, 16,384 bytes; beside a refusal an empty one of the head
unfoldable pub good_part : ℕ → ℕ → List ℕ → List ℕ → List ℕ
good_part B N head tail =
    if_zero (reader_why B N head tail).number (array_of B (taken_side B (N * B) (window_tables B head tail)) head tail) (part head 0 0)

unfoldable pub good_from : ℕ → ℕ → List ℕ → List ℕ → ℕ × ℕ → ℕ × ℕ → ℕ × ℕ
good_from B N head tail h t =
    if_zero (reader_why B N head tail).number (array_from B (taken_side B (N * B) (window_tables B head tail)) h t) (h.0, 0 + h.1)

-- what the choice between the tables of windows tells: the number that refuses it, and where none does the side that is taken
abbrev pub ChosenIn : ℕ → ℕ → List ℕ → List ℕ → Choice → Type 0
ChosenIn B N head tail c = (c.number ≡ (reader_why B N head tail).number) × (c.number ≡ 0 → c.back ≡ takes_back B (N * B) (window_tables B head tail))

-- a plan over that part is one of what the reader shows
abbrev pub PlannedIn : ℕ → ℕ → List ℕ → List ℕ → Plan → Type 0
PlannedIn B N head tail p = Made (good_part B N head tail) p × (planned (good_part B N head tail) p ≡ window_answer B N head tail (reader_entries B))

-- ---- the list of a part: the present entries of an array that was handed back, 2 where it is shorter than 16,384 bytes, as an empty one is

abbrev pub part_entries : List ℕ → Answer (List Entry)
part_entries xs = judged (when (ltb (length xs) 16384) (plain 2)) (present_entries xs 0 128)

-- for a row of m records: 15 last
unfoldable pub part_check : List ℕ → ℕ → Why
part_check xs m = or_else (when (ltb (length xs) 16384) (plain 2)) (when (ltb m (length (present_entries xs 0 128))) (plain 15))

abbrev pub part_read : List ℕ → ℕ → Answer (List Entry)
part_read xs m = judged (part_check xs m) (present_entries xs 0 128)
