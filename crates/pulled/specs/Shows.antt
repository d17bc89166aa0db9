-- What the reader lists of a card: the entries of the table that it shows. From document 02, 6/13. Assumes nothing.
use Rattle.std.specs.Prelude.{List, [], map, ℕ, ◌-◌, length}
use Rattle.units.specs.Answer.{Answer, judged}
use Rattle.partition.specs.Format.{entry_at}
use Rattle.partition.specs.Array.{entry_place, present_from}
use Rattle.tables.specs.Lens.{tables}
use Rattle.listing.specs.Listing.{Listed}
use Rattle.reader.specs.Reader.{Shown, none, table, shown, reader_check}

-- the entries of an array, as the listing has them; none where nothing is shown
abbrev pub entries_of : List ℕ → List Listed
entries_of arr = map (λ (s : ℕ). record { slot = s; partition = entry_at arr (entry_place 0 (s - 1)) }) (present_from arr 0 0 128)

abbrev pub shown_entries : Shown → List Listed
shown_entries none = []
shown_entries (table g arr) = entries_of arr

abbrev pub reader_answer : ℕ → List ℕ → Answer (List Listed)
reader_answer B xs = judged (reader_check B (length xs) (tables B xs)) (shown_entries (shown B (length xs) (tables B xs)))
