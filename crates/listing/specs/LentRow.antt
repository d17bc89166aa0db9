-- The listing of a card into a row of records that the caller lends. From document 01, "Listing": the present entries as in reading the array, with 15 after the card check.
-- Assumes nothing.
use Rattle.std.specs.Prelude.{List, map, ℕ, length}
use Rattle.units.specs.Answer.{Answer, judged}
use Rattle.rows.specs.declared.Entry.{Entry}
use Rattle.rows.specs.Row.{entry_of}
use Rattle.tables.specs.Lens.{Tables, tables}
use Rattle.tables.specs.Check.{check}
use Rattle.listing.specs.Listing.{present_slots, listing_check}

-- the present entries of the front table, ascending by slot
unfoldable pub entries_in : Tables → List Entry
entries_in t = map (entry_of t.front.array 0) (present_slots t)

-- the card check's numbers, before a row is lent
unfoldable pub card_entries : ℕ → List ℕ → Answer (List Entry)
card_entries B xs = judged (check B (length xs) (tables B xs)) (entries_in (tables B xs))

-- for a row of m records: 15 if more entries are present
unfoldable pub listing_read : ℕ → List ℕ → ℕ → Answer (List Entry)
listing_read B xs m = judged (listing_check B (length xs) (tables B xs) m) (entries_in (tables B xs))
