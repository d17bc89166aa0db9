-- The two tables of an image: cut out, and put back. All that the card calls do depends on the image's length, the block size and these.
-- From document 01, "The card calls": a table is one header block and the blocks of its array. Assumes nothing.
use Rattle.std.specs.Prelude.{◌⊎◌, Bool, true, false, List, ◌++◌, ℕ, ◌+◌, ◌≤◌, ◌<◌, length}
use Rattle.std.proofs.lemmas.List.Edits.{sets}
use Rattle.units.specs.Bytes.{part}
use Rattle.tables.specs.Places.{back_array, back_header}

-- the front table and the back one
pub data Side : Type 0 where
  Front Back : Side

-- the code's word for a side
abbrev pub side_of : Bool → Side
side_of false = Front
side_of true = Back

-- a table: its header's block and its array
pub record Copy : Type 0 where
  pub header : List ℕ
  pub array : List ℕ

pub record Tables : Type 0 where
  pub front : Copy
  pub back : Copy

-- ---- a table by its own B + 16,384 bytes: in front the header's block and then the array, at the back the array and then the header's block

-- where the header's block and the array stand in them
abbrev pub header_in : Side → ℕ
header_in Front = 0
header_in Back = 16384

abbrev pub array_in : ℕ → Side → ℕ
array_in B Front = B
array_in B Back = 0

-- the table that they are
unfoldable pub copy_in : ℕ → Side → List ℕ → Copy
copy_in B s ys = record { header = part ys (header_in s) B; array = part ys (array_in B s) 16384 }

-- and the bytes of a table
abbrev pub copy_bytes : Side → Copy → List ℕ
copy_bytes Front c = c.header ++ c.array
copy_bytes Back c = c.array ++ c.header

-- both tables by the bytes of each
abbrev pub copies : ℕ → List ℕ → List ℕ → Tables
copies B f k = record { front = copy_in B Front f; back = copy_in B Back k }

-- ---- the tables of an image of n bytes

unfoldable pub tables_at : ℕ → ℕ → List ℕ → Tables
tables_at B n xs =
    record {
      front = record { header = part xs B B; array = part xs (B + B) 16384 };
      back = record { header = part xs (back_header B n) B; array = part xs (back_array B n) 16384 };
    }

unfoldable pub with_tables_at : ℕ → ℕ → List ℕ → Tables → List ℕ
with_tables_at B n xs t = sets (sets xs B (copy_bytes Front t.front)) (back_array B n) (copy_bytes Back t.back)

abbrev pub tables : ℕ → List ℕ → Tables
tables B xs = tables_at B (length xs) xs

abbrev pub with_tables : ℕ → List ℕ → Tables → List ℕ
with_tables B xs t = with_tables_at B (length xs) xs t

-- byte i lies in neither table
abbrev pub OutsideTables : ℕ → ℕ → ℕ → Type 0
OutsideTables B n i = ((i < B) ⊎ (B + B + 16384 ≤ i)) × ((i < back_array B n) ⊎ (back_header B n + B ≤ i))

-- ---- one table of the two, and the tables with another in its place

abbrev pub other : Side → Side
other Front = Back
other Back = Front

abbrev pub copy_at : Side → Tables → Copy
copy_at Front t = t.front
copy_at Back t = t.back

abbrev pub with_copy : Side → Copy → Tables → Tables
with_copy Front c t = record { front = c; back = t.back }
with_copy Back c t = record { front = t.front; back = c }

abbrev pub with_header : Side → List ℕ → Tables → Tables
with_header s h t = with_copy s (record { header = h; array = (copy_at s t).array }) t

abbrev pub with_array : Side → List ℕ → Tables → Tables
with_array s a t = with_copy s (record { header = (copy_at s t).header; array = a }) t
