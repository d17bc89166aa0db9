-- The present entries in bytes that the caller lends, 136 a row, ascending by slot. From document 01, "Reading the array" and "Listing": the count is returned, and the bytes
-- after the last row are unchanged. Assumes nothing.
use Rattle.std.specs.Prelude.{List, [], ◌∷◌, ◌++◌, ℕ, length}
use Rattle.std.proofs.lemmas.List.Edits.{sets}
use Rattle.units.specs.Answer.{Answer, accepted, refused, Outcome, gives}
use Rattle.units.specs.Bytes.{bytes}
use Rattle.partition.specs.Format.{entry_bytes}
use Rattle.rows.specs.declared.Entry.{Entry}

-- the slot in eight bytes, least first, then the 128 bytes of the record
unfoldable pub row_bytes : Entry → List ℕ
row_bytes e = bytes 8 e.slot.0 ++ entry_bytes e.partition

unfoldable pub rows_bytes : List Entry → List ℕ
rows_bytes [] = []
rows_bytes (e ∷ es) = row_bytes e ++ rows_bytes es

-- the answer is the count, and the rows stand from the first lent byte on; a refusal changes no byte
unfoldable pub bytes_outcome : Answer (List Entry) → List ℕ → Outcome (Answer ℕ)
bytes_outcome (accepted es) out = gives (accepted (length es)) (sets out 0 (rows_bytes es))
bytes_outcome (refused w) out = gives (refused w) out
