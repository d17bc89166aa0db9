-- What reading and writing one label answers, and the image that a write leaves. From document 02, 13/13: reading, the card check, 18, 23, 34, 35, 36; writing, the card
-- check, 18, 23, 36. A label write is a payload write of its 13 bytes at place 0. Assumes nothing.
use Rattle.std.specs.Prelude.{not, List, ℕ, length}
use Rattle.std.proofs.lemmas.List.Edits.{sets}
use Rattle.units.specs.declared.why.Why.{Why}
use Rattle.units.specs.Answer.{Answer, plain, when, or_else, judged, Outcome, settle}
use Rattle.units.specs.Bytes.{part}
use Rattle.tables.specs.Lens.{Tables, tables}
use Rattle.card.specs.Calls.{used_check, payload_place}
use Rattle.label.specs.declared.Label.{Label}
use Rattle.label.specs.Labels.{good_date, label_at, label_check, label_bytes}

-- where the label of a slot stands: its partition's first byte
abbrev pub label_place : ℕ → Tables → ℕ → ℕ
label_place B t s = payload_place B t s 0

-- the 13 bytes there
abbrev pub label_part : ℕ → List ℕ → ℕ → List ℕ
label_part B xs s = part xs (label_place B (tables B xs) s) 13

-- what refuses a read: the card check's, 18, 23, and then what refuses the bytes
unfoldable pub read_check : ℕ → List ℕ → ℕ → Why
read_check B xs s = or_else (used_check B (length xs) (tables B xs) s) (label_check (label_part B xs s))

abbrev pub read_label_answer : ℕ → List ℕ → ℕ → Answer Label
read_label_answer B xs s = judged (read_check B xs s) (label_at (label_part B xs s))

-- what refuses a write: the card check's, 18, 23, and then the date
unfoldable pub write_check : ℕ → ℕ → Tables → ℕ → Label → Why
write_check B n t s l = or_else (used_check B n t s) (when (not (good_date l.month l.day)) (plain 36))

unfoldable pub write_label_outcome : ℕ → List ℕ → ℕ → Label → Outcome (Answer Unit)
write_label_outcome B xs s l =
    settle (write_check B (length xs) (tables B xs) s l) tt xs (sets xs (label_place B (tables B xs) s) (label_bytes l))
