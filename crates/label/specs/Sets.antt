-- What a judgement tells of the slots of a list: those that carry a date, and the first that fails. From document 02, 13/13. The theorems of proofs/Theorems say it of
-- every accepted and every refused set; no contract cites this file. Assumes nothing.
use Rattle.std.specs.Prelude.{◌≡◌, true, ℕ, ◌≤◌}
use mathlib.Core.List.{List, ◌∷◌, ◌++◌, Memᴰ}
use Rattle.units.specs.declared.why.Why.{Why}
use Rattle.units.specs.Answer.{Answer, accepted, refused, plain}
use Rattle.tables.specs.Lens.{tables}
use Rattle.tables.specs.Entries.{used}
use Rattle.card.specs.Calls.{slot_entry}
use Rattle.label.specs.declared.Label.{Label}
use Rattle.label.specs.declared.Dated.{Dated}
use Rattle.label.specs.Labels.{dated_of}
use Rattle.label.specs.Calls.{read_label_answer}

-- a label was read, and has the date and the style revision
pub record Agrees (d : Dated) (a : Answer Label) : Type 0 where
  pub label : Label
  pub reads : a ≡ accepted label
  pub dated : dated_of label ≡ d

-- a slot of an image carries a date and style revision: it is one of the table's, used, and its label reads and has them
pub record Carries (B : ℕ) (xs : List ℕ) (d : Dated) (s : ℕ) : Type 0 where
  pub low : 1 ≤ s
  pub high : s ≤ 128
  pub used : used (slot_entry (tables B xs) s) ≡ true
  pub agrees : Agrees d (read_label_answer B xs s)

-- an answer fails by itself, or is a label with another date or style revision, by 37
pub data Fails (d : Dated) (a : Answer Label) (w : Why) : Type 0 where
  itself : a ≡ refused w → Fails d a w
  differs : (l : Label) → a ≡ accepted l → (dated_of l ≡ d → ⊥) → w ≡ plain 37 → Fails d a w

-- slot s is the first of the list that fails: it is the first of all, and fails by itself; or the first slot and each between it and s carry one date, and s fails beside it
pub data FirstBad (B : ℕ) (xs ss : List ℕ) (s : ℕ) (w : Why) : Type 0 where
  at_once : (after : List ℕ) → ss ≡ s ∷ after → read_label_answer B xs s ≡ refused w → FirstBad B xs ss s w
  later : (first : ℕ) (between after : List ℕ) (d : Dated) → ss ≡ first ∷ (between ++ (s ∷ after))
      → Carries B xs d first → ((t : ℕ) → Memᴰ t between → Carries B xs d t) → Fails d (read_label_answer B xs s) w → FirstBad B xs ss s w
