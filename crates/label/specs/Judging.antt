-- The judgement of a set of slots: one date and one style revision, or the first slot in the list's order that fails or differs from the first.
-- From document 02, 13/13: 1, 38 an empty list, the card check's; then slot by slot 18, 23, 34, 35, 36, 37 another date or another style revision than the first
-- slot's. A slot that is named twice is read twice, with one answer. Assumes nothing.
use Rattle.std.specs.Prelude.{Option, Some, None, not, List, [], ◌∷◌, ℕ, eqb, length}
use Rattle.units.specs.declared.why.Why.{Why}
use Rattle.units.specs.Answer.{Answer, accepted, refused, refuse, plain, pick, and_then, if_zero, when, or_else}
use Rattle.units.specs.Places.{good_size}
use Rattle.tables.specs.Lens.{Tables, tables}
use Rattle.tables.specs.Check.{check}
use Rattle.label.specs.declared.Label.{Label}
use Rattle.label.specs.declared.Dated.{Dated}
use Rattle.label.specs.Labels.{dated_of, same_dated}
use Rattle.label.specs.Calls.{read_label_answer}

-- a slot as the list names it, and what reading its label answers
pub record Shown : Type 0 where
  pub slot : ℕ
  pub label : Answer Label

-- what a set comes to: date and style revision, or a refusal with the slot of the list that it names, 0 where it names none
pub record SetAnswer : Type 0 where
  pub answer : Answer Dated
  pub slot : ℕ

abbrev pub one_date : Dated → SetAnswer
one_date d = record { answer = accepted d; slot = 0 }

abbrev pub refused_at : Why → ℕ → SetAnswer
refused_at w s = record { answer = refused w; slot = s }

-- the date of a slot beside the first slot's: 37
abbrev pub agreeing : Option Dated → Dated → Answer Dated
agreeing None e = accepted e
agreeing (Some d) e = pick (same_dated d e) (accepted d) (refuse 37)

-- one slot: its own refusals, then 37. Accepted, it gives the date of the first slot, which the next slots are held against
unfoldable pub step_answer : Option Dated → Answer Label → Answer Dated
step_answer a l = and_then l (λ (x : Label). agreeing a (dated_of x))

-- where the list ends: the date, or 38 if there was no slot
abbrev pub at_end : Option Dated → SetAnswer
at_end None = refused_at (plain 38) 0
at_end (Some d) = one_date d

-- after one slot: what is left of the list, or the refusal with that slot
abbrev pub onward : Answer Dated → ℕ → (Dated → SetAnswer) → SetAnswer
onward (accepted d) s next = next d
onward (refused w) s next = refused_at w s

-- the slots in their order
unfoldable pub judge_from : Option Dated → List Shown → SetAnswer
judge_from a [] = at_end a
judge_from a (x ∷ xs) = onward (step_answer a x.label) x.slot (λ (d : Dated). judge_from (Some d) xs)

-- the slots of a list, as an image shows them
unfoldable pub shown_in : ℕ → List ℕ → List ℕ → List Shown
shown_in B xs [] = []
shown_in B xs (s ∷ ss) = record { slot = s; label = read_label_answer B xs s } ∷ shown_in B xs ss

-- 1, 38, the card check's
unfoldable pub set_check : ℕ → ℕ → Tables → List ℕ → Why
set_check B n t ss =
    or_else (when (not (good_size B)) (plain 1))
    (or_else (when (eqb (length ss) 0) (plain 38))
    (check B n t))

unfoldable pub judge_answer : ℕ → List ℕ → List ℕ → SetAnswer
judge_answer B xs ss =
    if_zero (set_check B (length xs) (tables B xs) ss).number
    (judge_from None (shown_in B xs ss))
    (refused_at (set_check B (length xs) (tables B xs) ss) 0)
