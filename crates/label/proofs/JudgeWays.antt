-- The ways out of the judgement of a set, one law for each: what the tests and one slot's step told, and what the definition then gives.
-- No contract cites this file. Assumes nothing.
use Rattle.std.specs.Prelude.{Option, Some, None}
use mathlib.Core.Path.{◌≡◌, refl, sym, ap, ◌∙◌}
use mathlib.Core.Bool.{true, false}
use mathlib.Core.List.{List, ◌∷◌}
use Prim.Native.Nat.{ℕ, zero, suc, ◌+◌, ◌≤◌, ◌<◌}
use native.Mathlib.Omega.{arith}
use lib.Dec.{eqb}
use lib.ListN.{length, drop, get_or, drop_of_length-le}
use lib.Seq.{drop-cons}
use Rattle.units.specs.declared.why.Why.{Why}
use Rattle.units.specs.Answer.{Answer, accepted, refused, refuse, or_else, if_zero}
use Rattle.units.specs.Places.{good_size}
use Rattle.tables.specs.Lens.{tables}
use Rattle.tables.specs.Check.{check, check_answer}
use Rattle.label.specs.declared.Label.{Label}
use Rattle.label.specs.declared.Dated.{Dated}
use Rattle.label.specs.Labels.{dated_of, same_dated}
use Rattle.label.specs.Calls.{read_label_answer}
use Rattle.label.specs.Judging.{SetAnswer, agreeing, step_answer, at_end, judge_from, shown_in, set_check, judge_answer}
use Rattle.label.proofs.Ways.{judged-refused, judged-accepted}

-- ---- one slot beside the first

module _ (a : Option Dated) (e : Dated) where
  pub agree-first : a ≡ None → accepted e ≡ agreeing a e
  agree-first p = rw p

  module _ {d : Dated} (p : a ≡ Some d) where
    pub agree-37 : same_dated d e ≡ false → refuse 37 ≡ agreeing a e
    agree-37 q = rw (p, q)

    pub agree_same : same_dated d e ≡ true → accepted d ≡ agreeing a e
    agree_same q = rw (p, q)

module _ (a : Option Dated) {l : Answer Label} where
  pub step-refused : {w : Why} → l ≡ refused w → refused w ≡ step_answer a l
  unfolding step_answer
  step-refused e = rw e

  pub step-read : {x : Label} {d : Dated} {r : Answer Dated} → l ≡ accepted x → d ≡ dated_of x → r ≡ agreeing a d → r ≡ step_answer a l
  unfolding step_answer
  step-read e q h = h ∙ ap (λ (y : Dated). agreeing a y) q ∙ rw e

-- ---- the list

module _ (B : ℕ) (xs ss : List ℕ) (i : ℕ) where
  pub shown-step : i < length ss → shown_in B xs (drop i ss) ≡ record { slot = get_or ss i 0; label = read_label_answer B xs (get_or ss i 0) } ∷ shown_in B xs (drop (i + 1) ss)
  unfolding shown_in
  shown-step h = let e : i + 1 ≡ suc i = omega arith in rw (e, drop-cons ss i 0 h)

  -- a slot that agrees: the rest of the list, held against its first date
  pub judge-next : i < length ss → (a : Option Dated) {d : Dated} → step_answer a (read_label_answer B xs (get_or ss i 0)) ≡ accepted d → judge_from (Some d) (shown_in B xs (drop (i + 1) ss)) ≡ judge_from a (shown_in B xs (drop i ss))
  unfolding judge_from
  judge-next h a e = rw (shown-step h, e)

  -- one that is refused: the end
  pub judge-stop : i < length ss → (a : Option Dated) {w : Why} → step_answer a (read_label_answer B xs (get_or ss i 0)) ≡ refused w → record { answer = refused w; slot = get_or ss i 0 } ≡ judge_from a (shown_in B xs (drop i ss))
  unfolding judge_from
  judge-stop h a e = rw (shown-step h, e)

  pub judge-end : length ss ≤ i → (a : Option Dated) → at_end a ≡ judge_from a (shown_in B xs (drop i ss))
  unfolding judge_from shown_in
  judge-end h a = rw (drop_of_length-le ss h)

-- ---- 1, 38, the card check's

module _ (B : ℕ) (xs ss : List ℕ) where
  pub judge-1 : good_size B ≡ false → record { answer = refuse 1; slot = 0 } ≡ judge_answer B xs ss
  unfolding judge_answer set_check or_else
  judge-1 g = rw g

  module _ (g : good_size B ≡ true) where
    pub judge-38 : eqb (length ss) 0 ≡ true → record { answer = refuse 38; slot = 0 } ≡ judge_answer B xs ss
    unfolding judge_answer set_check or_else
    judge-38 e = rw (g, e)

    module _ (e : eqb (length ss) 0 ≡ false) where
      pub set-check : set_check B (length xs) (tables B xs) ss ≡ check B (length xs) (tables B xs)
      unfolding set_check or_else
      set-check = rw (g, e)

      answered : judge_answer B xs ss ≡ if_zero (check B (length xs) (tables B xs)).number (judge_from None (shown_in B xs ss)) (record { answer = refused (check B (length xs) (tables B xs)); slot = 0 })
      unfolding judge_answer
      answered = ap (λ (w : Why). if_zero w.number (judge_from None (shown_in B xs ss)) (record { answer = refused w; slot = 0 })) set-check

      pub judge-refused : {w : Why} → refused w ≡ check_answer B xs → record { answer = refused w; slot = 0 } ≡ judge_answer B xs ss
      judge-refused {w} q =
          let k = judged-refused tt (check B (length xs) (tables B xs)) q in
          ap (λ (u : Why). record { answer = refused u; slot = 0 }) k.1 ∙ some (check B (length xs) (tables B xs)).number _ _ k.0 ∙ sym answered
        where
          some : (k : ℕ) (x y : SetAnswer) → (k ≡ 0 → ⊥) → y ≡ if_zero k x y
          some zero x y d = absurd (d refl)
          some (suc k) x y d = refl

      pub judge-list : accepted tt ≡ check_answer B xs → {r : SetAnswer} → r ≡ judge_from None (shown_in B xs ss) → r ≡ judge_answer B xs ss
      judge-list q h =
          let k = judged-accepted tt (check B (length xs) (tables B xs)) q in
          h ∙ ap (λ (z : ℕ). if_zero z (judge_from None (shown_in B xs ss)) (record { answer = refused (check B (length xs) (tables B xs)); slot = 0 })) (sym k.0) ∙ sym answered
