-- How an answer crosses. No contract cites this file. Assumes nothing.
use mathlib.Core.Path.{◌≡◌, refl, ap, ◌∙◌}
use mathlib.Core.List.{List}
use Prim.Native.Nat.{ℕ, ◌/◌}
use lib.ListN.{length}
use Rattle.units.specs.Answer.{Answer, accepted, refused, Outcome, Ends}
use Rattle.rows.specs.declared.Entry.{Entry}
use Rattle.rows.specs.declared.inner.Plan.{Plan}
use Rattle.rows.specs.Plans.{planned, roomed, plainly}
use Rattle.rows.specs.RowBytes.{bytes_outcome}
use Rattle.answers_c.specs.Crossing.{outcome_to_c, crossed, count_to_c}

-- a call that ends in an outcome ends in the outcome so told
pub told-ends : {A C : Type 0} (f : A → C) (o : Outcome A) {a : A} {r : C} {i : List ℕ} → Ends o a i → r ≡ f a → Ends (outcome_to_c f o) r i
told-ends f o e q = record { answer = q ∙ ap f e.answer; image = e.image }

-- ---- rows in lent bytes

-- a plan carried out, told to C by f: what the plan says, with the 15 of the rows that the bytes have, is what is asked for
pub rows_told : {C : Type 0} (f : Answer ℕ → C) (xs out : List ℕ) (p : Plan) {said asked : Answer (List Entry)} → planned xs p ≡ said → roomed (length out / 136) said ≡ asked → {a : Answer ℕ} {r : C} {ys : List ℕ}
    → Ends (bytes_outcome (roomed (length out / 136) (planned xs p)) out) a ys → r ≡ f a → Ends (outcome_to_c f (bytes_outcome asked out)) r ys
rows_told f xs out p e g h q = told-ends f _ (rw (e, g) at h) q

-- a ported call's count has no place to drop
pub count-plainly : (a : Answer ℕ) → count_to_c (plainly a) ≡ count_to_c a
unfolding crossed
count-plainly (accepted n) = refl
count-plainly (refused w) = refl
