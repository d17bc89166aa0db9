-- What an answer of the code means in document 01's numbers and values, and that two answers which mean the same are the same. Assumes nothing.
use Rattle.std.specs.Prelude.{◌≡◌, refl, Result, Ok, Err}
use Rattle.std.proofs.Common.{sym, ap, ◌∙◌}
use Rattle.units.specs.declared.Refusal.{Refusal}
use Rattle.units.specs.declared.Reason.{Reason}
use Rattle.units.specs.declared.why.Why.{Why}
use Rattle.units.specs.Answer.{Answer, accepted, refused, if_zero, Beside}
use Rattle.units.specs.Refusals.{refused_by, refusal_of, reason_of, why_at, back, reason-back}

-- a call's answer: its value, or the number of its refusal
abbrev pub means : {A : Type 0} → Result A Refusal → Answer A
means (Ok x) = accepted x
means (Err w) = refused_by w

-- a card call's answer: its value, or the refusal with its place
abbrev pub card_means : {A : Type 0} → Result A Reason → Answer A
card_means (Ok x) = accepted x
card_means (Err r) = refused (why_at r)

-- the verdict that a refusal as a value stands for
unfoldable pub verdict_of : Why → Result Unit Reason
verdict_of w = if_zero w.number (Ok tt) (Err (reason_of w))

-- the answer of the code that a meaning comes from
abbrev pub made_by : {A : Type 0} → Answer A → Result A Refusal
made_by (accepted a) = Ok a
made_by (refused y) = Err (refusal_of y)

-- and of a card call
abbrev pub made_with : {A : Type 0} → Answer A → Result A Reason
made_with (accepted a) = Ok a
made_with (refused y) = Err (reason_of y)

-- where each answer comes back from its meaning, two that mean the same are the same
pub one-meaning : {A E : Type 0} (means : E → Answer A) (from : Answer A → E) → ((r : E) → from (means r) ≡ r) → (r s : E) → means r ≡ means s → r ≡ s
one-meaning means from b r s e = sym (b r) ∙ ap from e ∙ b s

pub means-back : {A : Type 0} (r : Result A Refusal) → made_by (means r) ≡ r
means-back (Ok x) = refl
means-back (Err w) = ap Err (back w)

pub means-one : {A : Type 0} (r s : Result A Refusal) → means r ≡ means s → r ≡ s
means-one = one-meaning means made_by means-back

pub card-means-back : {A : Type 0} (r : Result A Reason) → made_with (card_means r) ≡ r
card-means-back (Ok x) = refl
card-means-back (Err r) = ap Err (reason-back r)

pub card-means-one : {A : Type 0} (r s : Result A Reason) → card_means r ≡ card_means s → r ≡ s
card-means-one = one-meaning card_means made_with card-means-back

-- the same for a verdict with a value beside it, in any struct that is made of the two
module _ {A E X : Type 0} (means : X → Answer Unit) (one : (v w : X) → means v ≡ means w → v ≡ w) (make : X → A → E) where
  pub beside-by : (v w : X) (x y : A) → ◌≡◌ {A = Beside A} (record { verdict = means v; value = x }) (record { verdict = means w; value = y }) → make v x ≡ make w y
  beside-by v w x y e =
      let p : v ≡ w = one v w (ap (λ b. b.verdict) e) in
      let q : x ≡ y = ap (λ b. b.value) e in
      cc

pub beside-one : {A E : Type 0} (make : Result Unit Refusal → A → E) (v w : Result Unit Refusal) (x y : A)
    → ◌≡◌ {A = Beside A} (record { verdict = means v; value = x }) (record { verdict = means w; value = y }) → make v x ≡ make w y
beside-one make = beside-by means means-one make

pub card-beside-one : {A E : Type 0} (make : Result Unit Reason → A → E) (v w : Result Unit Reason) (x y : A)
    → ◌≡◌ {A = Beside A} (record { verdict = card_means v; value = x }) (record { verdict = card_means w; value = y }) → make v x ≡ make w y
card-beside-one make = beside-by card_means card-means-one make
