-- The way out of a `?`: the refusal that is handed on means what it meant. No contract cites this file. Assumes nothing.
use Rattle.std.specs.Prelude.{◌≡◌, List, ℕ, Result, Ok, Err, IsErrAnd}
use Rattle.std.proofs.Common.{sym, ap, ◌∙◌}
use Rattle.std.proofs.lemmas.Result.{err_from_is_err_and}
use Rattle.units.specs.declared.Refusal.{Refusal}
use Rattle.units.specs.declared.Reason.{Reason}
use Rattle.units.specs.Answer.{Answer, Outcome, gives, Ends, ends, refused}
use Rattle.units.specs.Refusals.{refused_by, why_at}
use Rattle.units.specs.Meanings.{means, card_means}

-- the answer is that refusal
pub err-is : {A E : Type 0} (w : E) (r : Result A E) → IsErrAnd r (λ y. y ≡ w) → r ≡ Err w
err-is {A} {E} w r e = let p = err_from_is_err_and r e in p.1 ∙ ap (λ (y : E). Err y) p.2

pub handed : {A : Type 0} (w : Refusal) (r : Result A Refusal) → IsErrAnd r (λ y. y ≡ w) → means r ≡ refused_by w
handed w r e = ap means (err-is w r e)

pub card-handed : {A : Type 0} (w : Reason) (r : Result A Reason) → IsErrAnd r (λ y. y ≡ w) → card_means r ≡ refused (why_at w)
card-handed w r e = ap card_means (err-is w r e)

-- and the lent slice is as it was
pub ends-handed : {A : Type 0} (w : Refusal) (r : Result A Refusal) {o : Outcome (Answer A)} {i : List ℕ} → IsErrAnd r (λ y. y ≡ w) → o ≡ gives (refused_by w) i → Ends o (means r) i
ends-handed {A} w r {o} {i} h e = ends (e ∙ ap (λ (a : Answer A). gives a i) (sym (handed w r h)))
