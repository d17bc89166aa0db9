-- What the answer of the judgement means in the documents' numbers and values, and that two answers which mean the same are the same. Assumes nothing.
use Rattle.std.specs.Prelude.{◌≡◌, refl, Result, Ok, Err}
use Rattle.std.proofs.Common.{sym, ap, ◌∙◌}
use Rattle.units.specs.Answer.{Answer, accepted, refused}
use Rattle.units.specs.Refusals.{why_at, reason_of, reason-back}
use Rattle.label.specs.declared.Dated.{Dated}
use Rattle.label.specs.declared.SetRefusal.{SetRefusal}
use Rattle.label.specs.Judging.{SetAnswer}

-- the refusal, and the slot of the list that it names
abbrev pub judged_means : Result Dated SetRefusal → SetAnswer
judged_means (Ok d) = record { answer = accepted d; slot = 0 }
judged_means (Err r) = record { answer = refused (why_at r.reason); slot = r.slot.0 }

judged_of : SetAnswer → Result Dated SetRefusal
judged_of a = by a.answer
  where
    by : Answer Dated → Result Dated SetRefusal
    by (accepted d) = Ok d
    by (refused w) = Err (record { reason = reason_of w; slot = record { 0 = a.slot } })

judged-back : (r : Result Dated SetRefusal) → judged_of (judged_means r) ≡ r
unfolding judged_of
judged-back (Ok d) = refl
judged-back (Err r) = ap (λ w. Err (record { reason = w; slot = r.slot })) (reason-back r.reason)

pub judged-one : (r s : Result Dated SetRefusal) → judged_means r ≡ judged_means s → r ≡ s
judged-one r s e = sym (judged-back r) ∙ ap judged_of e ∙ judged-back s
