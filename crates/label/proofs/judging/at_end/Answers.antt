-- `label::judging::at_end` meets its contract. Assumes nothing.
use mathlib.Core.Path.{sym, ap, ◌∙◌}
use Rattle.std.specs.Prelude.{Err}
use Rattle.label.specs.declared.SetRefusal.{SetRefusal}
use Rattle.label.specs.Judging.{at_end}
use Rattle.label.specs.Meanings.{judged_means}
use Rattle.label.proofs.judging.at_end.Goals as goal

pub returns-in-None : goal.returns-in-None
returns-in-None c = ap (λ (r : SetRefusal). judged_means (Err r)) c.no_slot.ensures ∙ sym (ap at_end c.in-None.is)

pub returns-in-Some : goal.returns-in-Some
returns-in-Some c = sym (ap at_end c.in-Some.is)
