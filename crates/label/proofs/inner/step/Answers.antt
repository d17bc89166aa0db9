-- `label::inner::step` meets its contract: one law for each way out. Assumes nothing.
use Rattle.std.proofs.Common.{ap, ◌∙◌}
use Rattle.units.specs.Meanings.{card_means}
use Rattle.units.proofs.Results.{card-handed}
use Rattle.label.proofs.JudgeWays.{step-refused, step-read}
use Rattle.label.proofs.inner.step.Goals as goal

pub returns-in_err-label : goal.returns-in_err-label
returns-in_err-label c = card-handed _ _ c.from_residual.ensures.1 ∙ step-refused _ (ap card_means c.in_err-label.was)

pub returns : goal.returns
returns c = step-read _ (ap card_means c.in_ok-label.was) c.dated.ensures c.agree.ensures
