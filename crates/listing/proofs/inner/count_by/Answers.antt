-- `listing::inner::count_by` meets its contract. Assumes nothing.
use Rattle.std.proofs.Common.{ap, ◌∙◌}
use Rattle.units.specs.Meanings.{card_means}
use Rattle.units.proofs.Results.{card-handed}
use Rattle.rows.proofs.Laws.{counts-present, counts-refused}
use Rattle.listing.proofs.inner.count_by.Goals as goal

pub returns-in_err-p : goal.returns-in_err-p
returns-in_err-p c = card-handed _ _ c.from_residual.ensures.1 ∙ counts-refused _ (ap card_means c.in_err-p.was)

pub returns : goal.returns
returns c = counts-present _ (ap card_means c.in_ok-p.was)
