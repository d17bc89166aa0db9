-- `listing::count_used` meets its contract. Assumes nothing.
use Rattle.std.proofs.Common.{sym, ◌∙◌}
use Rattle.units.proofs.Results.{card-handed}
use Rattle.listing.proofs.Ways.{check-room, count-refused, count-given}
use Rattle.listing.proofs.count_used.Goals as goal

pub used_count-requires : goal.used_count-requires
used_count-requires c = let a = c.args in check-room a.b a.img.now (sym c.in_ok-check.ensures)

pub returns-in_err-check : goal.returns-in_err-check
returns-in_err-check c = let a = c.args in card-handed _ _ c.from_residual.ensures.1 ∙ count-refused a.b a.img.now (sym c.in_err-check.ensures)

pub returns : goal.returns
returns c = let a = c.args in count-given a.b a.img.now (sym c.in_ok-check.ensures) c.used_count.ensures
