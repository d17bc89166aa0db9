-- `listing::next_used` meets its contract. Assumes nothing.
use Rattle.std.proofs.Common.{sym, ap, ◌∙◌}
use Rattle.units.proofs.Results.{err-is}
use Rattle.listing.specs.Meanings.{card_next_means}
use Rattle.listing.proofs.Ways.{check-room, next-refused, next-given}
use Rattle.listing.proofs.next_used.Goals as goal

pub used_after-requires : goal.used_after-requires
used_after-requires c = let a = c.args in check-room a.b a.img.now (sym c.in_ok-check.ensures)

pub returns-in_err-check : goal.returns-in_err-check
returns-in_err-check c =
    let a = c.args in
    ap card_next_means (err-is _ _ c.from_residual.ensures.1) ∙ next-refused a.b a.img.now (sym c.in_err-check.ensures) a.after.0

pub returns : goal.returns
returns c = let a = c.args in next-given a.b a.img.now (sym c.in_ok-check.ensures) a.after.0 c.used_after.ensures
