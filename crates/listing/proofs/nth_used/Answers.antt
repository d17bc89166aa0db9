-- `listing::nth_used` meets its contract. Assumes nothing.
use Rattle.std.proofs.Common.{sym, ap, ◌∙◌}
use Rattle.units.proofs.Results.{err-is}
use Rattle.partition.specs.Meanings.{slots_of}
use Rattle.listing.specs.Meanings.{used_means}
use Rattle.listing.proofs.Ways.{check-room, nth-good, nth-refused, nth-over, nth-given}
use Rattle.listing.proofs.nth_used.Goals as goal

pub nth_slot-requires : goal.nth_slot-requires
nth_slot-requires c = let a = c.args in check-room a.b a.img.now (sym c.in_ok-check.ensures)

pub slot_entry-requires : goal.slot_entry-requires
slot_entry-requires c =
    let a = c.args in
    (check-room a.b a.img.now (sym c.in_ok-check.ensures), nth-good a.b a.img.now a.k (sym (ap slots_of c.in-Some.is) ∙ c.nth_slot.ensures))

pub returns-in_err-check : goal.returns-in_err-check
returns-in_err-check c =
    let a = c.args in
    ap used_means (err-is _ _ c.from_residual.ensures.1) ∙ nth-refused a.b a.img.now (sym c.in_err-check.ensures) a.k

pub returns-in-None : goal.returns-in-None
returns-in-None c = let a = c.args in nth-over a.b a.img.now a.k (sym c.in_ok-check.ensures) (sym (ap slots_of c.in-None.is) ∙ c.nth_slot.ensures)

pub returns-in-Some : goal.returns-in-Some
returns-in-Some c =
    let a = c.args in
    nth-given a.b a.img.now a.k (sym c.in_ok-check.ensures) (sym (ap slots_of c.in-Some.is) ∙ c.nth_slot.ensures) c.slot_entry.ensures
