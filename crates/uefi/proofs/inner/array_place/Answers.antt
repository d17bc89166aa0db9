-- `uefi::inner::array_place` meets its contract: behind 1 and 7 the header's own sum of the array has the refusals that are left. Assumes nothing.
use mathlib.Core.Path.{sym, ap, ◌∙◌}
use Rattle.units.proofs.Results.{handed}
use Rattle.units.specs.Meanings.{means}
use Rattle.uefi.proofs.ArrayWays.{sum_fits, array_size, array-each, array-unsummed, array-other, array-good}
use Rattle.std.specs.Prelude.{not}
use Rattle.uefi.proofs.inner.array_place.Goals as goal

pub returns-then-not-good_block_size : goal.returns-then-not-good_block_size
returns-then-not-good_block_size c = array_size _ _ _ c.good_block_size.ensures (ap not c.if-not-good_block_size.true)

pub returns-then-not-good_each : goal.returns-then-not-good_each
returns-then-not-good_each c =
    let sized = c in
    array-each _ _ _ sized.good_block_size.ensures (ap not sized.if-not-good_block_size.false) c.good_each.ensures (ap not c.if-not-good_each.true)

pub returns-then-sum-h : goal.returns-then-sum-h
returns-then-sum-h c =
    let found = c in
    let whole = found in
    let sized = whole in
    array-other _ _ _ sized.good_block_size.ensures (ap not sized.if-not-good_block_size.false) whole.good_each.ensures (ap not whole.if-not-good_each.false)
    (sym found.in_ok-sum.ensures) c.if-sum-h.true

pub place-requires : goal.place-requires
place-requires c =
    let found = c in
    sum_fits _ _ _ (sym found.in_ok-sum.ensures)

pub returns-in_err-sum : goal.returns-in_err-sum
returns-in_err-sum c =
    let found = c in
    let whole = found in
    let sized = whole in
    handed _ _ c.from_residual.ensures.1
    ∙ array-unsummed _ _ _ sized.good_block_size.ensures (ap not sized.if-not-good_block_size.false) whole.good_each.ensures (ap not whole.if-not-good_each.false)
    (sym found.in_err-sum.ensures)

pub returns : goal.returns
returns c =
    let same = c in
    let found = same in
    let whole = found in
    let sized = whole in
    array-good _ _ _ sized.good_block_size.ensures (ap not sized.if-not-good_block_size.false) whole.good_each.ensures (ap not whole.if-not-good_each.false)
    (sym found.in_ok-sum.ensures) same.if-sum-h.false c.place.ensures
