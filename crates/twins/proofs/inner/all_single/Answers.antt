-- `twins::inner::all_single` meets its contract. The invariant: no two of the entries that were passed are twins, and the set has the numbers of the used ones. Assumes nothing.
use mathlib.Core.Path.{refl, sym, ◌∙◌}
use mathlib.Core.Bool.{not}
use native.Mathlib.Omega.{arith}
use borrow.Author.Tests.{not-true, not-false}
use Rattle.units.specs.Bytes.{part}
use Rattle.tables.proofs.Orders.{all-fails, all_start, all_more, all_end}
use Rattle.twins.proofs.Laws.{square, marked-none}
use Rattle.std.proofs.Common.{ap}
use Rattle.twins.proofs.inner.all_single.Goals as goal

pub loop-k-init : goal.loop-k-init
loop-k-init c = (all_start _, marked-none _ _, refl)

pub single_from-requires : goal.single_from-requires
single_from-requires c = let l = c.loop-k in record { at_in_bounds = (c.requires, omega arith, l.invariant.2); marked = l.invariant.1 }

pub returns-then-not-single_from : goal.returns-then-not-single_from
returns-then-not-single_from c =
    let a = c.args in
    sym (all-fails 128 _ c.loop-k.k (omega arith) (sym c.single_from.ensures.value ∙ not-true _ (ap not c.if-not-single_from.true)))
    ∙ square (part a.copy.now a.at.0 16384)

pub loop-k-preserved : goal.loop-k-preserved
loop-k-preserved c =
    let l = c.loop-k in
    let e = c.single_from.ensures in
    (all_more l.k _ l.invariant.0 (sym e.value ∙ not-false _ (ap not c.if-not-single_from.false)), e.marked_2.0, e.marked_2.1)

pub returns : goal.returns
returns c =
    let a = c.args in
    let l = c.loop-k in
    all_end l.k 128 _ (omega arith) (omega arith) l.invariant.0 ∙ square (part a.copy.now a.at.0 16384)
