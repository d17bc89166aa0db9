-- `zero_run` meets its contract. The invariant: the n chunks that were passed are zero. Assumes nothing.
use mathlib.Core.Path.{sym, ◌∙◌}
use native.Mathlib.Omega.{arith}
use borrow.Author.Tests.{not-false}
use Rattle.crc32.proofs.Zeros.{zeros-more}
use Rattle.std.proofs.Common.{ap}
use Rattle.std.specs.Prelude.{not}
use Rattle.crc32.proofs.sparse.zero_run.Goals as goal

pub loop-n-init : goal.loop-n-init
loop-n-init c = let p = c.requires in (p.le_step.2, p.le_step.3, p.from_value)

pub returns-then-s-at : goal.returns-then-s-at
returns-then-s-at c = c.loop-n.invariant

pub returns-then-not-all_zero : goal.returns-then-not-all_zero
returns-then-not-all_zero c = c.loop-n.invariant

pub loop-n-smaller : goal.loop-n-smaller
loop-n-smaller c = let l = c in omega (arith, l.requires.le_step.0, c.loop-n-test.true)

pub loop-n-preserved : goal.loop-n-preserved
loop-n-preserved c =
    let l = c.loop-n in
    let a = c.args in
    (omega arith, omega arith, zeros-more a.s.now a.at l.n a.step l.invariant.2 (sym c.all_zero.ensures ∙ not-false _ (ap not c.if-not-all_zero.false)))

pub returns : goal.returns
returns c = c.loop-n.invariant
