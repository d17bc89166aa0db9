-- `windows_label::inner::first_place` meets its contract. The loop's invariant: the first place in what is left of the list, and the places before it, come to the first place in the whole list.
-- Assumes nothing.
use mathlib.Core.Path.{sym, ◌∙◌}
use native.Mathlib.Omega.{arith}
use borrow.Author.Rules.{rules}
use Rattle.windows_label.proofs.Ways.{first-here, first-later, first-none}
use Rattle.windows_label.proofs.inner.first_place.Goals as goal

pub loop-i-init : goal.loop-i-init
loop-i-init c = (omega arith, omega arith)

-- here it is: i, and nothing before it
pub returns-then-slots-i : goal.returns-then-slots-i
returns-then-slots-i c =
    let a = c.args in
    let l = c.loop-i in
    sym (first-here a.slots.now a.slot l.i c.loop-i-test.true c.if-slots-i.true) ∙ l.invariant.1

pub loop-i-preserved : goal.loop-i-preserved
loop-i-preserved c =
    let a = c.args in
    let l = c.loop-i in
    (search rules, first-later a.slots.now a.slot l.i c.loop-i-test.true c.if-slots-i.false ∙ l.invariant.1)

pub returns : goal.returns
returns c =
    let a = c.args in
    let l = c.loop-i in
    sym (first-none a.slots.now a.slot l.i c.loop-i-test.false) ∙ l.invariant.1
