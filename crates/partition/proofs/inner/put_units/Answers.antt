-- `partition::inner::put_units` meets its contract. Assumes nothing.
use mathlib.Core.Path.{refl, sym, ◌∙◌}
use Prim.Native.Nat.{◌+◌, ◌*◌}
use native.Mathlib.Nat.{add-zero}
use native.Mathlib.Omega.{arith}
use Rattle.partition.proofs.Laws.{put-units-more, put-units-none}
use Rattle.partition.proofs.inner.put_units.Goals as goal

pub loop-i-init : goal.loop-i-init
loop-i-init c = (refl, rw add-zero)

pub loop-i-preserved : goal.loop-i-preserved
loop-i-preserved c =
    let a = c.args in
    let l = c.loop-i in
    (omega arith, rw c.put.ensures (put-units-more l.s a.name a.at l.i (omega arith) ∙ l.invariant.1))

pub returns : goal.returns
returns c =
    let a = c.args in
    let l = c.loop-i in
    sym (put-units-none l.s a.name (a.at + 2 * l.i) l.i (omega arith)) ∙ l.invariant.1
