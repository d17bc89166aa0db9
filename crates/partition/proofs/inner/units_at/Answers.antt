-- `partition::inner::units_at` meets its contract. Assumes nothing.
use mathlib.Core.Path.{◌≡◌, sym, ◌∙◌}
use Prim.Native.Nat.{◌+◌, ◌*◌, ◌-◌}
use native.Mathlib.Nat.{add-zero}
use native.Mathlib.Omega.{arith}
use lib.ListN.{length-set}
use Rattle.units.proofs.Lists.{sets-all}
use Rattle.partition.proofs.Laws.{length-units, units-more, units-none}
use Rattle.partition.proofs.inner.units_at.Goals as goal

pub loop-i-init : goal.loop-i-init
loop-i-init c =
    let a = c.args in
    (omega arith, rw add-zero (sets-all _ _ (sym (length-units 36 a.s.now a.at))))

pub loop-i-preserved : goal.loop-i-preserved
loop-i-preserved c =
    let a = c.args in
    let l = c.loop-i in (
      simp length-set (omega arith),
      rw c.get.ensures (units-more l.u-items a.s.now a.at l.i 36 (omega arith) ∙ l.invariant.1),
    )

pub returns : goal.returns
returns c =
    let a = c.args in
    let l = c.loop-i in
    let z : 36 - l.i ≡ 0 = omega arith in
    sym (units-none l.u-items a.s.now l.i (a.at + 2 * l.i)) ∙ rw z at l.invariant.1
