-- `units::inner::copy_out` meets its contract. The loop's invariant: storing the bytes that are left makes what the function promises. Assumes nothing.
use mathlib.Core.Path.{◌≡◌, refl, ◌∙◌}
use Prim.Native.Nat.{◌-◌}
use native.Mathlib.Omega.{arith}
use lib.ListN.{length, length-set}
use Rattle.units.proofs.Lists.{copy-first, copy_step}
use Rattle.units.proofs.inner.copy_out.Goals as goal

pub loop-i-init : goal.loop-i-init
loop-i-init c =
    let a = c.args in
    (omega arith, refl, copy-first a.out.now a.s.now a.at (omega arith))

pub loop-i-preserved : goal.loop-i-preserved
loop-i-preserved c =
    let a = c.args in
    let l = c.loop-i in (
      omega arith,
      simp length-set (omega arith),
      copy_step l.out a.s.now a.at l.i (length a.out.now) (omega arith) (omega arith) ∙ l.invariant.2,
    )

pub returns : goal.returns
returns c =
    let a = c.args in
    let l = c.loop-i in
    let z : length a.out.now - l.i ≡ 0 = omega arith in
    rw z at l.invariant.2
