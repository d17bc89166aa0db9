-- `units::inner::put_bytes` meets its contract. The invariant: storing what is left of src gives what storing all of it gives. Assumes nothing.
use mathlib.Core.Path.{◌∙◌}
use Prim.Native.Nat.{◌≤◌}
use native.Mathlib.Nat.{add-zero}
use native.Mathlib.Omega.{arith}
use lib.ListN.{length, length-set, drop_of_length-le}
use Rattle.units.proofs.Lists.{copy_more}
use Rattle.units.proofs.inner.put_bytes.Goals as goal

pub loop-i-init : goal.loop-i-init
loop-i-init c = (omega arith, omega arith, simp add-zero)

pub loop-i-preserved : goal.loop-i-preserved
loop-i-preserved c =
    let a = c.args in
    let l = c.loop-i in (
      omega arith,
      simp length-set (omega arith),
      copy_more l.s a.at a.src.now l.i (omega arith) ∙ l.invariant.2,
    )

pub returns : goal.returns
returns c =
    let a = c.args in
    let l = c.loop-i in
    let z : length a.src.now ≤ l.i = omega arith in
    rw (drop_of_length-le a.src.now z) at l.invariant.2
