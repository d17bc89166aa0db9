-- `inner::past_one` meets its contract: an odd number's lowest digit is one, an even number's zero. Assumes nothing.
use mathlib.Core.Path.{sym, ap, ◌∙◌}
use Prim.Native.Nat.{◌*◌, ◌%◌, ◌^◌}
use native.Mathlib.Nat.{one-mul}
use native.Mathlib.Omega.{arith}
use Rattle.crc32.specs.Crc.{steps}
use Rattle.slot_sum.proofs.Halving.{none_left}
use Rattle.slot_sum.proofs.Table.{powers-right}
use Rattle.slot_sum.proofs.inner.past_one.Goals as goal

pub returns-then-left-eq1 : goal.returns-then-left-eq1
returns-then-left-eq1 c =
    let s = c in
    let a = s.args in
    c.carried.ensures (8 * 2 ^ a.k) (powers-right.entry a.k s.requires) ∙ rw c.if-left-eq1.true (ap (λ m. steps (8 * m) a.x) (sym (one-mul (2 ^ a.k))))

pub returns : goal.returns
returns c = let a = c.args in sym (none_left a.k (a.left % 2) a.x (omega (arith, c.if-left-eq1.false)))
