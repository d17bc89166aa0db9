-- `uefi::inner::sized_sum_at` meets its contract: what it sums in three pieces is the header, as long as it is stated, with its own field as zero. Assumes nothing.
use mathlib.Core.Path.{refl}
use Prim.Native.Nat.{◌+◌, ◌-◌}
use native.Mathlib.Omega.{arith}
use Rattle.uefi.proofs.Ways.{sized-pieces}
use Rattle.uefi.proofs.inner.sized_sum_at.Goals as goal

pub returns : goal.returns
returns c =
    let two = c in
    let one = two in
    let a = one.args in
    sized-pieces a.s.now a.at a.n (a.at + 16 - a.at) (a.at + a.n - (a.at + 20)) (omega arith) refl (omega arith) one.sum-front.ensures two.sum-middle.ensures c.sum.ensures
