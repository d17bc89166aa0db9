-- `inner::sum_after` meets its contract: the definition's sums and its steps. Assumes nothing.
use Prim.Native.Nat.{◌*◌, ◌^◌}
use native.Mathlib.Nat.{mul-one}
use Rattle.crc32.specs.Register.{feed-zeros}
use Rattle.slot_sum.specs.SlotSum.{sum_after}
use Rattle.slot_sum.proofs.inner.sum_after.Goals as goal

pub returns : goal.returns
unfolding sum_after
returns c =
    let a = c.args in
    rw (c.past_zeros.ensures, feed-zeros (a.after * 2 ^ 0) _, mul-one a.after, c.sum-behind.ensures, c.sum-before.ensures)
