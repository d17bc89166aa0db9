-- `windows_reader::inner::array_of` meets its contract. Assumes nothing.
use Prim.Native.Nat.{◌+◌}
use native.Mathlib.Omega.{arith}
use Rattle.units.proofs.Lists.{lent-part}
use Rattle.windows_reader.proofs.inner.array_of.Goals as goal

pub slice_bounds-result-end : goal.slice_bounds-result-end
slice_bounds-result-end c = omega (arith, c.requires.2)

pub returns-then-back : goal.returns-then-back
returns-then-back c =
    let a = c.args in
    record { result_value = rw c.if-back.true (lent-part a.tail.now 0 16384); ref_ptr_value = rw c.if-back.true }

pub slice_bounds-result-end-2 : goal.slice_bounds-result-end-2
slice_bounds-result-end-2 c = omega (arith, c.requires.1)

pub returns : goal.returns
returns c =
    let a = c.args in
    record { result_value = rw c.if-back.false (lent-part a.head.now (a.b + a.b) 16384); ref_ptr_value = rw c.if-back.false }
