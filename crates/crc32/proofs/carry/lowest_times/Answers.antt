-- `carry::lowest_times` meets its contract: a bit is one or zero. Assumes nothing.
use mathlib.Core.Path.{◌≡◌, sym}
use Prim.Native.Nat.{◌%◌}
use native.Mathlib.Nat.{one-mul, zero-mul}
use native.Mathlib.Omega.{arith}
use Rattle.crc32.proofs.carry.lowest_times.Goals as goal

pub returns-then-a-eq1 : goal.returns-then-a-eq1
returns-then-a-eq1 c = sym (rw c.if-a-eq1.true (one-mul c.args.r))

pub returns : goal.returns
returns c =
    let z : c.args.a % 2 ≡ 0 = omega (arith, c.if-a-eq1.false) in
    sym (rw z (zero-mul c.args.r))
