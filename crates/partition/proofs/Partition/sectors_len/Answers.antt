-- `partition::Partition::sectors_len` meets its contract: the difference is the largest number exactly where the count passes 64 bits. Assumes nothing.
use Prim.Native.Nat.{◌+◌, ◌-◌, ◌^◌}
use native.Mathlib.Omega.{arith}
use borrow.Author.Tests.{lt-ltb, le-ltb, le-leb, lt-leb}
use Rattle.partition.specs.Lengths.{sectors_len}
use Rattle.partition.proofs.Partition.sectors_len.Goals as goal

pub returns-then-last-first : goal.returns-then-last-first
unfolding sectors_len
returns-then-last-first c = rw (lt-ltb _ _ c.if-last-first.true)

pub returns-then-last-first-2 : goal.returns-then-last-first-2
unfolding sectors_len
returns-then-last-first-2 c =
    let p = c.args.self in
    rw (le-ltb p.last_lba.0 p.first_lba.0 c.if-last-first.false, le-leb (2 ^ 64) (p.last_lba.0 - p.first_lba.0 + 1) (omega (arith, c.if-last-first-2.true)))

pub returns : goal.returns
unfolding sectors_len
returns c =
    let p = c.args.self in
    rw (le-ltb p.last_lba.0 p.first_lba.0 c.if-last-first.false, lt-leb (2 ^ 64) (p.last_lba.0 - p.first_lba.0 + 1) (omega arith))
