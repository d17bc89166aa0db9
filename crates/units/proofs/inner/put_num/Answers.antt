-- `units::inner::put_num` meets its contract. The invariant: the bytes that are stored, and those of what is left of v, are the bytes of x. Assumes nothing.
use mathlib.Core.Path.{ap, ◌∙◌}
use mathlib.Core.List.{List, ◌++◌}
use Prim.Native.Nat.{ℕ, ◌+◌, ◌-◌}
use native.Mathlib.Omega.{arith}
use lib.ListN.{take, drop, length-set}
use Rattle.units.proofs.Laws.{length-bytes, byte_stored, bytes_stored}
use Rattle.units.proofs.Lists.{lent_back}
use Rattle.units.specs.Bytes.{bytes}
use Rattle.units.proofs.inner.put_num.Goals as goal

pub loop-byte-preserved : goal.loop-byte-preserved
loop-byte-preserved c =
    let a = c.args in
    let l = c.loop-byte in (
      simp length-set (omega arith),
      byte_stored l.byte-items l.byte-index a.n l.v (bytes a.n a.x) (omega arith) (omega arith) l.invariant.1,
    )

pub returns : goal.returns
returns c =
    let a = c.args in
    let l = c.loop-byte in
    let all = bytes_stored l.byte-items l.byte-index a.n l.v (bytes a.n a.x) (omega arith) (omega arith) l.invariant.1 in
    ap (λ (ys : List ℕ). take a.at a.s.now ++ (ys ++ drop (a.at + a.n - a.at) (drop a.at a.s.now))) all
    ∙ lent_back a.s.now (bytes a.n a.x) a.at a.n (omega arith) (length-bytes a.n a.x)
