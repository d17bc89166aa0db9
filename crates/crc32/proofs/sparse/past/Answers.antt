-- `past` meets its contract: none at all, or one product. Assumes nothing.
use mathlib.Core.Path.{sym, ◌∙◌}
use Prim.Native.Nat.{◌*◌}
use native.Mathlib.Omega.{arith}
use Rattle.crc32.proofs.Zeros.{past-none, past-some}
use Rattle.crc32.proofs.Tables.{powers-right}
use Rattle.crc32.proofs.sparse.past.Goals as goal

pub returns-then-n-eq0 : goal.returns-then-n-eq0
returns-then-n-eq0 c = let a = c.args in sym (past-none a.x a.n c.if-n-eq0.true)

pub returns : goal.returns
returns c =
    let s = c in
    let a = s.args in
    c.carried.ensures (a.n * 1024) (powers-right.entry a.n (omega (arith, s.requires))) ∙ sym (past-some a.x a.n)
