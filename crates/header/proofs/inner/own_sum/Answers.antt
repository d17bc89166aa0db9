-- `header::inner::own_sum` meets its contract: the whole of its local array is the header. Assumes nothing.
use mathlib.Core.Path.{◌∙◌, ap}
use mathlib.Core.List.{List}
use Prim.Native.Nat.{ℕ}
use native.Mathlib.Omega.{arith}
use lib.ListN.{replicate}
use Rattle.units.proofs.Lists.{sets-all}
use Rattle.crc32.specs.HeaderSum.{header_sum}
use Rattle.header.specs.Format.{header_bytes}
use Rattle.header.proofs.Laws.{length-header}
use Rattle.header.proofs.inner.own_sum.Goals as goal

pub returns : goal.returns
returns c =
    let put = c in
    let h = put.args.h in
    let whole = sets-all (replicate 92 0) (header_bytes h) (omega (arith, length-header h)) in
    c.header_sum_at.ensures ∙ ap (λ (l : List ℕ). header_sum l 0) (put.put_header.ensures ∙ whole)
