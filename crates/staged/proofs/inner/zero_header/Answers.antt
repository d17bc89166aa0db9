-- `staged::inner::zero_header` meets its contract. Assumes nothing.
use mathlib.Core.Path.{ap, ◌∙◌}
use Prim.Native.Nat.{ℕ}
use native.Mathlib.Omega.{arith}
use lib.Seq.{sets}
use Rattle.tables.specs.Entries.{zeros}
use Rattle.staged.proofs.inner.zero_header.Goals as goal

pub put_zeros-requires : goal.put_zeros-requires
put_zeros-requires c = omega (arith, c.header_in-at.ensures.1, c.requires)

pub returns : goal.returns
unfolding zeros
returns c = let a = c.args in c.put_zeros.ensures ∙ ap (λ (i : ℕ). sets a.copy.now i (zeros a.b)) c.header_in-at.ensures.0
