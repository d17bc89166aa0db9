-- `checking::inner::same_in` meets its contract. Assumes nothing.
use mathlib.Core.Path.{◌∙◌}
use native.Mathlib.Omega.{arith}
use Rattle.units.proofs.Lists.{lent-part, length_part}
use Rattle.checking.proofs.inner.same_in.Goals as goal

pub returns : goal.returns
returns c = let a = c.args in let e = lent-part a.two.now a.other.0 a.n in c.same_at.ensures ∙ rw (e, length_part a.two.now a.other.0 a.n (omega arith))
