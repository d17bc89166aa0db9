-- `names::inner::put_units` meets its contract. Assumes nothing.
use Rattle.names.proofs.Sizes.{one-count, two-count, put_one, put_two}
use native.Mathlib.Omega.{arith}
use Rattle.names.proofs.inner.put_units.Goals as goal

pub bounds-name-k : goal.bounds-name-k
bounds-name-k c = omega (arith, one-count c.args.code c.if-code-lt65536.true)

pub returns-then-code-lt65536 : goal.returns-then-code-lt65536
returns-then-code-lt65536 c = put_one _ _ _ c.if-code-lt65536.true

pub bounds-name-k-2 : goal.bounds-name-k-2
bounds-name-k-2 c = omega (arith, two-count c.args.code c.if-code-lt65536.false)

pub bounds-name-k-3 : goal.bounds-name-k-3
bounds-name-k-3 c = omega (arith, two-count c.args.code c.if-code-lt65536.false)

pub returns : goal.returns
returns c = put_two _ _ _ c.if-code-lt65536.false
