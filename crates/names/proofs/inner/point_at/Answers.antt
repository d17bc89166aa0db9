-- `names::inner::point_at` meets its contract. Assumes nothing.
use native.Mathlib.Omega.{arith}
use Rattle.names.proofs.Sizes.{point-here}
use Rattle.names.proofs.inner.point_at.Goals as goal

pub returns : goal.returns
returns c =
    let p = point-here c.args.name.now c.args.i c.requires c.unit_at.ensures (omega arith) c.unit_at-2.ensures c.point_of.ensures in
    record { value = p.0; code_bound = p.1 }
