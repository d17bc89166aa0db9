-- `mbr::inner::mbr_at` meets its contract. Assumes nothing.
use native.Mathlib.Omega.{arith}
use Rattle.mbr.proofs.inner.mbr_at.Goals as goal

pub overflow_add-at-6 : goal.overflow_add-at-6
overflow_add-at-6 c = omega (arith, c.well_formed, c.requires)

pub returns : goal.returns
returns c = cc
