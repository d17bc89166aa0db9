-- `twins::inner::enter` meets its contract. Assumes nothing.
use mathlib.Core.Path.{ap}
use Prim.Native.Nat.{ℕ, ◌/◌}
use lib.ListN.{set}
use Rattle.twins.specs.Marks.{marked, with_mark}
use Rattle.twins.proofs.inner.enter.Goals as goal

pub returns : goal.returns
unfolding marked with_mark
returns c =
    let a = c.args in
    (c.has_bit.ensures, ap (λ (v : ℕ). set a.m.now (a.h / 64) v) c.with_bit.ensures)
