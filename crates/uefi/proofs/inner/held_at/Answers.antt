-- `uefi::inner::held_at` meets its contract. Assumes nothing.
use Rattle.uefi.proofs.ArrayWays.{held-nil, held-used}
use Rattle.std.proofs.Common.{ap}
use Rattle.std.specs.Prelude.{not}
use Rattle.uefi.proofs.inner.held_at.Goals as goal

pub returns-then-not-is_used : goal.returns-then-not-is_used
returns-then-not-is_used c = let t = c in held-nil _ _ t.is_used.ensures (ap not t.if-not-is_used.true)

pub returns : goal.returns
returns c = let t = c in held-used _ _ t.is_used.ensures (ap not t.if-not-is_used.false) c.entry_at.ensures
