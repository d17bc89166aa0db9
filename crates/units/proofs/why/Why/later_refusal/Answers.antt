-- `units::why::Why::later_refusal` meets its contract: each arm is its place of the table of names. Assumes nothing.
use Rattle.std.proofs.Common.{arith}
use Rattle.units.proofs.Chains.{past-later}
use Rattle.units.proofs.why.Why.later_refusal.Goals as goal

pub returns-in_default : goal.returns-in_default
returns-in_default c = past-later _ (λ l. omega arith)
