-- `units::why::Why::refusal` meets its contract: each arm is its place of the table of names. Assumes nothing.
use Rattle.std.proofs.Common.{arith, ◌∙◌}
use Rattle.units.proofs.Chains.{later-names}
use Rattle.units.proofs.why.Why.refusal.Goals as goal

pub returns-in_default : goal.returns-in_default
returns-in_default c = c.later_refusal.ensures ∙ later-names _ (λ l. omega arith)
