-- `units::why::Why::verdict` meets its contract. Assumes nothing.
use Rattle.units.proofs.Chains.{verdict-fine, verdict-refused}
use Rattle.units.proofs.why.Why.verdict.Goals as goal

pub returns-then-n-eq0 : goal.returns-then-n-eq0
returns-then-n-eq0 c = verdict-fine _ c.if-n-eq0.true

pub returns : goal.returns
returns c = verdict-refused _ c.if-n-eq0.false c.reason.ensures
