-- `rows::inner::Plan::within` meets its contract. Assumes nothing.
use mathlib.Core.Path.{◌∙◌}
use Rattle.rows.proofs.Laws.{within-over, within-kept}
use Rattle.rows.proofs.inner.Plan.within.Goals as goal

pub returns-then-room-self : goal.returns-then-room-self
returns-then-room-self c = c.refused_plainly.ensures ∙ within-over _ _ c.if-room-self.true

pub returns : goal.returns
returns c = within-kept _ _ c.if-room-self.false
