-- `label::label_in` meets its contract. Assumes nothing.
use mathlib.Core.Path.{◌∙◌}
use Rattle.label.proofs.Ways.{label-2, label-long}
use Rattle.label.proofs.label_in.Goals as goal

pub returns-then-bytes-lt13 : goal.returns-then-bytes-lt13
returns-then-bytes-lt13 c = label-2 _ c.if-bytes-lt13.true

pub returns : goal.returns
returns c = c.label_of.ensures ∙ label-long _ c.if-bytes-lt13.false
