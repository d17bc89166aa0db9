-- A block more is fed, and the rest is what the slice has behind it. Assumes nothing.
use mathlib.Core.Path.{◌∙◌}
use Rattle.crc32.proofs.Laws.{feed-front}
use Rattle.crc32.proofs.inner.run.Goals as goal

pub loop-b-preserved : goal.loop-b-preserved
loop-b-preserved c = let e = c.in-Some.ensures.cases in feed-front _ _ _ 16 _ _ e.0 e.1 c.block-x.ensures ∙ c.loop-b.invariant
