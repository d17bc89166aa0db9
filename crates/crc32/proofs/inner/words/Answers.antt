-- A word more is fed, and the rest is what the slice has behind it. Assumes nothing.
use mathlib.Core.Path.{ap, ◌∙◌}
use Rattle.std.proofs.lemmas.List.{take_all}
use native.Mathlib.Omega.{arith}
use Rattle.crc32.specs.Crc.{feed}
use Rattle.crc32.proofs.Laws.{feed-front}
use Rattle.crc32.proofs.inner.words.Goals as goal

pub loop-b-preserved : goal.loop-b-preserved
loop-b-preserved c =
    let e = c.in-Some.ensures.cases in
    feed-front _ _ _ 4 _ _ e.0 e.1 (c.four-x.ensures ∙ c.word_at.ensures _ ∙ ap (feed _) (take_all 4 c.in-Some.b.now (omega arith)))
    ∙ c.loop-b.invariant
