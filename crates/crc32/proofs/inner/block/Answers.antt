-- `inner::block` meets its contract: sixteen bytes are four words, and an xor may be taken in any order.
-- Assumes nothing.
use Rattle.crc32.proofs.Laws.{xor-turn, block-feed}
use Rattle.crc32.proofs.inner.block.Goals as goal

pub returns : goal.returns
returns c =
    let a = c.args in
    cc (
      xor-turn c.four-4.result c.four-3.result c.four-2.result c.four.result,
      block-feed a.b.now a.r c.word_at-4.result c.word_at-3.result c.word_at-2.result c.word_at.result c.requires
          c.word_at-4.ensures c.word_at-3.ensures c.word_at-2.ensures c.word_at.ensures,
    )
