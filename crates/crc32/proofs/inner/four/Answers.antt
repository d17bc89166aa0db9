-- `inner::four` meets its contract: a word goes by its four bytes.
-- Assumes nothing.
use Rattle.crc32.proofs.Laws.{word_rows}
use Rattle.crc32.proofs.inner.four.Goals as goal

pub returns : goal.returns
returns c = let a = c.args in cc (word_rows a.j a.a)
