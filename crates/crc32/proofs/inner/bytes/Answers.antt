-- `inner::bytes` meets its contract: to feed is to fold the step of one byte. Assumes nothing.
use Rattle.crc32.proofs.Laws.{feed-fold}
use Rattle.std.proofs.Common.{rules}
use Rattle.crc32.proofs.inner.bytes.Goals as goal

pub returns : goal.returns
returns c = search (feed-fold c.args.s.now c.args.r, rules)
