-- Assumes nothing.
use Rattle.gpt_c.proofs.Laws.{entry-short, entry_whole}
use Rattle.gpt_c.proofs.entries.entry_parsed.Goals as goal

pub returns-then-bytes-lt128 : goal.returns-then-bytes-lt128
returns-then-bytes-lt128 c = rw (entry-short c.args.bytes.now c.if-bytes-lt128.true)

pub returns : goal.returns
returns c = rw (entry_whole c.args.bytes.now c.if-bytes-lt128.false, c.entry_at.ensures)
