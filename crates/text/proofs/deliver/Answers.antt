use Rattle.text.proofs.Laws.{text-short, text-stored}
use Rattle.text.proofs.deliver.Goals as goal

pub returns-then-out-n : goal.returns-then-out-n
returns-then-out-n c = text-short _ _ c.if-out-n.true

pub returns : goal.returns
returns c = rw c.copy_from_slice.ensures.after (text-stored _ _ c.if-out-n.false)
