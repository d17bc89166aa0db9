-- `message::message` meets its contract. Assumes nothing.
use native.Mathlib.Omega.{arith}
use mathlib.Core.Path.{sym}
use lib.ListN.{replicate, length-replicate}
use Rattle.message.specs.Words.{message_text}
use lib.Seq.{length-sets, length-take-le}
use Rattle.message.proofs.Laws.{stored-first}
use Rattle.message.proofs.message.Goals as goal

pub slice_bounds-words-end : goal.slice_bounds-words-end
slice_bounds-words-end c = rw c.compose-n.ensures.2 (simp (length-sets, length-replicate) (omega arith))

pub slice_bounds-deliver-end : goal.slice_bounds-deliver-end
slice_bounds-deliver-end c = sym (length-take-le _ _ (rw c.compose-n.ensures.2 (simp (length-sets, length-replicate) (omega arith))))

pub returns : goal.returns
returns c =
    let a = c.args in
    let m = c.compose-n in
    let t = stored-first (replicate 160 0) (message_text a.number a.place a.slot) m.result m.ensures.0 (simp length-replicate (omega (arith, m.ensures.0))) in
    rw t at (rw m.ensures.2 at c.deliver.ensures)
