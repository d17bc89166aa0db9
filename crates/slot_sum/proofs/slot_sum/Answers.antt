-- `slot_sum` meets its contract: the tests are those of the definition, in its order. Assumes nothing.
use mathlib.Core.Path.{sym}
use Rattle.slot_sum.proofs.Laws.{old-short, new-short, too_far, summed}
use Rattle.slot_sum.proofs.slot_sum.Goals as goal

pub returns-then-old-ne128 : goal.returns-then-old-ne128
returns-then-old-ne128 c = let a = c.args in sym (old-short a.sum a.after a.old.now a.new.now c.if-old-ne128.true)

pub returns-then-new-ne128 : goal.returns-then-new-ne128
returns-then-new-ne128 c = let a = c.args in sym (new-short a.sum a.after a.old.now a.new.now c.if-old-ne128.false c.if-new-ne128.true)

pub returns-then-after : goal.returns-then-after
returns-then-after c = let a = c.args in sym (too_far a.sum a.after a.old.now a.new.now c.if-old-ne128.false c.if-new-ne128.false c.if-after.true)

pub returns : goal.returns
returns c =
    let i = c in
    let a = i.args in
    rw c.sum_after.ensures (sym (summed a.sum a.after a.old.now a.new.now i.if-old-ne128.false i.if-new-ne128.false i.if-after.false))
