-- `units::inner::put_fields` meets its contract. The invariant: the fields that are left, laid from place p on, give what all of them laid from at on give,
-- and they end where all end. Assumes nothing.
use mathlib.Core.Path.{sym, ◌∙◌}
use native.Mathlib.Omega.{arith}
use Rattle.units.proofs.Laws.{total-more, laid_more, laid_none}
use Rattle.units.proofs.inner.put_fields.Goals as goal

pub put_num-requires : goal.put_num-requires
put_num-requires c =
    let a = c.args in
    let l = c.loop-i in
    omega (arith, total-more a.widths.now l.i (omega arith))

pub overflow_add-p : goal.overflow_add-p
overflow_add-p c =
    let a = c.args in
    let l = c.loop-i in
    omega (arith, total-more a.widths.now l.i (omega arith), c.requires, c.well_formed.0.0)

pub loop-i-preserved : goal.loop-i-preserved
loop-i-preserved c =
    let a = c.args in
    let l = c.loop-i in (
      omega arith,
      omega (arith, total-more a.widths.now l.i (omega arith)),
      rw c.put_num.ensures (laid_more l.s l.p a.widths.now a.vals.now l.i (omega arith) (omega arith) ∙ l.invariant.2),
    )

pub returns : goal.returns
returns c =
    let a = c.args in
    let l = c.loop-i in
    sym (laid_none l.s l.p a.widths.now a.vals.now l.i (omega arith)) ∙ l.invariant.2
