-- `label::judge` meets its contract: one law for each way out. Assumes nothing.
use mathlib.Core.Path.{sym, ap, ◌∙◌}
use borrow.Author.Tests.{not-true, eq-eqb, ne_eqb}
use Rattle.units.specs.Meanings.{card_means}
use Rattle.label.specs.Meanings.{judged_means}
use Rattle.label.proofs.JudgeWays.{judge-1, judge-38, judge-refused, judge-list}
use Rattle.std.specs.Prelude.{not, Err}
use Rattle.label.specs.declared.SetRefusal.{SetRefusal}
use Rattle.label.proofs.judge.Goals as goal

pub returns-then-not-good_block_size : goal.returns-then-not-good_block_size
returns-then-not-good_block_size c = let a = c.args in ap (λ (r : SetRefusal). judged_means (Err r)) c.no_slot.ensures ∙ judge-1 a.b a.img.now a.slots.now (sym c.good_block_size.ensures ∙ not-true _ (ap not c.if-not-good_block_size.true))

pub returns-then-slots-eq0 : goal.returns-then-slots-eq0
returns-then-slots-eq0 c = let a = c.args in ap (λ (r : SetRefusal). judged_means (Err r)) c.no_slot-then-slots-eq0.ensures ∙ judge-38 a.b a.img.now a.slots.now (sym c.good_block_size.ensures ∙ c.if-not-good_block_size.false) (eq-eqb _ 0 c.if-slots-eq0.true)

pub returns-in-Err : goal.returns-in-Err
returns-in-Err c =
    let a = c.args in
    ap (λ (r : SetRefusal). judged_means (Err r)) c.no_slot-in-Err.ensures ∙ judge-refused a.b a.img.now a.slots.now (sym c.good_block_size.ensures ∙ c.if-not-good_block_size.false) (ne_eqb _ 0 c.if-slots-eq0.false) (sym (ap card_means c.in-Err.is) ∙ c.check.ensures)

pub returns-in-Ok : goal.returns-in-Ok
returns-in-Ok c =
    let a = c.args in
    judge-list a.b a.img.now a.slots.now (sym c.good_block_size.ensures ∙ c.if-not-good_block_size.false) (ne_eqb _ 0 c.if-slots-eq0.false) (sym (ap card_means c.in-Ok.is) ∙ c.check.ensures) c.judge_slots.ensures
