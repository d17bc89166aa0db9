-- `label::judging::judge_slots` meets its contract. The loop's invariant: what is left of the list, held against the first slot's date, comes to what the whole list does.
-- Assumes nothing.
use mathlib.Core.Path.{refl, sym, ap, ◌∙◌}
use Rattle.units.specs.Meanings.{card_means}
use Rattle.label.specs.Judging.{step_answer}
use Rattle.label.proofs.JudgeWays.{judge-next, judge-stop, judge-end}
use Rattle.label.proofs.judging.judge_slots.Goals as goal

pub loop-slot-init : goal.loop-slot-init
loop-slot-init c = refl

pub returns-in-Err : goal.returns-in-Err
returns-in-Err c =
    let a = c.args in
    judge-stop a.b a.img.now a.slots.now c.loop-slot.slot-index c.loop-slot-test.true c.loop-slot.agreed (ap (λ l. step_answer c.loop-slot.agreed l) (sym c.read_label.ensures) ∙ sym c.step.ensures ∙ ap card_means c.in-Err.is) ∙ c.loop-slot.invariant

pub loop-slot-preserved : goal.loop-slot-preserved
loop-slot-preserved c =
    let a = c.args in
    judge-next a.b a.img.now a.slots.now c.loop-slot.slot-index c.loop-slot-test.true c.loop-slot.agreed (ap (λ l. step_answer c.loop-slot.agreed l) (sym c.read_label.ensures) ∙ sym c.step.ensures ∙ ap card_means c.in-Ok.is) ∙ c.loop-slot.invariant

pub returns : goal.returns
returns c =
    let a = c.args in
    c.at_end.ensures ∙ judge-end a.b a.img.now a.slots.now c.loop-slot.slot-index c.loop-slot-test.false c.loop-slot.agreed ∙ c.loop-slot.invariant
