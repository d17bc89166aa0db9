-- `windows_label::inner::judge_handed` meets its contract. The loop's invariant: what is left of the list, held against the first slot's date, comes to what the whole list does.
-- Assumes nothing.
use mathlib.Core.Path.{◌≡◌, refl, sym, ap, ◌∙◌}
use Prim.Native.Nat.{◌*◌, ◌<◌}
use native.Mathlib.Omega.{arith}
use borrow.Author.Rules.{rules}
use lib.ListN.{length, get_or}
use Rattle.units.specs.Meanings.{card_means}
use Rattle.units.specs.Bytes.{part}
use Rattle.label.specs.Judging.{step_answer}
use Rattle.windows_label.specs.Handed.{handed_label, first_place}
use Rattle.windows_label.proofs.Ways.{first-within, handed-at, judge-next, judge-stop, judge-end}
use Rattle.windows_label.proofs.inner.judge_handed.Goals as goal

pub loop-slot-init : goal.loop-slot-init
loop-slot-init c = refl

-- so it has its 13 bytes
pub overflow_mul-at : goal.overflow_mul-at
overflow_mul-at c =
    let placed : c.first_place-at.result < length c.args.slots.now = let a = c.args in
    let l = c.loop-slot in
    omega (arith, c.first_place-at.ensures, first-within a.slots.now (get_or a.slots.now l.slot-index 0) l.slot-index c.loop-slot-test.true refl, c.loop-slot-test.true) in
    let q = placed in search rules

pub overflow_add-at : goal.overflow_add-at
overflow_add-at c =
    let placed : c.first_place-at.result < length c.args.slots.now = let a = c.args in
    let l = c.loop-slot in
    omega (arith, c.first_place-at.ensures, first-within a.slots.now (get_or a.slots.now l.slot-index 0) l.slot-index c.loop-slot-test.true refl, c.loop-slot-test.true) in
    let q = placed in search rules

pub slice_bounds-read_label-end : goal.slice_bounds-read_label-end
slice_bounds-read_label-end c =
    let placed : c.first_place-at.result < length c.args.slots.now = let a = c.args in
    let l = c.loop-slot in
    omega (arith, c.first_place-at.ensures, first-within a.slots.now (get_or a.slots.now l.slot-index 0) l.slot-index c.loop-slot-test.true refl, c.loop-slot-test.true) in
    omega (arith, c.requires, placed)

pub returns-in-Err : goal.returns-in-Err
returns-in-Err c =
    let stepped : let a = c.args in let s = get_or a.slots.now c.loop-slot.slot-index 0 in
    card_means c.step.result ≡ step_answer c.loop-slot.agreed (handed_label a.b a.blocks a.head.now a.tail.now s (part a.labels.now (13 * first_place a.slots.now s) 13)) = let a = c.args in
    let f = c.first_place-at in
    c.step.ensures ∙ ap (λ l. step_answer c.loop-slot.agreed l) (handed-at a.b a.blocks a.head.now a.tail.now (get_or a.slots.now c.loop-slot.slot-index 0) a.labels.now f.result c.read_label-read.ensures f.ensures) in
    let a = c.args in
    let l = c.loop-slot in
    judge-stop a.b a.blocks a.head.now a.tail.now a.slots.now a.labels.now a.slots.now l.slot-index c.loop-slot-test.true l.agreed (sym stepped ∙ ap card_means c.in-Err.is) ∙ l.invariant

pub loop-slot-preserved : goal.loop-slot-preserved
loop-slot-preserved c =
    let stepped : let a = c.args in let s = get_or a.slots.now c.loop-slot.slot-index 0 in
    card_means c.step.result ≡ step_answer c.loop-slot.agreed (handed_label a.b a.blocks a.head.now a.tail.now s (part a.labels.now (13 * first_place a.slots.now s) 13)) = let a = c.args in
    let f = c.first_place-at in
    c.step.ensures ∙ ap (λ l. step_answer c.loop-slot.agreed l) (handed-at a.b a.blocks a.head.now a.tail.now (get_or a.slots.now c.loop-slot.slot-index 0) a.labels.now f.result c.read_label-read.ensures f.ensures) in
    let a = c.args in
    let l = c.loop-slot in
    judge-next a.b a.blocks a.head.now a.tail.now a.slots.now a.labels.now a.slots.now l.slot-index c.loop-slot-test.true l.agreed (sym stepped ∙ ap card_means c.in-Ok.is) ∙ l.invariant

pub returns : goal.returns
returns c =
    let a = c.args in
    let l = c.loop-slot in
    c.at_end.ensures ∙ judge-end a.b a.blocks a.head.now a.tail.now a.slots.now a.labels.now a.slots.now l.slot-index c.loop-slot-test.false l.agreed ∙ l.invariant
