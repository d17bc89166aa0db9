-- `windows_label::judge` meets its contract: one law for each way out. Assumes nothing.
use mathlib.Core.Path.{◌≡◌, sym, ap, ◌∙◌}
use mathlib.Core.Bool.{true}
use borrow.Author.Tests.{eqb-true, eq-eqb, ne_eqb}
use Rattle.units.specs.Places.{good_size}
use Rattle.units.specs.Meanings.{card_means}
use Rattle.std.specs.Prelude.{Err}
use Rattle.label.specs.declared.SetRefusal.{SetRefusal}
use Rattle.label.specs.Meanings.{judged_means}
use Rattle.windows_label.proofs.Ways.{set-1, set-38, set-refused, set-2, set-judged}
use Rattle.windows_label.proofs.judge.Goals as goal

pub returns-then-not-good_block_size : goal.returns-then-not-good_block_size
returns-then-not-good_block_size c = let a = c.args in ap (λ (r : SetRefusal). judged_means (Err r)) c.no_slot.ensures ∙ set-1 a.b a.blocks a.head.now a.tail.now a.slots.now a.labels.now (sym c.good_block_size.ensures ∙ c.if-not-good_block_size.true)

pub returns-then-slots-eq0 : goal.returns-then-slots-eq0
returns-then-slots-eq0 c =
    let sized : good_size c.args.b ≡ true = sym c.good_block_size.ensures ∙ c.if-not-good_block_size.false in
    let a = c.args in ap (λ (r : SetRefusal). judged_means (Err r)) c.no_slot-then-slots-eq0.ensures ∙ set-38 a.b a.blocks a.head.now a.tail.now a.slots.now a.labels.now sized (eq-eqb _ 0 c.if-slots-eq0.true)

pub returns-then-not-thirteen_each : goal.returns-then-not-thirteen_each
returns-then-not-thirteen_each c =
    let sized : good_size c.args.b ≡ true = sym c.good_block_size.ensures ∙ c.if-not-good_block_size.false in
    let a = c.args in
    ap (λ (r : SetRefusal). judged_means (Err r)) c.no_slot-then-not-thirteen_each.ensures
    ∙ set-2 a.b a.blocks a.head.now a.tail.now a.slots.now a.labels.now sized (ne_eqb _ 0 c.if-slots-eq0.false) (sym (ap card_means c.in-Ok.is) ∙ c.check.ensures) (sym c.thirteen_each.ensures ∙ c.if-not-thirteen_each.true)

pub judge_handed-requires : goal.judge_handed-requires
judge_handed-requires c = eqb-true _ _ (sym c.thirteen_each.ensures ∙ c.if-not-thirteen_each.false)

pub returns-in-Err : goal.returns-in-Err
returns-in-Err c =
    let sized : good_size c.args.b ≡ true = sym c.good_block_size.ensures ∙ c.if-not-good_block_size.false in
    let a = c.args in
    ap (λ (r : SetRefusal). judged_means (Err r)) c.no_slot-in-Err.ensures ∙ set-refused a.b a.blocks a.head.now a.tail.now a.slots.now a.labels.now sized (ne_eqb _ 0 c.if-slots-eq0.false) (sym (ap card_means c.in-Err.is) ∙ c.check.ensures)

pub returns-else-not-thirteen_each : goal.returns-else-not-thirteen_each
returns-else-not-thirteen_each c =
    let sized : good_size c.args.b ≡ true = sym c.good_block_size.ensures ∙ c.if-not-good_block_size.false in
    let a = c.args in
    set-judged a.b a.blocks a.head.now a.tail.now a.slots.now a.labels.now sized (ne_eqb _ 0 c.if-slots-eq0.false) (sym (ap card_means c.in-Ok.is) ∙ c.check.ensures) (sym c.thirteen_each.ensures ∙ c.if-not-thirteen_each.false) c.judge_handed.ensures
