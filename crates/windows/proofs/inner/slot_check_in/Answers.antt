-- `windows::inner::slot_check_in` meets its contract. Assumes nothing.
use mathlib.Core.Path.{sym, ◌∙◌}
use Prim.Native.Nat.{ℕ}
use Rattle.units.specs.declared.why.Why.{Why}
use Rattle.units.specs.Answer.{plain, when}
use Rattle.units.proofs.Chains.{last, none}
use Rattle.tables.specs.Lens.{Tables}
use Rattle.tables.specs.Check.{check, slot_check, bad_slot}
use Rattle.windows.proofs.Ways.{then_found, then-passed}
use Rattle.windows.proofs.inner.slot_check_in.Goals as goal

abbrev more : ℕ → ℕ → Tables → Why
more s n t = when (bad_slot s) (plain 18)

pub returns-then-found-ne0 : goal.returns-then-found-ne0
unfolding slot_check
returns-then-found-ne0 c = let a = c.args in then_found a.b a.blocks a.head.now a.tail.now (check a.b) (more a.slot.0) c.check_in-found.ensures c.if-found-ne0.true

pub returns-then-bad_slot : goal.returns-then-bad_slot
unfolding slot_check
returns-then-bad_slot c =
    let a = c.args in
    then-passed a.b a.blocks a.head.now a.tail.now (check a.b) (more a.slot.0) c.check_in-found.ensures c.if-found-ne0.false (last (plain 18) (sym c.bad_slot.ensures ∙ c.if-bad_slot.true))

pub returns : goal.returns
unfolding slot_check
returns c =
    let a = c.args in
    then-passed a.b a.blocks a.head.now a.tail.now (check a.b) (more a.slot.0) c.check_in-found.ensures c.if-found-ne0.false (none (plain 18) (sym c.bad_slot.ensures ∙ c.if-bad_slot.false))
