-- `windows_listing::inner::used_check_in` meets its contract. Assumes nothing.
use mathlib.Core.Path.{sym, ap, ◌∙◌}
use mathlib.Core.Bool.{not}
use mathlib.Core.List.{List}
use Prim.Native.Nat.{ℕ, ◌+◌, ◌*◌, ◌-◌}
use native.Mathlib.Omega.{arith}
use Rattle.units.specs.declared.why.Why.{Why}
use Rattle.units.specs.Answer.{plain, when}
use Rattle.units.proofs.Chains.{last, none}
use Rattle.units.proofs.Lists.{length-lent, lent-part}
use Rattle.tables.specs.Lens.{Front, copy_in, Tables}
use Rattle.tables.specs.Entries.{entry, used}
use Rattle.tables.specs.Check.{slot_check}
use Rattle.checking.proofs.CheckWays.{slot-good}
use Rattle.card.specs.Calls.{slot_entry, used_check}
use Rattle.windows.specs.Windows.{window_tables}
use Rattle.windows.proofs.Ways.{then_found, then-passed, why-fits, why-zero}
use Rattle.windows_listing.proofs.inner.used_check_in.Goals as goal

abbrev slots : ℕ → ℕ → ℕ → Tables → Why
slots B s n t = slot_check B n t s

abbrev more : ℕ → ℕ → Tables → Why
more s n t = when (not (used (slot_entry t s))) (plain 23)

pub returns-then-found-ne0 : goal.returns-then-found-ne0
unfolding used_check
returns-then-found-ne0 c = let a = c.args in then_found a.b a.blocks a.head.now a.tail.now (slots a.b a.slot.0) (more a.slot.0) c.slot_check_in-found.ensures c.if-found-ne0.true

pub overflow_add-size : goal.overflow_add-size
overflow_add-size c = omega (arith, (let a = c.args in why-fits a.b a.blocks a.head.now a.tail.now (slots a.b a.slot.0) c.slot_check_in-found.ensures c.if-found-ne0.false).room.most)

pub overflow_add-size-2 : goal.overflow_add-size-2
overflow_add-size-2 c = omega (arith, (let a = c.args in why-fits a.b a.blocks a.head.now a.tail.now (slots a.b a.slot.0) c.slot_check_in-found.ensures c.if-found-ne0.false).room.most)

pub slice_bounds-slot_unused-end : goal.slice_bounds-slot_unused-end
slice_bounds-slot_unused-end c = omega (arith, (let a = c.args in why-fits a.b a.blocks a.head.now a.tail.now (slots a.b a.slot.0) c.slot_check_in-found.ensures c.if-found-ne0.false).head-long)

pub slot_unused-requires : goal.slot_unused-requires
slot_unused-requires c =
    let a = c.args in
    let q = (let a = c.args in why-fits a.b a.blocks a.head.now a.tail.now (slots a.b a.slot.0) c.slot_check_in-found.ensures c.if-found-ne0.false) in
    (q.room.most, (let a = c.args in (slot-good a.b (a.blocks * a.b) (window_tables a.b a.head.now a.tail.now) a.slot.0 (why-zero a.b a.blocks a.head.now a.tail.now (slots a.b a.slot.0) c.slot_check_in-found.ensures c.if-found-ne0.false)).1), length-lent a.head.now a.b (a.b + 16384) (omega (arith, q.head-long)))

pub returns-then-slot_unused : goal.returns-then-slot_unused
unfolding used_check
returns-then-slot_unused c =
    let a = c.args in
    then-passed a.b a.blocks a.head.now a.tail.now (slots a.b a.slot.0) (more a.slot.0) c.slot_check_in-found.ensures c.if-found-ne0.false (last (plain 23) (sym (let a = c.args in c.slot_unused.ensures ∙ ap (λ (l : List ℕ). not (used (entry (copy_in a.b Front l).array (a.slot.0 - 1)))) (lent-part a.head.now a.b (a.b + 16384))) ∙ c.if-slot_unused.true))

pub returns : goal.returns
unfolding used_check
returns c =
    let a = c.args in
    then-passed a.b a.blocks a.head.now a.tail.now (slots a.b a.slot.0) (more a.slot.0) c.slot_check_in-found.ensures c.if-found-ne0.false (none (plain 23) (sym (let a = c.args in c.slot_unused.ensures ∙ ap (λ (l : List ℕ). not (used (entry (copy_in a.b Front l).array (a.slot.0 - 1)))) (lent-part a.head.now a.b (a.b + 16384))) ∙ c.if-slot_unused.false))
