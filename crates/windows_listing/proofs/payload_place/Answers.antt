-- `windows_listing::payload_place` meets its contract: one law for each way out. Assumes nothing.
use mathlib.Core.Path.{ap, ◌∙◌}
use mathlib.Core.List.{List}
use Prim.Native.Nat.{ℕ, ◌+◌, ◌*◌, ◌-◌}
use native.Mathlib.Omega.{arith}
use lib.Dec.{ltb}
use Rattle.units.specs.declared.BytePlace.{BytePlace}
use Rattle.units.specs.declared.why.Why.{Why}
use Rattle.units.specs.Answer.{Answer, accepted, refuse, pick}
use Rattle.units.proofs.Chains.{else-first}
use Rattle.units.proofs.Lists.{length-lent, lent-part}
use Rattle.tables.specs.Lens.{Front, copy_in, Tables}
use Rattle.tables.specs.Entries.{entry, first_of, last_of}
use Rattle.tables.specs.Check.{slot_check}
use Rattle.checking.proofs.CheckWays.{slot-good}
use Rattle.card.specs.Calls.{used_check, slot_entry, payload_place}
use Rattle.windows.specs.Windows.{window_tables}
use Rattle.windows.proofs.Ways.{why-fits, why-zero}
use Rattle.windows_listing.proofs.Ways.{place-refused, place-spanned, place-given}
use Rattle.windows_listing.proofs.payload_place.Goals as goal

abbrev tests : ℕ → ℕ → ℕ → Tables → Why
tests B s n t = used_check B n t s

pub returns-then-found-ne0 : goal.returns-then-found-ne0
returns-then-found-ne0 c = let a = c.args in place-refused a.b a.blocks a.head.now a.tail.now a.slot.0 a.place.0 a.n c.used_check_in-found.ensures c.if-found-ne0.true c.reason.ensures

pub overflow_add-size : goal.overflow_add-size
overflow_add-size c = omega (arith, (let a = c.args in why-fits a.b a.blocks a.head.now a.tail.now (tests a.b a.slot.0) c.used_check_in-found.ensures c.if-found-ne0.false).room.most)

pub overflow_add-size-2 : goal.overflow_add-size-2
overflow_add-size-2 c = omega (arith, (let a = c.args in why-fits a.b a.blocks a.head.now a.tail.now (tests a.b a.slot.0) c.used_check_in-found.ensures c.if-found-ne0.false).room.most)

pub slice_bounds-slot_span-end : goal.slice_bounds-slot_span-end
slice_bounds-slot_span-end c = omega (arith, (let a = c.args in why-fits a.b a.blocks a.head.now a.tail.now (tests a.b a.slot.0) c.used_check_in-found.ensures c.if-found-ne0.false).head-long)

pub slot_span-span-requires : goal.slot_span-span-requires
unfolding used_check
slot_span-span-requires c =
    let a = c.args in
    let q = (let a = c.args in why-fits a.b a.blocks a.head.now a.tail.now (tests a.b a.slot.0) c.used_check_in-found.ensures c.if-found-ne0.false) in
    (q.room.most, (let a = c.args in let t = window_tables a.b a.head.now a.tail.now in (slot-good a.b (a.blocks * a.b) t a.slot.0 (else-first (slot_check a.b (a.blocks * a.b) t a.slot.0) _ (why-zero a.b a.blocks a.head.now a.tail.now (tests a.b a.slot.0) c.used_check_in-found.ensures c.if-found-ne0.false))).1), length-lent a.head.now a.b (a.b + 16384) (omega (arith, q.head-long)))

pub overflow_mul-blocks : goal.overflow_mul-blocks
overflow_mul-blocks c = omega (arith, (let a = c.args in why-fits a.b a.blocks a.head.now a.tail.now (tests a.b a.slot.0) c.used_check_in-found.ensures c.if-found-ne0.false).width)

pub place_in-requires : goal.place_in-requires
place_in-requires c =
    let a = c.args in
    let s = place-spanned a.b a.blocks a.head.now a.tail.now a.slot.0 a.place.0 a.n c.used_check_in-found.ensures c.if-found-ne0.false in
    rw ((let a = c.args in c.slot_span-span.ensures.0 ∙ ap (λ (l : List ℕ). first_of (entry (copy_in a.b Front l).array (a.slot.0 - 1))) (lent-part a.head.now a.b (a.b + 16384))), (let a = c.args in c.slot_span-span.ensures.1 ∙ ap (λ (l : List ℕ). last_of (entry (copy_in a.b Front l).array (a.slot.0 - 1))) (lent-part a.head.now a.b (a.b + 16384)))) (omega (arith, (let a = c.args in why-fits a.b a.blocks a.head.now a.tail.now (tests a.b a.slot.0) c.used_check_in-found.ensures c.if-found-ne0.false).room.least), s.order, s.end)

pub returns : goal.returns
returns c =
    let a = c.args in
    let t = window_tables a.b a.head.now a.tail.now in
    place-given a.b a.blocks a.head.now a.tail.now a.slot.0 a.place.0 a.n c.used_check_in-found.ensures c.if-found-ne0.false
    (c.place_in.ensures
    ∙ ap (λ (f : ℕ). pick {X = Answer BytePlace} (ltb ((c.slot_span-span.result.last.0 + 1 - f) * a.b) (a.place.0 + a.n)) (refuse 24) (accepted (record { 0 = f * a.b + a.place.0 }))) (let a = c.args in c.slot_span-span.ensures.0 ∙ ap (λ (l : List ℕ). first_of (entry (copy_in a.b Front l).array (a.slot.0 - 1))) (lent-part a.head.now a.b (a.b + 16384)))
    ∙ ap (λ (l : ℕ). pick {X = Answer BytePlace} (ltb ((l + 1 - first_of (slot_entry t a.slot.0)) * a.b) (a.place.0 + a.n)) (refuse 24) (accepted (record { 0 = payload_place a.b t a.slot.0 a.place.0 }))) (let a = c.args in c.slot_span-span.ensures.1 ∙ ap (λ (l : List ℕ). last_of (entry (copy_in a.b Front l).array (a.slot.0 - 1))) (lent-part a.head.now a.b (a.b + 16384))))
