-- `windows_listing::read_slot` meets its contract. Assumes nothing.
use mathlib.Core.Path.{sym, ap, ◌∙◌}
use mathlib.Core.Bool.{not}
use mathlib.Core.List.{List}
use Prim.Native.Nat.{ℕ, ◌*◌, ◌-◌}
use lib.ListN.{length}
use Rattle.units.specs.declared.why.Why.{Why}
use Rattle.units.specs.Bytes.{all_zero}
use Rattle.partition.specs.Format.{entry_at}
use Rattle.partition.specs.Array.{entry_place}
use Rattle.tables.specs.Lens.{Front, Tables}
use Rattle.tables.specs.Entries.{entry}
use Rattle.tables.specs.Check.{slot_check}
use Rattle.checking.proofs.CheckWays.{slot-good, named-slot}
use Rattle.reader.specs.Reader.{held_in}
use Rattle.listing.specs.Listing.{slot_read}
use Rattle.listing.proofs.Ways.{slot-given}
use Rattle.windows.specs.Windows.{whole, window_tables}
use Rattle.windows.proofs.Ways.{why-fits, why-zero, window-zero, found_at, answer_at}
use Rattle.windows_reader.proofs.Ways.{array_long}
use Rattle.windows_listing.proofs.Ways.{refuses, front_at}
use Rattle.windows_listing.proofs.read_slot.Goals as goal

abbrev tests : ℕ → ℕ → ℕ → Tables → Why
tests B s n t = slot_check B n t s

pub returns-then-found-ne0 : goal.returns-then-found-ne0
returns-then-found-ne0 c =
    let a = c.args in
    refuses a.b a.blocks a.head.now a.tail.now (tests a.b a.slot.0) (λ (n : ℕ) (t : Tables). named-slot a.b n t a.slot.0) c.slot_check_in-found.ensures
    (λ (n : ℕ) (t : Tables). record { present = not (all_zero (entry t.front.array (a.slot.0 - 1))); partition = entry_at t.front.array (entry_place 0 (a.slot.0 - 1)) }) c.if-found-ne0.true c.reason.ensures

pub array_of-array-requires : goal.array_of-array-requires
array_of-array-requires c = let q = (let a = c.args in why-fits a.b a.blocks a.head.now a.tail.now (tests a.b a.slot.0) c.slot_check_in-found.ensures c.if-found-ne0.false) in (q.room.most, q.head-long, q.tail-long)

pub slot_in-requires : goal.slot_in-requires
slot_in-requires c =
    let a = c.args in
    let q = (let a = c.args in why-fits a.b a.blocks a.head.now a.tail.now (tests a.b a.slot.0) c.slot_check_in-found.ensures c.if-found-ne0.false) in
    (ap length c.array_of-array.ensures.result_value ∙ array_long a.b a.head.now a.tail.now Front q.head-long q.tail-long, (let a = c.args in (slot-good a.b (a.blocks * a.b) (window_tables a.b a.head.now a.tail.now) a.slot.0 (why-zero a.b a.blocks a.head.now a.tail.now (tests a.b a.slot.0) c.slot_check_in-found.ensures c.if-found-ne0.false)).1))

pub returns : goal.returns
returns c =
    let a = c.args in
    let e = c.slot_check_in-found.ensures in
    let z = c.if-found-ne0.false in
    let l = front_at a.b a.blocks a.head.now a.tail.now (why-fits a.b a.blocks a.head.now a.tail.now (tests a.b a.slot.0) e z) c.array_of-array.ensures.result_value in
    let w = window-zero a.b a.blocks a.head.now a.tail.now (tests a.b a.slot.0) e z in
    slot-given a.b (whole a.b a.blocks a.head.now a.tail.now) a.slot.0 (found_at a.b a.blocks a.head.now a.tail.now (tests a.b a.slot.0) e w) z (c.slot_in.ensures ∙ ap (λ (x : List ℕ). held_in x a.slot.0) l)
    ∙ sym (answer_at a.b a.blocks a.head.now a.tail.now (tests a.b a.slot.0) e z (λ (xs : List ℕ). slot_read a.b xs a.slot.0))
