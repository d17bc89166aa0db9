use Rattle.std.proofs.Common.{◌≡◌, ℕ, List, ◌-◌, length, refl, sym, ap, ◌∙◌, arith}
use Rattle.partition.specs.Array.{present, present_from}
use Rattle.partition.proofs.Laws.{from-yes, from-no, from-none}
use Rattle.tables.specs.Lens.{tables}
use Rattle.listing.specs.Listing.{present_slots}
use Rattle.lister.proofs.print_slots.Goals as goal
use Rattle.lister.proofs.print_slots.Goals.{then-print_slot, else-print_slot}

-- before the first slot all are left
all_left : (xs : List ℕ) → length (present_slots (tables 512 xs)) ≡ length (present_from (tables 512 xs).front.array 0 0 (128 - 0))
unfolding present_slots
all_left xs = refl

pub loop-place-init : goal.loop-place-init
loop-place-init g c = (omega arith, omega (arith, all_left c.args.img.now))

pub loop-place-preserved : goal.loop-place-preserved
loop-place-preserved g c =
    let l = c.loop-place in
    let arr = (tables 512 c.args.img.now).front.array in
    let k : c.slot_at.result.0 - 1 ≡ l.place = rw c.slot_at.ensures (omega arith) in
    let e = ap (present arr 0) (sym k) ∙ sym c.print_slot.ensures in
    elim c.if-print_slot.branch [
      | then-print_slot w ↦ (omega arith, omega (arith, ap length (from-yes arr 0 l.place 128 (omega arith) (e ∙ w.if-print_slot.true))))
      | else-print_slot w ↦ (omega arith, omega (arith, ap length (from-no arr 0 l.place 128 (omega arith) (e ∙ w.if-print_slot.false))))
    ]

pub returns : goal.returns
returns g c = omega (arith, ap length (from-none (tables 512 c.args.img.now).front.array 0 c.loop-place.place 128 (omega arith)))
