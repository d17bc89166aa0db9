-- `windows_listing::nth_used` meets its contract. Assumes nothing.
use mathlib.Core.Path.{sym, ap, ◌∙◌}
use Prim.Native.Nat.{ℕ}
use lib.ListN.{length, take, drop}
use mathlib.Core.List.{map}
use Rattle.partition.specs.Meanings.{slots_of}
use Rattle.tables.specs.Lens.{Front, Tables}
use Rattle.tables.specs.Check.{check}
use Rattle.checking.proofs.CheckWays.{named-check}
use Rattle.listing.specs.Listing.{present_slots, listed}
use Rattle.windows.proofs.Ways.{why-fits}
use Rattle.windows_reader.proofs.Ways.{array_long}
use Rattle.windows_listing.proofs.Ways.{refuses, nth-good-at, nth-over-at, nth-given-at}
use Rattle.windows_listing.proofs.nth_used.Goals as goal

pub returns-then-found-ne0 : goal.returns-then-found-ne0
returns-then-found-ne0 c =
    let a = c.args in
    refuses a.b a.blocks a.head.now a.tail.now (check a.b) (named-check a.b) c.check_in-found.ensures (λ (n : ℕ) (t : Tables). map (listed t) (take 1 (drop a.k (present_slots t)))) c.if-found-ne0.true c.reason.ensures

pub array_of-array-requires : goal.array_of-array-requires
array_of-array-requires c = let q = (let a = c.args in why-fits a.b a.blocks a.head.now a.tail.now (check a.b) c.check_in-found.ensures c.if-found-ne0.false) in (q.room.most, q.head-long, q.tail-long)

pub nth_in-requires : goal.nth_in-requires
nth_in-requires c =
    let a = c.args in
    let q = why-fits a.b a.blocks a.head.now a.tail.now (check a.b) c.check_in-found.ensures c.if-found-ne0.false in
    ap length c.array_of-array.ensures.result_value ∙ array_long a.b a.head.now a.tail.now Front q.head-long q.tail-long

pub entry_in-requires : goal.entry_in-requires
entry_in-requires c =
    let a = c.args in
    let e = c.check_in-found.ensures in
    let z = c.if-found-ne0.false in
    let q = why-fits a.b a.blocks a.head.now a.tail.now (check a.b) e z in (
      ap length c.array_of-array.ensures.result_value ∙ array_long a.b a.head.now a.tail.now Front q.head-long q.tail-long,
      nth-good-at a.b a.blocks a.head.now a.tail.now e z c.array_of-array.ensures.result_value a.k (sym (ap slots_of c.in-Some.is) ∙ c.nth_in.ensures),
    )

pub returns-in-None : goal.returns-in-None
returns-in-None c =
    let a = c.args in
    nth-over-at a.b a.blocks a.head.now a.tail.now c.check_in-found.ensures c.if-found-ne0.false c.array_of-array.ensures.result_value a.k (sym (ap slots_of c.in-None.is) ∙ c.nth_in.ensures)

pub returns-in-Some : goal.returns-in-Some
returns-in-Some c =
    let a = c.args in
    nth-given-at a.b a.blocks a.head.now a.tail.now c.check_in-found.ensures c.if-found-ne0.false c.array_of-array.ensures.result_value a.k (sym (ap slots_of c.in-Some.is) ∙ c.nth_in.ensures) c.entry_in.ensures
