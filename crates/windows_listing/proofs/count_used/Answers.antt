-- `windows_listing::count_used` meets its contract. Assumes nothing.
use mathlib.Core.Path.{ap, ◌∙◌}
use mathlib.Core.List.{List}
use Prim.Native.Nat.{ℕ}
use lib.ListN.{length}
use Rattle.partition.specs.Array.{present_from}
use Rattle.tables.specs.Lens.{Front, Tables}
use Rattle.tables.specs.Check.{check}
use Rattle.checking.proofs.CheckWays.{named-check}
use Rattle.reader.proofs.Ways.{whole-array}
use Rattle.listing.specs.Listing.{present_slots}
use Rattle.windows.proofs.Ways.{why-fits}
use Rattle.windows_reader.proofs.Ways.{array-side, array_long}
use Rattle.windows_listing.proofs.Ways.{refuses, accepts}
use Rattle.windows_listing.proofs.count_used.Goals as goal

abbrev counts : ℕ → Tables → ℕ
counts n t = length (present_slots t)

pub returns-then-found-ne0 : goal.returns-then-found-ne0
returns-then-found-ne0 c = let a = c.args in refuses a.b a.blocks a.head.now a.tail.now (check a.b) (named-check a.b) c.check_in-found.ensures counts c.if-found-ne0.true c.reason.ensures

pub array_of-array-requires : goal.array_of-array-requires
array_of-array-requires c = let q = (let a = c.args in why-fits a.b a.blocks a.head.now a.tail.now (check a.b) c.check_in-found.ensures c.if-found-ne0.false) in (q.room.most, q.head-long, q.tail-long)

pub count_present-requires : goal.count_present-requires
count_present-requires c =
    let a = c.args in
    let q = (let a = c.args in why-fits a.b a.blocks a.head.now a.tail.now (check a.b) c.check_in-found.ensures c.if-found-ne0.false) in
    whole-array _ (ap length c.array_of-array.ensures.result_value ∙ array_long a.b a.head.now a.tail.now Front q.head-long q.tail-long)

pub returns : goal.returns
unfolding present_slots
returns c =
    let a = c.args in
    accepts a.b a.blocks a.head.now a.tail.now (check a.b) (named-check a.b) c.check_in-found.ensures counts c.if-found-ne0.false
    (c.count_present.ensures ∙ ap (λ (l : List ℕ). length (present_from l 0 0 128)) (c.array_of-array.ensures.result_value ∙ array-side a.b a.head.now a.tail.now Front))
