-- `windows_listing::next_used` meets its contract. Assumes nothing.
use mathlib.Core.Path.{ap, ◌∙◌}
use mathlib.Core.List.{List}
use Prim.Native.Nat.{ℕ, ◌-◌}
use lib.ListN.{length, take}
use Rattle.partition.specs.Array.{present_from}
use Rattle.tables.specs.Lens.{Front, Tables}
use Rattle.tables.specs.Check.{check}
use Rattle.checking.proofs.CheckWays.{named-check}
use Rattle.reader.proofs.Ways.{whole-array}
use Rattle.windows.proofs.Ways.{why-fits}
use Rattle.windows_reader.proofs.Ways.{array-side, array_long}
use Rattle.windows_listing.proofs.Ways.{refuses, accepts}
use Rattle.windows_listing.proofs.next_used.Goals as goal

pub returns-then-found-ne0 : goal.returns-then-found-ne0
returns-then-found-ne0 c = let a = c.args in refuses a.b a.blocks a.head.now a.tail.now (check a.b) (named-check a.b) c.check_in-found.ensures (λ (n : ℕ) (t : Tables). take 1 (present_from t.front.array 0 a.after.0 (128 - a.after.0))) c.if-found-ne0.true c.reason.ensures

pub array_of-array-requires : goal.array_of-array-requires
array_of-array-requires c = let q = (let a = c.args in why-fits a.b a.blocks a.head.now a.tail.now (check a.b) c.check_in-found.ensures c.if-found-ne0.false) in (q.room.most, q.head-long, q.tail-long)

pub next_present-requires : goal.next_present-requires
next_present-requires c =
    let a = c.args in
    let q = (let a = c.args in why-fits a.b a.blocks a.head.now a.tail.now (check a.b) c.check_in-found.ensures c.if-found-ne0.false) in
    whole-array _ (ap length c.array_of-array.ensures.result_value ∙ array_long a.b a.head.now a.tail.now Front q.head-long q.tail-long)

pub returns : goal.returns
returns c =
    let a = c.args in
    let e = c.check_in-found.ensures in
    accepts a.b a.blocks a.head.now a.tail.now (check a.b) (named-check a.b) e (λ (n : ℕ) (t : Tables). take 1 (present_from t.front.array 0 a.after.0 (128 - a.after.0))) c.if-found-ne0.false
    (c.next_present.ensures
    ∙ ap (λ (l : List ℕ). take 1 (present_from l 0 a.after.0 (128 - a.after.0))) (c.array_of-array.ensures.result_value ∙ array-side a.b a.head.now a.tail.now Front))
