-- `listing::listing` meets its contract: the plan of a card, carried out. Assumes nothing.
use lib.ListN.{length}
use mathlib.Core.Path.{refl}
use Prim.Native.Nat.{ℕ}
use Rattle.units.specs.Answer.{Answer}
use Rattle.rows.proofs.Laws.{row-shown}
use Rattle.listing.specs.LentRow.{listing_read}
use Rattle.listing.proofs.LentRow.{listed-within}
use Rattle.listing.proofs.listing.Goals as goal

pub returns : goal.returns
returns c =
    let a = c.args in
    let m = length a.row.now in
    row-shown (λ (x : Answer ℕ). x) (listing_read a.b a.img.now m) a.row.now
    c.plan_of-p.ensures.1 (listed-within a.b a.img.now m) refl c.fill-q.ensures c.count_by.ensures
