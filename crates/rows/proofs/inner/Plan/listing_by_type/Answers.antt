-- `rows::inner::Plan::listing_by_type` meets its contract. Assumes nothing.
use Rattle.rows.proofs.Laws.{made-by-type}
use Rattle.rows.proofs.inner.Plan.listing_by_type.Goals as goal

pub returns : goal.returns
returns c = let p = c.requires in made-by-type _ _ _ _ _ p.0 p.1 c.count_used-present.ensures
