-- `rows::inner::Plan::listing` meets its contract. Assumes nothing.
use Rattle.rows.proofs.Laws.{made-listing}
use Rattle.rows.proofs.inner.Plan.listing.Goals as goal

pub returns : goal.returns
returns c = made-listing _ _ _ _ c.requires c.count_present-present.ensures
