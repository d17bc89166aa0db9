-- `mbr::inner::record_at` meets its contract. Assumes nothing.
use Rattle.mbr.proofs.inner.record_at.Goals as goal

pub returns : goal.returns
returns c = cc
