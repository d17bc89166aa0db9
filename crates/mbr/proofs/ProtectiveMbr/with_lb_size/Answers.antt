-- `mbr::ProtectiveMbr::with_lb_size` meets its contract. Assumes nothing.
use Rattle.mbr.proofs.ProtectiveMbr.with_lb_size.Goals as goal

pub returns : goal.returns
returns c = cc
