-- `card::laying::put_mbr` meets its contract. Assumes nothing.
use Rattle.card.proofs.LayWays.{mbr-stored}
use Rattle.card.proofs.laying.put_mbr.Goals as goal

pub returns : goal.returns
returns c =
    mbr-stored c.args.last.0 c.args.img.now _ c.requires c.record_size.ensures (rw c.with_lb_size-m.ensures at c.overwrite_lba0.ensures)
