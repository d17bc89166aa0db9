-- `mbr::read_disk_signature` meets its contract. Assumes nothing.
use Rattle.mbr.proofs.Laws.{read_short, read_all}
use Rattle.mbr.proofs.read_disk_signature.Goals as goal

pub returns-then-img-lt444 : goal.returns-then-img-lt444
returns-then-img-lt444 c = rw (read_short c.args.img.now 440 4 c.if-img-lt444.true)

pub returns : goal.returns
returns c = rw (read_all c.args.img.now 440 4 c.if-img-lt444.false, c.copy_out.ensures)
