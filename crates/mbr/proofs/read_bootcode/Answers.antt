-- `mbr::read_bootcode` meets its contract. Assumes nothing.
use Rattle.mbr.proofs.Laws.{read_short, read_all}
use Rattle.mbr.proofs.read_bootcode.Goals as goal

pub returns-then-img-lt440 : goal.returns-then-img-lt440
returns-then-img-lt440 c = rw (read_short c.args.img.now 0 440 c.if-img-lt440.true)

pub returns : goal.returns
returns c = rw (read_all c.args.img.now 0 440 c.if-img-lt440.false, c.copy_out.ensures)
