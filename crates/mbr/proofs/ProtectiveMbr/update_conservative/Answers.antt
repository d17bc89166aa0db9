-- `mbr::ProtectiveMbr::update_conservative` meets its contract. Assumes nothing.
use mathlib.Core.Path.{◌∙◌}
use Rattle.units.specs.Answer.{ends}
use Rattle.mbr.specs.Format.{tail_bytes}
use Rattle.mbr.proofs.Laws.{fit-mbr-of, length-tail, store-short, store-all}
use Rattle.mbr.proofs.ProtectiveMbr.update_conservative.Goals as goal

pub returns-then-img-lt512 : goal.returns-then-img-lt512
returns-then-img-lt512 c =
    let a = c.args in
    let ps = a.self.partitions in
    let f = fit-mbr-of a.self _ c.well_formed.0 in
    ends (store-short a.img.now 446 (tail_bytes ps) 66 (length-tail ps f.count) c.if-img-lt512.true)

pub returns : goal.returns
returns c =
    let a = c.args in
    let ps = a.self.partitions in
    let f = fit-mbr-of a.self _ c.well_formed.0 in
    ends
    (store-all a.img.now 446 (tail_bytes ps) 66 (length-tail ps f.count) c.if-img-lt512.false ∙ rw c.put_tail.ensures)
