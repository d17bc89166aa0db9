-- `mbr::ProtectiveMbr::overwrite_lba0` meets its contract. Assumes nothing.
use mathlib.Core.Path.{◌∙◌}
use Rattle.units.specs.Answer.{ends}
use Rattle.mbr.specs.Format.{mbr_bytes}
use Rattle.mbr.proofs.Laws.{fit-mbr-of, length-mbr, store-short, store-all}
use Rattle.mbr.proofs.ProtectiveMbr.overwrite_lba0.Goals as goal

pub returns-then-img-lt512 : goal.returns-then-img-lt512
returns-then-img-lt512 c =
    let a = c.args in
    let f = fit-mbr-of a.self _ c.well_formed.0 in
    ends (store-short a.img.now 0 (mbr_bytes a.self) 512 (length-mbr a.self f) c.if-img-lt512.true)

pub returns : goal.returns
returns c =
    let a = c.args in
    let f = fit-mbr-of a.self _ c.well_formed.0 in
    ends
    (store-all a.img.now 0 (mbr_bytes a.self) 512 (length-mbr a.self f) c.if-img-lt512.false
    ∙ rw (c.put_bytes.ensures, c.to_bytes-bytes.ensures))
