-- `header::read_backup_header` meets its contract: a block is found, and then it has a place. Assumes nothing.
use mathlib.Core.Path.{sym, ap, ◌∙◌}
use native.Mathlib.Omega.{arith}
use Rattle.units.proofs.Results.{handed}
use Rattle.units.specs.Meanings.{means}
use Rattle.header.proofs.Ways.{backup-by-place}
use Rattle.header.proofs.read_backup_header.Goals as goal

pub returns-in_err-find_backup_lba : goal.returns-in_err-find_backup_lba
returns-in_err-find_backup_lba c =
    let found = c in
    let a = found.args in
    let f = sym found.in_err-find_backup_lba.ensures in
    handed _ _ c.from_residual.ensures.1 ∙ sym (backup-by-place a.img.now a.b (omega arith) ∙ rw f)

pub returns-in_err-at : goal.returns-in_err-at
returns-in_err-at c =
    let placed = c in
    let found = placed in
    let a = found.args in
    let f = sym found.in_ok-find_backup_lba.ensures in
    let p = sym placed.in_err-at.ensures in
    handed _ _ c.from_residual-in_err-at.ensures.1 ∙ sym (backup-by-place a.img.now a.b (omega arith) ∙ rw (f, p))

pub returns : goal.returns
returns c =
    let placed = c in
    let found = placed in
    let a = found.args in
    let f = sym found.in_ok-find_backup_lba.ensures in
    let p = sym placed.in_ok-at.ensures in
    c.read_header.ensures ∙ sym (backup-by-place a.img.now a.b (omega arith) ∙ rw (f, p))
