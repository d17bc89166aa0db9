-- `staged::inner::begin` meets its contract: what stage one fixes, and its store. Assumes nothing.
use mathlib.Core.Path.{◌∙◌}
use native.Mathlib.Omega.{arith}
use lib.ListN.{length}
use Rattle.tables.specs.Lens.{Front, tables}
use Rattle.tables.proofs.Good.{room-ok, check-good}
use Rattle.card.proofs.CopyLaws.{image-front, lent_fits}
use Rattle.staged.proofs.Places.{side-copy}
use Rattle.staged.proofs.Ways.{fixed-leads, fixed-store}
use Rattle.staged.proofs.inner.begin.Goals as goal

pub fix-u-requires : goal.fix-u-requires
fix-u-requires c =
    let a = c.args in
    record { len_value = ((check-good a.b (length a.img.now) (tables a.b a.img.now) c.requires.0).room, lent_fits _ _ (room-ok _ _ (check-good a.b (length a.img.now) (tables a.b a.img.now) c.requires.0).room)); b_value = image-front a.b a.img.now c.requires.0; slot_value = c.requires.1 }

pub store_stage-requires : goal.store_stage-requires
store_stage-requires c =
    let a = c.args in
    record { len_value = fixed-leads a.b (length a.img.now) (tables a.b a.img.now) a.slot.0 a.e (c.fix-u.ensures (tables a.b a.img.now) (side-copy a.b a.img.now Front (room-ok _ _ (check-good a.b (length a.img.now) (tables a.b a.img.now) c.requires.0).room))) (check-good a.b (length a.img.now) (tables a.b a.img.now) c.requires.0).room c.requires.1; le_k = (omega arith, omega arith) }

pub returns : goal.returns
returns c =
    let a = c.args in
    record { value = (c.fix-u.ensures (tables a.b a.img.now) (side-copy a.b a.img.now Front (room-ok _ _ (check-good a.b (length a.img.now) (tables a.b a.img.now) c.requires.0).room))); img_after = c.store_stage.ensures ∙ fixed-store a.b (length a.img.now) (tables a.b a.img.now) a.slot.0 a.e a.img.now (c.fix-u.ensures (tables a.b a.img.now) (side-copy a.b a.img.now Front (room-ok _ _ (check-good a.b (length a.img.now) (tables a.b a.img.now) c.requires.0).room))) }
