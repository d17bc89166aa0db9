-- `uefi::inner::read_block` meets its contract: the block's place is lba * b. Assumes nothing.
use mathlib.Core.Path.{ap, ◌∙◌}
use Rattle.units.specs.declared.BytePlace.{BytePlace}
use Rattle.uefi.specs.Reading.{header_in}
use Rattle.uefi.proofs.inner.read_block.Goals as goal

pub returns : goal.returns
returns c =
    let a = c.args in
    c.header_in.ensures ∙ ap (λ (p : BytePlace). header_in a.img.now a.b a.lba.0 p.0) c.place-place.ensures
