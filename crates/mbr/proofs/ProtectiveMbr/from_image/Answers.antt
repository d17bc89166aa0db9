-- `mbr::ProtectiveMbr::from_image` meets its contract. Assumes nothing.
use mathlib.Core.Path.{◌≡◌, sym, ◌∙◌}
use mathlib.Core.Bool.{true}
use Prim.Native.Nat.{◌≤◌}
use native.Mathlib.Omega.{arith}
use lib.ListN.{length}
use lib.Seq.{length-take-le}
use borrow.Author.Tests.{not-false}
use Rattle.units.specs.Places.{good_size}
use Rattle.mbr.specs.Parsing.{image_parsed}
use Rattle.mbr.proofs.Laws.{image-short, image-parsed}
use Rattle.std.proofs.Common.{ap}
use Rattle.std.specs.Prelude.{not}
use Rattle.mbr.proofs.ProtectiveMbr.from_image.Goals as goal

pub returns-then-not-good_block_size : goal.returns-then-not-good_block_size
unfolding image_parsed
returns-then-not-good_block_size c = rw (← c.good_block_size.ensures, (ap not c.if-not-good_block_size.true))

pub returns-then-img-size : goal.returns-then-img-size
returns-then-img-size c =
    let a = c.args in
    let g : good_size a.b ≡ true = sym c.good_block_size.ensures ∙ not-false _ (ap not c.if-not-good_block_size.false) in
    rw (image-short a.img.now a.b g c.if-img-size.true)

pub slice_bounds-from_bytes-end : goal.slice_bounds-from_bytes-end
slice_bounds-from_bytes-end c =
    let a = c.args in
    let h : a.b ≤ length a.img.now = omega arith in
    sym (length-take-le a.b a.img.now h)

pub returns : goal.returns
returns c =
    let a = c.args in
    let g : good_size a.b ≡ true = sym c.good_block_size.ensures ∙ not-false _ (ap not c.if-not-good_block_size.false) in
    c.from_bytes.ensures ∙ rw (image-parsed a.img.now a.b g c.if-img-size.false)
