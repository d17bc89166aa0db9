-- `units::Lba::place` meets its contract: the code divides where the definition multiplies. Assumes nothing.
use Rattle.std.proofs.Common.{◌*◌, ◌^◌, ◌≤◌, ◌<◌, ap, arith}
use Rattle.std.specs.Prelude.{not}
use borrow.Author.Tests.{le-leb, lt-leb}
use Rattle.units.specs.Places.{place_of}
use Rattle.units.proofs.Laws.{size-yes, product, product-not}
use Rattle.units.proofs.Lba.place.Goals as goal

pub returns-then-not-good_block_size : goal.returns-then-not-good_block_size
unfolding place_of
returns-then-not-good_block_size c = rw (← c.good_block_size.ensures, (ap not c.if-not-good_block_size.true))

pub nonzero_div-b : goal.nonzero_div-b
nonzero_div-b c = let p = size-yes _ c.good_block_size.ensures (ap not c.if-not-good_block_size.false) in omega arith

pub returns-then-b-lba : goal.returns-then-b-lba
unfolding place_of
returns-then-b-lba c =
    let a = c.args in
    let p = size-yes _ c.good_block_size.ensures (ap not c.if-not-good_block_size.false) in
    let s : 2 ^ 64 ≤ a.self.0 * a.b = product-not a.self.0 a.b (omega arith) c.if-b-lba.true in
    rw (← c.good_block_size.ensures, (ap not c.if-not-good_block_size.false), le-leb (2 ^ 64) (a.self.0 * a.b) s)

-- past the second test the product fits
fitting : (c : goal.Else-b-lba) → c.args.self.0 * c.args.b < 2 ^ 64
fitting c =
    let p = size-yes _ c.good_block_size.ensures (ap not c.if-not-good_block_size.false) in
    product _ _ (omega arith) c.if-b-lba.false

pub place-requires : goal.place-requires
place-requires c = fitting c

pub returns : goal.returns
unfolding place_of
returns c =
    let p = size-yes _ c.good_block_size.ensures (ap not c.if-not-good_block_size.false) in
    let a = c.args in
    rw (c.place.ensures, ← c.good_block_size.ensures, (ap not c.if-not-good_block_size.false), lt-leb (2 ^ 64) (a.self.0 * a.b) (product _ _ (omega arith) c.if-b-lba.false))
