-- `windows::inner::window_check` meets its contract: the tests are those of the definition, in its order. Assumes nothing.
use mathlib.Core.Path.{◌≡◌, ◌∙◌}
use mathlib.Core.Bool.{Bool, false}
use Rattle.units.specs.Places.{good_size}
use Prim.Native.Nat.{ℕ, ◌<◌}
use native.Mathlib.Omega.{arith}
use Rattle.units.proofs.Laws.{size-yes, size-past, product, product-not}
use Rattle.windows.proofs.Ways.{window-size, window-over, window-last}
use Rattle.std.proofs.Common.{ap}
use Rattle.std.specs.Prelude.{not}
use Rattle.windows.proofs.inner.window_check.Goals as goal

positive : {r : Bool} (b : ℕ) → r ≡ good_size b → not r ≡ false → 0 < b
positive b e t = let p = size-yes b e t in omega arith

pub returns-then-not-good_block_size : goal.returns-then-not-good_block_size
returns-then-not-good_block_size c = window-size _ _ _ _ c.good_block_size.ensures (ap not c.if-not-good_block_size.true)

pub nonzero_div-b : goal.nonzero_div-b
nonzero_div-b c = let p = size-yes _ c.good_block_size.ensures (ap not c.if-not-good_block_size.false) in omega arith

pub returns-then-b-blocks : goal.returns-then-b-blocks
returns-then-b-blocks c =
    let a = c.args in
    window-over _ _ _ _ c.good_block_size.ensures (ap not c.if-not-good_block_size.false) (product-not a.blocks a.b (positive c.args.b c.good_block_size.ensures (ap not c.if-not-good_block_size.false)) c.if-b-blocks.true)

pub overflow_mul-blocks : goal.overflow_mul-blocks
overflow_mul-blocks c = omega (arith, (product _ _ (positive c.args.b c.good_block_size.ensures (ap not c.if-not-good_block_size.false)) c.if-b-blocks.false))

pub length_check-length-requires : goal.length_check-length-requires
length_check-length-requires c = (size-past _ c.good_block_size.ensures (ap not c.if-not-good_block_size.false)).1

pub returns : goal.returns
returns c =
    c.first_of.ensures ∙ window-last _ _ _ _ c.good_block_size.ensures (ap not c.if-not-good_block_size.false) (product _ _ (positive c.args.b c.good_block_size.ensures (ap not c.if-not-good_block_size.false)) c.if-b-blocks.false) c.room_check-room.ensures c.length_check-length.ensures
