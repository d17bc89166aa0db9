-- `windows_staged::inner::next_repair_check` meets its contract: the tests are those of the definition, in its order. Assumes nothing.
use mathlib.Core.Path.{◌∙◌}
use Prim.Native.Nat.{◌*◌, ◌^◌, ◌<◌}
use native.Mathlib.Omega.{arith}
use borrow.Author.Rules.{rules}
use Rattle.units.proofs.Laws.{size-yes, size-past, product, product-not}
use Rattle.staged.proofs.Ways.{next-repair-1}
use Rattle.windows_staged.proofs.Ways.{repair-first, repair-both, repair-over}
use Rattle.std.proofs.Common.{ap}
use Rattle.std.specs.Prelude.{not}
use Rattle.windows_staged.proofs.inner.next_repair_check.Goals as goal

pub returns-then-not-good_block_size : goal.returns-then-not-good_block_size
returns-then-not-good_block_size c = let a = c.args in repair-first _ _ _ _ _ a.r (next-repair-1 _ _ _ _ c.good_block_size.ensures (ap not c.if-not-good_block_size.true)) (λ z. omega arith)

pub nonzero_div-b : goal.nonzero_div-b
nonzero_div-b c = let p = size-yes _ c.good_block_size.ensures (ap not c.if-not-good_block_size.false) in omega arith

pub returns-then-b-blocks : goal.returns-then-b-blocks
returns-then-b-blocks c =
    let a = c.args in
    let h : a.r.len < 2 ^ 64 = search rules in
    repair-over _ _ _ _ _ a.r c.good_block_size.ensures (ap not c.if-not-good_block_size.false) h (product-not a.blocks a.b (size-yes _ c.good_block_size.ensures (ap not c.if-not-good_block_size.false)) c.if-b-blocks.true)

pub overflow_mul-blocks : goal.overflow_mul-blocks
overflow_mul-blocks c =
    let width : let a = c.args in a.blocks * a.b < 2 ^ 64 = product _ _ (size-yes _ c.good_block_size.ensures (ap not c.if-not-good_block_size.false)) c.if-b-blocks.false in
    omega (arith, width)

pub length_check-length-requires : goal.length_check-length-requires
length_check-length-requires c = (size-past _ c.good_block_size.ensures (ap not c.if-not-good_block_size.false)).1

pub returns : goal.returns
returns c =
    let a = c.args in
    c.first_of.ensures ∙ repair-both _ _ _ _ _ a.r c.next_repair_check-wrong.ensures c.length_check-length.ensures
