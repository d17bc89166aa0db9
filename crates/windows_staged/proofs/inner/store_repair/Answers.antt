-- `windows_staged::inner::store_repair` meets its contract. Assumes nothing.
use mathlib.Core.Path.{sym, ◌∙◌, subst}
use Prim.Native.Nat.{◌-◌}
use native.Mathlib.Omega.{arith}
use borrow.Author.Tests.{lt-ltb, le-ltb}
use Rattle.tables.specs.Places.{array_blocks}
use Rattle.tables.specs.Lens.{Side}
use Rattle.tables.proofs.Room.{Room}
use Rattle.tables.proofs.Good.{room-ok}
use Rattle.staged.proofs.Places.{block_inside, other-side}
use Rattle.windows_staged.specs.Stages.{BlockStored, HeaderStored}
use Rattle.windows_staged.proofs.Ways.{stored_same}
use Rattle.windows_staged.proofs.inner.store_repair.Goals as goal

pub overflow_sub-j : goal.overflow_sub-j
overflow_sub-j c = c.requires.3

pub nonzero_div-r : goal.nonzero_div-r
nonzero_div-r c =
    let room : Room c.args.r.b c.args.r.len = room-ok _ _ c.requires.0 in
    omega (arith, room.least)

pub store_block-requires : goal.store_block-requires
store_block-requires c =
    let room : Room c.args.r.b c.args.r.len = room-ok _ _ c.requires.0 in
    let a = c.args in
    (room.most, c.requires.1, c.requires.2, block_inside a.r.b a.r.len (a.k - 2) room c.if-j-r.true)

pub returns-then-j-r : goal.returns-then-j-r
returns-then-j-r c =
    let a = c.args in
    let y = lt-ltb (a.k - 2) (array_blocks a.r.b) c.if-j-r.true in
    (λ _. subst (λ (d : Side). BlockStored a.r.b d (a.k - 2) a.head.now a.tail.now c.store_block.new.head c.store_block.new.tail) (other-side a.r.back) c.store_block.ensures, λ q. absurd (stored_same (sym y ∙ q)))

pub store_header-requires : goal.store_header-requires
store_header-requires c = (c.requires.0, c.requires.1, c.requires.2)

pub returns : goal.returns
returns c =
    let a = c.args in
    let y = le-ltb (a.k - 2) (array_blocks a.r.b) c.if-j-r.false in
    (λ q. absurd (stored_same (sym q ∙ y)), λ _. subst (λ (d : Side). HeaderStored a.r d a.head.now a.tail.now c.store_header.new.head c.store_header.new.tail) (other-side a.r.back) c.store_header.ensures)
