-- `windows::inner::lay_in` meets its contract. Assumes nothing.
use mathlib.Core.Path.{◌≡◌, ap, ◌∙◌}
use mathlib.Core.List.{List}
use Prim.Native.Nat.{ℕ}
use native.Mathlib.Omega.{arith}
use lib.ListN.{length}
use lib.Seq.{sets, length-sets}
use Rattle.units.specs.declared.Lba.{Lba}
use Rattle.units.specs.Guids.{guid_bytes}
use Rattle.tables.specs.Lens.{Front, copy_bytes}
use Rattle.tables.specs.Entries.{zeros}
use Rattle.tables.specs.Headers.{card_of}
use Rattle.tables.proofs.EntryLaws.{length-zeros}
use Rattle.tables.proofs.Good.{room-ok, card-whole}
use Rattle.card.specs.Calls.{mbr}
use Rattle.windows.proofs.Whole.{both_long}
use Rattle.windows.proofs.inner.lay_in.Goals as goal

pub own_block-requires : goal.own_block-requires
own_block-requires c = c.requires.0

pub put_mbr-requires : goal.put_mbr-requires
put_mbr-requires c = omega (arith, c.requires.1, (room-ok _ _ c.requires.0).least)

pub lay_copy-requires : goal.lay_copy-requires
lay_copy-requires c = (c.requires.0, c.requires.2)

pub lay_at-requires : goal.lay_at-requires
lay_at-requires c =
    let p : length c.put_mbr.new.img ≡ length c.args.head.now = ap length (c.put_mbr.ensures ∙ ap (λ (l : Lba). sets c.args.head.now 0 (mbr l.0)) c.own_block.ensures) ∙ simp length-sets in
    (c.requires.0, omega (arith, p, c.requires.1))

pub shape_of-head : goal.shape_of-head
shape_of-head c =
    let p : length c.put_mbr.new.img ≡ length c.args.head.now = ap length (c.put_mbr.ensures ∙ ap (λ (l : Lba). sets c.args.head.now 0 (mbr l.0)) c.own_block.ensures) ∙ simp length-sets in
    ap length c.lay_at.ensures ∙ (simp length-sets) ∙ p

pub shape_of-tail : goal.shape_of-tail
shape_of-tail c =
    let a = c.args in
    let g : List ℕ = guid_bytes a.guid in
    ap length c.lay_copy.ensures
    ∙ (both_long a.b (card_of a.b a.len g (zeros 16384)) (card-whole a.b a.len g (zeros 16384) (omega (arith, (room-ok _ _ c.requires.0).least)) (length-zeros 16384))).1
    ∙ omega (arith, c.requires.2)

pub returns : goal.returns
returns c =
    let a = c.args in
    let f : List ℕ = copy_bytes Front (card_of a.b a.len (guid_bytes a.guid) (zeros 16384)).front in
    record { head_after = c.lay_at.ensures ∙ ap (λ (l : List ℕ). sets l a.b f) (let a = c.args in c.put_mbr.ensures ∙ ap (λ (l : Lba). sets a.head.now 0 (mbr l.0)) c.own_block.ensures); tail_after = c.lay_copy.ensures }
