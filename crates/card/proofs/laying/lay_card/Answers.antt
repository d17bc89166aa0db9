-- `card::laying::lay_card` meets its contract. Assumes nothing.
use mathlib.Core.Path.{◌≡◌, ap, ◌∙◌}
use Prim.Native.Nat.{◌-◌}
use native.Mathlib.Omega.{arith}
use lib.ListN.{length}
use lib.Seq.{sets, length-sets}
use Rattle.units.specs.declared.Lba.{Lba}
use Rattle.tables.specs.Places.{blocks}
use Rattle.tables.proofs.Room.{Room}
use Rattle.tables.proofs.Good.{room-ok}
use Rattle.card.specs.Calls.{mbr}
use Rattle.card.proofs.LayWays.{lay-laid}
use Rattle.card.proofs.laying.lay_card.Goals as goal

pub put_mbr-requires : goal.put_mbr-requires
put_mbr-requires c =
    let room : Room c.args.b (length c.args.img.now) = room-ok _ _ c.requires in
    let r = room in omega (arith, r.least, r.enough)

pub lay_at-requires : goal.lay_at-requires
lay_at-requires c =
    let mbr-put : let a = c.args in c.put_mbr.new.img ≡ sets a.img.now 0 (mbr (blocks a.b (length a.img.now) - 1)) = let a = c.args in c.put_mbr.ensures ∙ ap (λ (l : Lba). sets a.img.now 0 (mbr l.0)) c.own_block.ensures in
    let one : length c.put_mbr.new.img ≡ length c.args.img.now = ap length (mbr-put) ∙ (simp length-sets) in
    (c.requires, omega (arith, one, c.back_place-back.ensures.1))

pub lay_at-requires-2 : goal.lay_at-requires-2
lay_at-requires-2 c =
    let mbr-put : let a = c.args in c.put_mbr.new.img ≡ sets a.img.now 0 (mbr (blocks a.b (length a.img.now) - 1)) = let a = c.args in c.put_mbr.ensures ∙ ap (λ (l : Lba). sets a.img.now 0 (mbr l.0)) c.own_block.ensures in
    let one : length c.put_mbr.new.img ≡ length c.args.img.now = ap length (mbr-put) ∙ (simp length-sets) in
    let two : length c.lay_at.new.s ≡ length c.args.img.now = ap length c.lay_at.ensures ∙ (simp length-sets) ∙ one in
    let room : Room c.args.b (length c.args.img.now) = room-ok _ _ c.requires in
    let r = room in (c.requires, omega (arith, two, r.low, r.seam, r.top))

pub shape_of-img : goal.shape_of-img
shape_of-img c =
    let mbr-put : let a = c.args in c.put_mbr.new.img ≡ sets a.img.now 0 (mbr (blocks a.b (length a.img.now) - 1)) = let a = c.args in c.put_mbr.ensures ∙ ap (λ (l : Lba). sets a.img.now 0 (mbr l.0)) c.own_block.ensures in
    let one : length c.put_mbr.new.img ≡ length c.args.img.now = ap length (mbr-put) ∙ (simp length-sets) in
    let two : length c.lay_at.new.s ≡ length c.args.img.now = ap length c.lay_at.ensures ∙ (simp length-sets) ∙ one in
    ap length c.lay_at-2.ensures ∙ (simp length-sets) ∙ two

pub returns : goal.returns
returns c =
    let mbr-put : let a = c.args in c.put_mbr.new.img ≡ sets a.img.now 0 (mbr (blocks a.b (length a.img.now) - 1)) = let a = c.args in c.put_mbr.ensures ∙ ap (λ (l : Lba). sets a.img.now 0 (mbr l.0)) c.own_block.ensures in
    let a = c.args in
    lay-laid a.b (length a.img.now) a.img.now c.put_mbr.new.img c.lay_at.new.s _ a.guid c.requires mbr-put c.back_place-back.ensures.0 c.lay_at.ensures c.lay_at-2.ensures
