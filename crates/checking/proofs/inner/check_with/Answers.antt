-- `checking::inner::check_with` meets its contract: the room first, and then the image's two copies. Assumes nothing.
use mathlib.Core.Path.{◌≡◌, sym, ap, ◌∙◌}
use Prim.Native.Nat.{ℕ, ◌+◌}
use native.Mathlib.Omega.{arith}
use lib.ListN.{length}
use Rattle.units.proofs.Lists.{length-lent}
use Rattle.tables.specs.Lens.{Tables}
use Rattle.tables.specs.Check.{room_check, check}
use Rattle.tables.proofs.Good.{room-ok}
use Rattle.tables.proofs.Copies.{lent-tables}
use Rattle.checking.proofs.CheckWays.{check-room}
use Rattle.checking.proofs.inner.check_with.Goals as goal

pub returns-then-room-ne0 : goal.returns-then-room-ne0
returns-then-room-ne0 c = check-room _ _ _ c.room_check-room.ensures c.if-room-ne0.true

-- there is room where the check goes on
room : {r : ℕ} (b n : ℕ) → r ≡ (room_check b n).number → r ≡ 0 → (room_check b n).number ≡ 0
room b n e z = sym e ∙ z

pub back_place-at-requires : goal.back_place-at-requires
back_place-at-requires c = (room c.args.b (length c.args.img.now) c.room_check-room.ensures c.if-room-ne0.false)

pub slice_bounds-copies_check-end : goal.slice_bounds-copies_check-end
slice_bounds-copies_check-end c = let r = room-ok _ _ (room c.args.b (length c.args.img.now) c.room_check-room.ensures c.if-room-ne0.false) in omega (arith, r.low, r.seam, r.top)

pub copies_check-requires : goal.copies_check-requires
copies_check-requires c =
    let p = c in
    let s = p in
    let a = s.args in
    let r = room-ok _ _ (room c.args.b (length c.args.img.now) c.room_check-room.ensures c.if-room-ne0.false) in
    let back = p.back_place-at.ensures.1 in
    ((room c.args.b (length c.args.img.now) c.room_check-room.ensures c.if-room-ne0.false), length-lent a.img.now a.b (a.b + 16384) (omega (arith, r.low, r.seam, r.top)), length-lent a.img.now p.back_place-at.result.0 (a.b + 16384) back)

pub returns : goal.returns
returns c =
    let p = c in
    let a = p.args in
    c.copies_check.ensures ∙ ap (λ (t : Tables). check a.b (length a.img.now) t) (lent-tables a.b (length a.img.now) a.img.now (room-ok _ _ (room c.args.b (length c.args.img.now) c.room_check-room.ensures c.if-room-ne0.false)) p.back_place-at.ensures.0)
