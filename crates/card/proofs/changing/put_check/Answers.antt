-- `card::changing::put_check` meets its contract: one law for each way out. Assumes nothing.
use mathlib.Core.Path.{◌≡◌, sym, ap, ◌∙◌}
use Prim.Native.Nat.{◌+◌}
use native.Mathlib.Omega.{arith}
use lib.ListN.{length}
use Rattle.units.proofs.Lists.{length-lent}
use Rattle.units.proofs.Chains.{number-of}
use Rattle.tables.specs.Lens.{Copy, tables}
use Rattle.tables.specs.Check.{room_check}
use Rattle.tables.proofs.Good.{room-ok, check-good}
use Rattle.card.specs.Calls.{entry_check}
use Rattle.card.proofs.CopyLaws.{lent-front, lent_fits}
use Rattle.card.proofs.ChangeWays.{put-checked, put-entry}
use Rattle.card.proofs.changing.put_check.Goals as goal

pub returns-then-found-ne0 : goal.returns-then-found-ne0
returns-then-found-ne0 c = put-checked _ _ _ _ _ _ c.check_with-found.ensures c.if-found-ne0.true

pub overflow_add-size : goal.overflow_add-size
overflow_add-size c =
    let room : let a = c.args in (room_check a.b (length a.img.now)).number ≡ 0 = let a = c.args in (check-good a.b (length a.img.now) (tables a.b a.img.now) (sym (number-of c.check_with-found.ensures) ∙ c.if-found-ne0.false)).room in
    omega (arith, (room-ok _ _ room).most)

pub overflow_add-size-2 : goal.overflow_add-size-2
overflow_add-size-2 c =
    let room : let a = c.args in (room_check a.b (length a.img.now)).number ≡ 0 = let a = c.args in (check-good a.b (length a.img.now) (tables a.b a.img.now) (sym (number-of c.check_with-found.ensures) ∙ c.if-found-ne0.false)).room in
    omega (arith, (room-ok _ _ room).most)

pub slice_bounds-entry_check-end : goal.slice_bounds-entry_check-end
slice_bounds-entry_check-end c =
    let room : let a = c.args in (room_check a.b (length a.img.now)).number ≡ 0 = let a = c.args in (check-good a.b (length a.img.now) (tables a.b a.img.now) (sym (number-of c.check_with-found.ensures) ∙ c.if-found-ne0.false)).room in
    lent_fits _ _ (room-ok _ _ room)

pub entry_check-requires : goal.entry_check-requires
entry_check-requires c =
    let room : let a = c.args in (room_check a.b (length a.img.now)).number ≡ 0 = let a = c.args in (check-good a.b (length a.img.now) (tables a.b a.img.now) (sym (number-of c.check_with-found.ensures) ∙ c.if-found-ne0.false)).room in
    let r = room in
    (r, length-lent c.args.img.now c.args.b (c.args.b + 16384) (lent_fits _ _ (room-ok _ _ r)), c.requires)

pub returns : goal.returns
returns c =
    let room : let a = c.args in (room_check a.b (length a.img.now)).number ≡ 0 = let a = c.args in (check-good a.b (length a.img.now) (tables a.b a.img.now) (sym (number-of c.check_with-found.ensures) ∙ c.if-found-ne0.false)).room in
    let a = c.args in
    put-entry a.b (length a.img.now) (tables a.b a.img.now) a.slot.0 a.e.now a.reserved c.check_with-found.ensures c.if-found-ne0.false
    (c.entry_check.ensures ∙ ap (λ (x : Copy). entry_check a.b (length a.img.now) x.array a.slot.0 a.e.now a.reserved) (lent-front a.b a.img.now (room-ok _ _ room)))
