-- `checking::inner::pair_check` meets its contract: one law for each way out. Assumes nothing.
use mathlib.Core.Path.{◌≡◌, ◌∙◌}
use native.Mathlib.Omega.{arith}
use Rattle.units.specs.Bytes.{part, same}
use Rattle.tables.specs.Lens.{Front, Back, copy_in}
use Rattle.tables.specs.Check.{room_check, guid_of}
use Rattle.tables.proofs.Good.{room-ok}
use Rattle.tables.proofs.Copies.{guid-of}
use Rattle.checking.proofs.CheckWays.{pair-guids, pair-slot, pair-entries, pair-fine}
use Rattle.std.proofs.Common.{ap}
use Rattle.std.specs.Prelude.{Bool, not, List, ℕ}
use Rattle.checking.proofs.inner.pair_check.Goals as goal

pub same_in-requires : goal.same_in-requires
same_in-requires c = let r = room-ok _ _ c.requires.len_value.0 in let p = c.requires.len_value in (omega (arith, r.least, p.1), omega (arith, r.least, p.2))

-- whether the GUIDs are the same, as the code finds it
guids : {q : Bool} (b n : ℕ) (x y : List ℕ) → (room_check b n).number ≡ 0 → q ≡ same (part x 56 16) (part y 16440 16)
    → q ≡ same (guid_of (copy_in b Front x)) (guid_of (copy_in b Back y))
guids b n x y h e =
    let r = room-ok b n h in
    e ∙ rw (guid-of b Front x (omega (arith, r.least)), guid-of b Back y (omega (arith, r.least)))

pub returns-then-not-same_in : goal.returns-then-not-same_in
returns-then-not-same_in c = pair-guids _ _ _ _ _ _ (guids c.args.b c.args.len c.args.front.now c.args.back.now c.requires.len_value.0 c.same_in.ensures) (ap not c.if-not-same_in.true)

pub first_differing-slot-requires : goal.first_differing-slot-requires
first_differing-slot-requires c = let p = c.requires.len_value in let r = room-ok _ _ p.0 in (omega (arith, r.most), p.1, p.2)

pub returns-then-not-agree : goal.returns-then-not-agree
returns-then-not-agree c =
    let d = c in
    pair-slot _ _ _ _ _ _ (guids c.args.b c.args.len c.args.front.now c.args.back.now c.requires.len_value.0 c.same_in.ensures) (ap not d.if-not-same_in.false) d.requires.agree_value (ap not d.if-not-agree.true) c.first_differing-slot.ensures

pub returns-then-not-entries_ok : goal.returns-then-not-entries_ok
returns-then-not-entries_ok c =
    let d = c in
    pair-entries _ _ _ _ _ _ (guids c.args.b c.args.len c.args.front.now c.args.back.now c.requires.len_value.0 c.same_in.ensures) (ap not d.if-not-same_in.false) d.requires.agree_value (ap not d.if-not-agree.false) c.entries_ok.ensures (ap not c.if-not-entries_ok.true)

pub returns : goal.returns
returns c =
    let d = c in
    pair-fine _ _ _ _ _ _ (guids c.args.b c.args.len c.args.front.now c.args.back.now c.requires.len_value.0 c.same_in.ensures) (ap not d.if-not-same_in.false) d.requires.agree_value (ap not d.if-not-agree.false) c.entries_ok.ensures (ap not c.if-not-entries_ok.false)
