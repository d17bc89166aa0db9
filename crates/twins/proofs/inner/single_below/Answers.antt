-- `twins::inner::single_below` meets its contract: an unused entry has no twin, and of a used one its GUID is looked for. Assumes nothing.
use mathlib.Core.Path.{◌≡◌, sym, ap, ◌∙◌}
use mathlib.Core.Bool.{Bool, not}
use mathlib.Core.List.{List}
use Prim.Native.Nat.{ℕ}
use native.Mathlib.Omega.{arith}
use Rattle.units.specs.Bytes.{part, all_zero}
use Rattle.units.proofs.Lists.{lent-part, length-lent}
use Rattle.tables.specs.Entries.{part_guid_of}
use Rattle.tables.proofs.Orders.{all_of}
use Rattle.tables.proofs.EntryLaws.{entry_at, own-used, twins-unused}
use Rattle.twins.proofs.Laws.{guid-at, own-twins}
use Rattle.twins.proofs.inner.single_below.Goals as goal

-- whether entry k has the nil type, as the code finds it
nil : {r : Bool} (xs : List ℕ) {o p : ℕ} → p ≡ o → r ≡ all_zero (part xs p 16) → r ≡ all_zero (part xs o 16)
nil xs q e = e ∙ ap (λ (o : ℕ). all_zero (part xs o 16)) q

pub returns-then-nil_type_at : goal.returns-then-nil_type_at
returns-then-nil_type_at c =
    let a = c.args in
    sym (all_of a.k _ (λ j h. ap not (twins-unused _ _ (own-used a.copy.now a.at.0 a.k (omega arith) (nil a.copy.now c.entry_place-own.ensures c.nil_type_at.ensures) ∙ ap not c.if-nil_type_at.true))))

pub none_below-requires : goal.none_below-requires
none_below-requires c =
    let s = c in
    let g = c.guid_place-guid in
    (s.requires.0, s.requires.1, length-lent s.args.copy.now g.result.0 16 (omega (arith, g.ensures, c.entry_place-own.ensures)))

pub returns : goal.returns
returns c =
    let i = c in
    let p = i.entry_place-own in
    let a = i.args in
    let g = c.guid_place-guid in
    c.none_below.ensures
    ∙ own-twins (part a.copy.now a.at.0 16384) a.k _ (own-used a.copy.now a.at.0 a.k (omega arith) (nil a.copy.now c.entry_place-own.ensures c.nil_type_at.ensures) ∙ ap not i.if-nil_type_at.false)
    (lent-part a.copy.now g.result.0 16 ∙ guid-at a.copy.now p.result.0 g.ensures ∙ ap part_guid_of (sym (entry_at a.copy.now a.at.0 a.k (omega arith) p.ensures)))
