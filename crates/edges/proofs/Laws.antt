-- What the test of the table says: two answers that compare as the same are the same, so each case of a table that passes gives what the document says.
-- Assumes nothing.
use mathlib.Core.Path.{◌≡◌, refl, ap}
use mathlib.Core.Bool.{true, ◌&&◌}
use mathlib.Core.List.{List, ◌∷◌}
use Prim.Native.Nat.{ℕ}
use native.Mathlib.Omega.{arith}
use borrow.Author.Tests.{eqb-true}
use lib.Dec.{eqb}
use Rattle.units.specs.declared.Place.{Place}
use Rattle.units.specs.declared.Place.TheVariants as place
use Rattle.units.specs.declared.why.Why.{Why}
use Rattle.units.specs.Answer.{Answer, accepted, refused}
use Rattle.units.proofs.Laws.{same_true, and_both}
use Rattle.edges.specs.Table.{Case, same_place, same_answer, all_pass}

same-place : (p q : Place) → same_place p q ≡ true → p ≡ q
unfolding same_place
same-place place.Nowhere place.Nowhere e = refl
same-place place.Nowhere place.Front e = absurd (let z : ◌≡◌ {A = ℕ} 0 1 = cc in omega arith)
same-place place.Nowhere place.Back e = absurd (let z : ◌≡◌ {A = ℕ} 0 1 = cc in omega arith)
same-place place.Nowhere place.DiskGuid e = absurd (let z : ◌≡◌ {A = ℕ} 0 1 = cc in omega arith)
same-place place.Nowhere (place.InSlot s) e = absurd (let z : ◌≡◌ {A = ℕ} 0 1 = cc in omega arith)
same-place place.Front q e = absurd (let z : ◌≡◌ {A = ℕ} 0 1 = cc in omega arith)
same-place place.Back q e = absurd (let z : ◌≡◌ {A = ℕ} 0 1 = cc in omega arith)
same-place place.DiskGuid q e = absurd (let z : ◌≡◌ {A = ℕ} 0 1 = cc in omega arith)
same-place (place.InSlot s) q e = absurd (let z : ◌≡◌ {A = ℕ} 0 1 = cc in omega arith)

same-answer : (x y : Answer (List ℕ)) → same_answer x y ≡ true → x ≡ y
unfolding same_answer
same-answer (accepted xs) (accepted ys) e = ap accepted (same_true xs ys e)
same-answer (accepted xs) (refused w) e = absurd (let z : ◌≡◌ {A = ℕ} 0 1 = cc in omega arith)
same-answer (refused v) (accepted ys) e = absurd (let z : ◌≡◌ {A = ℕ} 0 1 = cc in omega arith)
same-answer (refused v) (refused w) e =
    let b = and_both (eqb v.number w.number) (eqb v.slot.0 w.slot.0 && same_place v.place w.place) e in
    let d = and_both (eqb v.slot.0 w.slot.0) (same_place v.place w.place) b.1 in
    let m : ◌≡◌ {A = Why} (record { number = v.number; slot = record { 0 = v.slot.0 }; place = v.place }) (record { number = w.number; slot = record { 0 = w.slot.0 }; place = w.place }) =
    cc (eqb-true v.number w.number b.0, eqb-true v.slot.0 w.slot.0 d.0, same-place v.place w.place d.1) in
    ap refused m

pub case-passes : (c : Case) (cs : List Case) → all_pass (c ∷ cs) ≡ true → (c.computed ≡ c.expected) × (all_pass cs ≡ true)
unfolding all_pass
case-passes c cs e =
    let b = and_both (same_answer c.computed c.expected) (all_pass cs) e in
    (same-answer c.computed c.expected b.0, b.1)
