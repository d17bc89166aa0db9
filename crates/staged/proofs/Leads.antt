-- What an accepted later stage says of the state that led to it. No contract cites this file. Assumes nothing.
use mathlib.Core.Path.{◌≡◌, sym, ap, ◌∙◌, subst}
use mathlib.Core.Bool.{true, false, not, ◌&&◌}
use mathlib.Core.List.{List}
use Prim.Native.Nat.{ℕ, ◌+◌, ◌≤◌}
use native.Mathlib.Omega.{arith}
use borrow.Author.Tests.{not-false, not-true, eqb-true, leb-true, le-ltb}
use lib.Dec.{eqb, leb}
use Rattle.units.specs.Answer.{plain, when}
use Rattle.units.specs.Places.{good_size}
use Rattle.units.proofs.Chains.{else-second, none-when}
use Rattle.tables.specs.Places.{array_blocks}
use Rattle.tables.specs.Check.{room_check, bad_slot}
use Rattle.tables.proofs.Orders.{and_left, and_right, neither}
use Rattle.tables.proofs.Good.{slot_ok}
use Rattle.staged.specs.declared.Update.{Update}
use Rattle.staged.specs.declared.Repair.{Repair}
use Rattle.staged.specs.Stores.{stage_store, repair_store}
use Rattle.staged.specs.Numbers.{leads, next_check, leads_repair, next_repair_check}

-- ---- an update

pub record Leads (B n k : ℕ) (u : Update) : Type 0 where
  pub stage : k ≡ u.next
  pub block : B ≡ u.b
  pub bytes : n ≡ u.len
  pub low : 2 ≤ k
  pub high : k ≤ 4
  pub room : (room_check B n).number ≡ 0
  pub one : 1 ≤ u.slot.0
  pub most : u.slot.0 ≤ 128

pub slot-good : (s : ℕ) → 1 ≤ s → s ≤ 128 → bad_slot s ≡ false
slot-good s a b = neither (le-ltb s 1 a) (le-ltb 128 s b)

-- the room of stage one is the room here
pub room-here : (B n b l : ℕ) → B ≡ b → n ≡ l → (room_check B n).number ≡ (room_check b l).number
room-here B n b l p q = ap (λ (x : ℕ). (room_check x n).number) p ∙ ap (λ (x : ℕ). (room_check b x).number) q

pub next-leads : (B n k : ℕ) (u : Update) → (next_check B n k u).number ≡ 0 → Leads B n k u
unfolding next_check leads
next-leads B n k u h =
    let q : leads B n k u ≡ true = not-false _ (none-when _ (plain 26) tt (else-second (when (not (good_size B)) (plain 1)) _ h)) in
    let q1 = and_right (eqb k u.next) _ q in
    let q2 = and_right (eqb B u.b) _ q1 in
    let q3 = and_right (eqb n u.len) _ q2 in
    let q4 = and_right (leb 2 u.next && leb u.next 4) _ q3 in
    let w = and_left (leb 2 u.next && leb u.next 4) _ q3 in
    let ek : k ≡ u.next = eqb-true _ _ (and_left _ _ q) in
    let e_b : B ≡ u.b = eqb-true _ _ (and_left _ _ q1) in
    let en : n ≡ u.len = eqb-true _ _ (and_left _ _ q2) in
    let lo = leb-true 2 u.next (and_left _ _ w) in
    let hi = leb-true u.next 4 (and_right (leb 2 u.next) _ w) in
    let sl = slot_ok u.slot.0 (not-true _ (and_right (eqb (room_check u.b u.len).number 0) _ q4)) in
    record {
      stage = ek;
      block = e_b;
      bytes = en;
      low = omega arith;
      high = omega arith;
      room = room-here B n u.b u.len e_b en ∙ eqb-true _ 0 (and_left _ _ q4);
      one = sl.0;
      most = omega (arith, sl.0, sl.1);
    }

-- what its store asks for
pub leads-store : {B n k : ℕ} {u : Update} → Leads B n k u → ((room_check u.b u.len).number ≡ 0) × (bad_slot u.slot.0 ≡ false) × (n ≡ u.len)
leads-store {B} {n} {k} {u} d = (sym (room-here B n u.b u.len d.block d.bytes) ∙ d.room, slot-good u.slot.0 d.one d.most, d.bytes)

-- the store by the state's own numbers is the one by the call's
pub stage-here : {B n k : ℕ} {u : Update} (xs : List ℕ) → Leads B n k u → stage_store u.b u.len u k xs ≡ stage_store B n u k xs
stage-here xs d = rw (← d.block, ← d.bytes)

-- ---- a repair

pub record LeadsRepair (B n k : ℕ) (r : Repair) : Type 0 where
  pub stage : k ≡ r.next
  pub block : B ≡ r.b
  pub bytes : n ≡ r.len
  pub low : 2 ≤ k
  pub high : k ≤ array_blocks B + 2
  pub room : (room_check B n).number ≡ 0

pub repair-leads : (B n k : ℕ) (r : Repair) → (next_repair_check B n k r).number ≡ 0 → LeadsRepair B n k r
unfolding next_repair_check leads_repair
repair-leads B n k r h =
    let q : leads_repair B n k r ≡ true = not-false _ (none-when _ (plain 26) tt (else-second (when (not (good_size B)) (plain 1)) _ h)) in
    let q1 = and_right (eqb k r.next) _ q in
    let q2 = and_right (eqb B r.b) _ q1 in
    let q3 = and_right (eqb n r.len) _ q2 in
    let q4 = and_right (leb 2 r.next && leb r.next (array_blocks r.b + 2)) _ q3 in
    let w = and_left (leb 2 r.next && leb r.next (array_blocks r.b + 2)) _ q3 in
    let ek : k ≡ r.next = eqb-true _ _ (and_left _ _ q) in
    let e_b : B ≡ r.b = eqb-true _ _ (and_left _ _ q1) in
    let en : n ≡ r.len = eqb-true _ _ (and_left _ _ q2) in
    let lo = leb-true 2 r.next (and_left _ _ w) in
    let hi : r.next ≤ array_blocks r.b + 2 = leb-true r.next (array_blocks r.b + 2) (and_right (leb 2 r.next) _ w) in
    let h_b : r.next ≤ array_blocks B + 2 = subst (λ (x : ℕ). r.next ≤ array_blocks x + 2) (sym e_b) hi in
    record { stage = ek; block = e_b; bytes = en; low = omega arith; high = omega arith; room = room-here B n r.b r.len e_b en ∙ eqb-true _ 0 q4 }

pub leads-mend : {B n k : ℕ} {r : Repair} → LeadsRepair B n k r → (((room_check r.b r.len).number ≡ 0) × (n ≡ r.len)) × ((2 ≤ k) × (k ≤ array_blocks r.b + 2))
leads-mend {B} {n} {k} {r} d =
    ((sym (room-here B n r.b r.len d.block d.bytes) ∙ d.room, d.bytes), (d.low, subst (λ (x : ℕ). k ≤ array_blocks x + 2) d.block d.high))

pub repair-here : {B n k : ℕ} {r : Repair} (xs : List ℕ) → LeadsRepair B n k r → repair_store r.b r.len r k xs ≡ repair_store B n r k xs
repair-here xs d = rw (← d.block, ← d.bytes)
