-- What a payload write tells where it is accepted: its bytes lie in the partition, so between the tables; they are stored there, and nothing else changes.
-- No contract cites this file. Assumes nothing.
use mathlib.Core.Path.{◌≡◌, sym, ap, ◌∙◌}
use mathlib.Core.Bool.{true, false, not}
use mathlib.Core.List.{List}
use Prim.Native.Nat.{ℕ, ◌+◌, ◌*◌, ◌-◌, ◌≤◌, ◌<◌}
use native.Mathlib.Nat.{mul-le-mul_right, add-mul}
use native.Mathlib.Omega.{arith}
use borrow.Author.Tests.{not-false, ltb-false, le-ltb}
use lib.Dec.{ltb}
use lib.ListN.{length}
use lib.Seq.{sets, length-sets}
use Rattle.units.proofs.Chains.{else-none, else-first, else-second, when-none, none-when}
use Rattle.units.specs.Answer.{plain}
use Rattle.tables.specs.Places.{first_usable_of, last_usable_of, back_array}
use Rattle.tables.specs.Lens.{Tables, tables_at}
use Rattle.tables.specs.Entries.{entry, used, first_of, last_of}
use Rattle.tables.specs.Check.{check, bad_slot, slot_check}
use Rattle.card.specs.Calls.{payload_check, payload_place, payload_at, used_check}
use Rattle.tables.proofs.Orders.{neither}
use Rattle.tables.proofs.Room.{Room}
use Rattle.tables.proofs.LensLaws.{tables-between}
use Rattle.tables.proofs.EntryLaws.{Inside, ok-used}
use Rattle.tables.proofs.Good.{Good, room-ok, check-good, slot_ok}
use Rattle.history.proofs.State.{accepted-image}

pub record Pays (B n : ℕ) (t : Tables) (s p m : ℕ) : Type 0 where
  pub card : (check B n t).number ≡ 0
  pub one : 1 ≤ s
  pub slot : s - 1 < 128
  pub low : B + B + 16384 ≤ payload_place B t s p
  pub start : first_of (entry t.front.array (s - 1)) * B ≤ payload_place B t s p
  pub end : payload_place B t s p + m ≤ (last_of (entry t.front.array (s - 1)) + 1) * B
  pub high : payload_place B t s p + m ≤ back_array B n

pub pay-ok : (B n : ℕ) (t : Tables) (s p m : ℕ) → (payload_check B n t s p m).number ≡ 0 → Pays B n t s p m
unfolding payload_check used_check slot_check
pay-ok B n t s p m h =
    let h2 = else-first (used_check B n t s) _ h in
    let h1 = else-first (slot_check B n t s) _ h2 in
    let c : (check B n t).number ≡ 0 = else-first (check B n t) _ h1 in
    let c18 : bad_slot s ≡ false = none-when _ (plain 18) tt (else-second (check B n t) _ h1) in
    let c23 : not (used (entry t.front.array (s - 1))) ≡ false = none-when _ (plain 23) tt (else-second (slot_check B n t s) _ h2) in
    let c24 : ltb ((last_of (entry t.front.array (s - 1)) + 1 - first_of (entry t.front.array (s - 1))) * B) (p + m) ≡ false = none-when _ (plain 24) tt (else-second (used_check B n t s) _ h) in
    fits (slot_ok s c18) c (check-good B n t c) (ok-used B n _ ((check-good B n t c).entries.each (s - 1) (slot_ok s c18).1) (not-false _ c23)) (ltb-false _ _ c24)
  where
    fits : (1 ≤ s) × (s - 1 < 128) → (check B n t).number ≡ 0 → Good B n t → Inside B n (entry t.front.array (s - 1))
        → p + m ≤ (last_of (entry t.front.array (s - 1)) + 1 - first_of (entry t.front.array (s - 1))) * B → Pays B n t s p m
    fits sl c k i q =
        let r : Room B n = room-ok B n k.room in
        let f : ℕ = first_of (entry t.front.array (s - 1)) in
        let d : ℕ = last_of (entry t.front.array (s - 1)) + 1 - first_of (entry t.front.array (s - 1)) in
        let z : ℕ = last_of (entry t.front.array (s - 1)) + 1 in
        let a : d + f ≡ z = omega arith in
        let b : d * B + f * B ≡ z * B = sym (add-mul d f B) ∙ ap (λ (x : ℕ). x * B) a in
        let u : first_usable_of B * B ≤ f * B = mul-le-mul_right B i.low in
        let zl : z ≤ last_usable_of B n + 1 = omega (arith, i.high) in
        let v : z * B ≤ (last_usable_of B n + 1) * B = mul-le-mul_right B zl in
        record { card = c; one = sl.0; slot = sl.1; low = omega arith; start = omega arith; end = omega arith; high = omega arith }

-- and where nothing speaks against it, it is accepted: so is one of no bytes at the partition's end
pub ok-pay : (B n : ℕ) (t : Tables) (s p m : ℕ) → (check B n t).number ≡ 0 → 1 ≤ s → s ≤ 128 → used (entry t.front.array (s - 1)) ≡ true
    → p + m ≤ (last_of (entry t.front.array (s - 1)) + 1 - first_of (entry t.front.array (s - 1))) * B → (payload_check B n t s p m).number ≡ 0
unfolding payload_check used_check slot_check
ok-pay B n t s p m c a b u h =
    else-none _ _
    (else-none _ _ (else-none _ _ c (when-none _ (plain 18) (neither (le-ltb s 1 a) (le-ltb 128 s b)))) (when-none _ (plain 23) (ap not u)))
    (when-none _ (plain 24) (le-ltb _ _ h))

module _ (B n : ℕ) (xs : List ℕ) (l : length xs ≡ n) (s p : ℕ) (ys : List ℕ) (h : (payload_check B n (tables_at B n xs) s p (length ys)).number ≡ 0) where
  pub pays : Pays B n (tables_at B n xs) s p (length ys)
  pays = pay-ok B n (tables_at B n xs) s p (length ys) h

  pay-room : Room B n
  pay-room = room-ok B n (check-good B n (tables_at B n xs) pays.card).room

  pub pay-fits : payload_place B (tables_at B n xs) s p + length ys ≤ length xs
  pay-fits = let r = pay-room in let q = pays in omega arith

  pub payload-image : (payload_at B n xs s p ys).image ≡ sets xs (payload_place B (tables_at B n xs) s p) ys
  unfolding payload_at
  payload-image = accepted-image (length ys) _ xs _ h

  -- the tables and the length stay
  pub payload-tables : tables_at B n (payload_at B n xs s p ys).image ≡ tables_at B n xs
  payload-tables = ap (λ (i : List ℕ). tables_at B n i) payload-image ∙ tables-between B n pay-room xs l _ ys pays.low pays.high

  pub payload-length : length (payload_at B n xs s p ys).image ≡ n
  payload-length = ap length payload-image ∙ length-sets xs _ ys ∙ l
