-- Where the stages store: a store in the bytes of a table that an image lends is a store in the image. No contract cites this file. Assumes nothing.
use mathlib.Core.Path.{◌≡◌, refl, sym, ap, ◌∙◌}
use mathlib.Core.Logic.{◌⊎◌, inl, inr}
use mathlib.Core.Bool.{Bool, true, false, not, ◌||◌}
use mathlib.Core.List.{List, [], ◌∷◌, ◌++◌}
use Prim.Native.Nat.{ℕ, zero, suc, ◌+◌, ◌*◌, ◌-◌, ◌≤◌, ◌<◌}
use native.Mathlib.Nat.{add-mul, mul-le-mul_right}
use native.Mathlib.Omega.{arith}
use borrow.Author.Tests.{lt-ltb, le-ltb, eq-eqb}
use lib.Dec.{eqb, ltb}
use lib.ListN.{length, take, drop, take-append-drop}
use lib.Seq.{sets, length-take-le}
use Rattle.units.specs.declared.Guid.{Guid}
use Rattle.units.specs.Bytes.{part}
use Rattle.units.proofs.Laws.{good-size}
use Rattle.std.specs.List.{copy_within}
use Rattle.std.proofs.lemmas.List.Edits.{sets-eq}
use Rattle.units.proofs.Lists.{length_part, lent-part, length-lent, sets-left, sets-right}
use Rattle.tables.specs.Places.{array_blocks}
use Rattle.tables.specs.Lens.{Side, Front, Back, Tables, side_of, other, header_in, array_in, copy_in, copy_at, tables}
use Rattle.tables.specs.Entries.{zeros}
use Rattle.tables.specs.Headers.{head_block}
use Rattle.tables.specs.Check.{bad_slot}
use Rattle.tables.proofs.Room.{Room}
use Rattle.tables.proofs.EntryLaws.{length-zeros}
use Rattle.tables.proofs.HeaderLaws.{block-long}
use Rattle.tables.proofs.Good.{slot_ok}
use Rattle.tables.proofs.Copies.{copies-tables}
use Rattle.staged.specs.declared.Update.{Update}
use Rattle.staged.specs.declared.Repair.{Repair}
use Rattle.reader.specs.Reader.{array_byte_place}
use Rattle.staged.specs.Stores.{header_place, copy_place, store_in, store_bytes, slot_store, header_store, stage_store, block_store, repair_store}

-- ---- a store in a lent part

pub lent-sets : (xs : List ℕ) (at n o : ℕ) (e : List ℕ) {ys : List ℕ} → at + n ≤ length xs → o + length e ≤ n → ys ≡ sets (take (at + n - at) (drop at xs)) o e
    → take at xs ++ (ys ++ drop (at + n - at) (drop at xs)) ≡ sets xs (at + o) e
lent-sets xs at n o e {ys} h f q =
    let t : List ℕ = take at xs in
    let r : List ℕ = drop at xs in
    let p : List ℕ = take (at + n - at) (drop at xs) in
    let d : List ℕ = drop (at + n - at) (drop at xs) in
    let lp : length (take (at + n - at) (drop at xs)) ≡ n = length-lent xs at n h in
    ap (λ (y : List ℕ). t ++ (y ++ d)) q
    ∙ ap (λ (y : List ℕ). t ++ y) (sym (sets-left p d o e (omega arith)))
    ∙ ap (λ (y : List ℕ). t ++ sets y o e) (take-append-drop (at + n - at) r)
    ∙ sym (sets-right t r o e)
    ∙ ap (λ (i : ℕ). sets (t ++ r) (i + o) e) (length-take-le at xs (omega arith))
    ∙ ap (λ (y : List ℕ). sets y (at + o) e) (take-append-drop at xs)

-- ---- the places of a side

module _ (B n : ℕ) (r : Room B n) where
  pub header-from : (s : Side) → copy_place B n s + header_in s ≡ header_place B n s
  header-from Front = omega arith
  header-from Back = r.seam

  pub array-from : (s : Side) (x : ℕ) → copy_place B n s + (array_in B s + x) ≡ array_byte_place B n s + x
  array-from Front x = omega arith
  array-from Back x = omega arith

  pub array-inside : (s : Side) → array_byte_place B n s + 16384 ≤ n
  array-inside Front = omega (arith, r.low, r.seam, r.top)
  array-inside Back = omega (arith, r.seam, r.top)

-- the bytes of a side's table in an image are that table
pub side-copy : (B : ℕ) (xs : List ℕ) (s : Side) → Room B (length xs) → copy_in B s (part xs (copy_place B (length xs) s) (B + 16384)) ≡ copy_at s (tables B xs)
side-copy B xs Front r = ap (λ (t : Tables). t.front) (copies-tables B (length xs) xs r)
side-copy B xs Back r = ap (λ (t : Tables). t.back) (copies-tables B (length xs) xs r)

-- as the code lends them
pub lent-copy : (B : ℕ) (xs : List ℕ) (s : Side) {at : ℕ} → Room B (length xs) → at ≡ copy_place B (length xs) s → copy_in B s (take (at + (B + 16384) - at) (drop at xs)) ≡ copy_at s (tables B xs)
lent-copy B xs s {at} r e =
    ap (copy_in B s) (lent-part xs at (B + 16384))
    ∙ ap (λ (i : ℕ). copy_in B s (part xs i (B + 16384))) e
    ∙ side-copy B xs s r

-- the code's word for the other side
pub other-side : (b : Bool) → side_of (not b) ≡ other (side_of b)
other-side true = refl
other-side false = refl

-- ---- the stores of an update

-- they stay inside the table's bytes
pub store-fits : (B n : ℕ) (s : Side) (u : Update) (header : Bool) → Room B n → bad_slot u.slot.0 ≡ false → length u.entry ≡ 128
    → store_in B s u header + length (store_bytes B n s u header) ≤ B + 16384
store-fits B n Front u true r b l = omega (arith, block-long B n Front u.guid u.parts (omega (arith, r.least)))
store-fits B n Back u true r b l = omega (arith, block-long B n Back u.guid u.parts (omega (arith, r.least)))
store-fits B n Front u false r b l = let k = slot_ok u.slot.0 b in omega arith
store-fits B n Back u false r b l = let k = slot_ok u.slot.0 b in omega arith

-- one of them in an image
store_is : (B n : ℕ) (s : Side) (u : Update) (xs : List ℕ) → Room B n
    → (sets xs (copy_place B n s + store_in B s u true) (store_bytes B n s u true) ≡ header_store B n s u.guid u.parts xs)
    × (sets xs (copy_place B n s + store_in B s u false) (store_bytes B n s u false) ≡ slot_store B n s u xs)
unfolding header_store slot_store
store_is B n s u xs r =
    (ap (λ (i : ℕ). sets xs i (head_block B n s u.guid u.parts)) (header-from B n r s), ap (λ (i : ℕ). sets xs i u.entry) (array-from B n r s (128 * (u.slot.0 - 1))))

-- and which of them a stage is
pub stage_is : (B n : ℕ) (u : Update) (xs : List ℕ) (k : ℕ) → Room B n → 1 ≤ k → k ≤ 4
    → sets xs (copy_place B n (side_of (ltb k 3)) + store_in B (side_of (ltb k 3)) u (eqb k 2 || eqb k 4)) (store_bytes B n (side_of (ltb k 3)) u (eqb k 2 || eqb k 4)) ≡ stage_store B n u k xs
stage_is B n u xs zero r a b = absurd (omega arith)
stage_is B n u xs (suc zero) r a b = (store_is B n Back u xs r).1
stage_is B n u xs (suc (suc zero)) r a b = (store_is B n Back u xs r).0
stage_is B n u xs (suc (suc (suc zero))) r a b = (store_is B n Front u xs r).1
stage_is B n u xs (suc (suc (suc (suc zero)))) r a b = (store_is B n Front u xs r).0
stage_is B n u xs (suc (suc (suc (suc (suc k))))) r a b = absurd (omega arith)

-- ---- the stores of a repair

pub zeros-fit : (B : ℕ) (s : Side) → header_in s + length (zeros B) ≤ B + 16384
zeros-fit B Front = omega (arith, length-zeros B)
zeros-fit B Back = omega (arith, length-zeros B)

pub header-fits : (B n : ℕ) (s : Side) (g : Guid) (parts : ℕ) → Room B n → header_in s + length (head_block B n s g parts) ≤ B + 16384
header-fits B n Front g parts r = omega (arith, block-long B n Front g parts (omega (arith, r.least)))
header-fits B n Back g parts r = omega (arith, block-long B n Back g parts (omega (arith, r.least)))

-- a block of the array lies inside it
blocks-whole : (B : ℕ) → (B ≡ 512) ⊎ (B ≡ 4096) → array_blocks B * B ≡ 16384
blocks-whole B (inl e) = rw e
blocks-whole B (inr e) = rw e

-- and there are few of them
few : (B : ℕ) → (B ≡ 512) ⊎ (B ≡ 4096) → array_blocks B ≤ 32
few B (inl e) = rw e (omega arith)
few B (inr e) = rw e (omega arith)

pub blocks-few : (B n : ℕ) → Room B n → array_blocks B ≤ 32
blocks-few B n r = few B (good-size B r.good)

pub block_inside : (B n j : ℕ) → Room B n → j < array_blocks B → j * B + B ≤ 16384
block_inside B n j r h =
    let e = blocks-whole B (good-size B r.good) in
    let m : (j + 1) * B ≤ array_blocks B * B = mul-le-mul_right B (omega arith) in
    let d : (j + 1) * B ≡ j * B + B = add-mul j 1 B ∙ omega arith in
    omega arith

module _ (B n : ℕ) (b : Bool) (j : ℕ) {from to : ℕ} where
  pub block-is : (xs : List ℕ) → from ≡ array_byte_place B n (side_of (not b)) → to ≡ array_byte_place B n (side_of b) → sets xs (to + j * B) (part xs (from + j * B) B) ≡ block_store B n (side_of b) j xs
  unfolding block_store
  block-is xs p q = rw (p, q, other-side b)

-- which of them a stage is
from-two : (k : ℕ) → 2 ≤ k → k ≡ suc (suc (k - 2))
from-two k h = omega arith

module _ (r : Repair) (k : ℕ) (xs : List ℕ) {ys : List ℕ} (l : length xs ≡ r.len) (a : 2 ≤ k) where
  pub repair-block : k - 2 < array_blocks r.b → ys ≡ block_store r.b (length xs) (side_of (not r.back)) (k - 2) xs → ys ≡ repair_store r.b r.len r k xs
  unfolding repair_store
  repair-block h e =
      let z : ltb (k - 2) (array_blocks r.b) ≡ true = lt-ltb (k - 2) (array_blocks r.b) h in
      let q : repair_store r.b r.len r (suc (suc (k - 2))) xs ≡ block_store r.b r.len (other (side_of r.back)) (k - 2) xs = rw z in
      e ∙ (rw (l, other-side r.back)) ∙ sym q ∙ ap (λ (i : ℕ). repair_store r.b r.len r i xs) (sym (from-two k a))

  pub repair-header : k ≤ array_blocks r.b + 2 → array_blocks r.b ≤ k - 2 → ys ≡ header_store r.b (length xs) (side_of (not r.back)) r.guid r.parts xs → ys ≡ repair_store r.b r.len r k xs
  unfolding repair_store
  repair-header m h e =
      let z : ltb (k - 2) (array_blocks r.b) ≡ false = le-ltb (k - 2) (array_blocks r.b) h in
      let w : eqb (k - 2) (array_blocks r.b) ≡ true = eq-eqb (k - 2) (array_blocks r.b) (omega arith) in
      let q : repair_store r.b r.len r (suc (suc (k - 2))) xs ≡ header_store r.b r.len (other (side_of r.back)) r.guid r.parts xs = rw (z, w) in
      e ∙ (rw (l, other-side r.back)) ∙ sym q ∙ ap (λ (i : ℕ). repair_store r.b r.len r i xs) (sym (from-two k a))

-- ---- a copy inside a list

pub copied : (s : List ℕ) (from to n : ℕ) → from + n ≤ length s → to + n ≤ length s → copy_within s from (from + n) to ≡ sets s to (part s from n)
copied s from to n h k =
    let e : from + n - from ≡ n = omega arith in
    let l : length (part s from n) ≡ n = length_part s from n h in
    let f : to + length (part s from n) ≤ length s = omega arith in
    rw (e, sets-eq (part s from n) s to f, l)
