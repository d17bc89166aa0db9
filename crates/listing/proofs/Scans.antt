-- The laws of scans over a card's array: the listing of the front table is that of the image at the array's place, and what a scan lists, slot by slot.
-- No contract cites this file. Assumes nothing.
use mathlib.Core.Path.{◌≡◌, refl, sym, ap, ◌∙◌}
use mathlib.Core.Bool.{Bool, true, false, not}
use mathlib.Core.List.{List, [], ◌∷◌}
use Prim.Native.Nat.{ℕ, zero, suc, ◌+◌, ◌*◌, ◌-◌, ◌≤◌, ◌<◌}
use native.Mathlib.Omega.{arith}
use lib.ListN.{length, get_or, take}
use Rattle.units.specs.Answer.{pick}
use Rattle.units.specs.Bytes.{part, all_zero}
use Rattle.units.proofs.Lists.{part-part}
use Rattle.partition.specs.Format.{entry_at}
use Rattle.partition.specs.Array.{entry_place, present, present_from, first_slot}
use Rattle.partition.proofs.Laws.{entry-part, next-in, next-none}
use Rattle.tables.specs.Lens.{tables_at}
use Rattle.tables.specs.Entries.{entry}
use Rattle.listing.specs.Listing.{present_slots}

-- two scans that find the same entries present give the same slots
from-same : (xs ys : List ℕ) (a b k n : ℕ) → ((j : ℕ) → k ≤ j → j < k + n → present xs a j ≡ present ys b j) → present_from xs a k n ≡ present_from ys b k n
unfolding present_from
from-same xs ys a b k zero f = refl
from-same xs ys a b k (suc n) f =
    let e : present xs a k ≡ present ys b k = f k (omega arith) (omega arith) in
    let r : present_from xs a (k + 1) n ≡ present_from ys b (k + 1) n = from-same xs ys a b (k + 1) n (λ j p q. f j (omega arith) (omega arith)) in
    rw (e, r)

-- ---- the listing of the front table is that of the image at the array's place

module _ (B n : ℕ) (xs : List ℕ) where
  -- the bytes of one entry
  bytes-in-image : (k : ℕ) → k < 128 → part (tables_at B n xs).front.array (entry_place 0 k) 128 ≡ part xs (entry_place (B + B) k) 128
  unfolding tables_at
  bytes-in-image k h =
      let e : B + B + (0 + k * 128) ≡ B + B + k * 128 = omega arith in
      part-part xs (B + B) 16384 (0 + k * 128) 128 (omega arith) ∙ ap (λ (j : ℕ). part xs j 128) e

  -- its record
  pub entry-in-image : (k : ℕ) → k < 128 → entry_at (tables_at B n xs).front.array (entry_place 0 k) ≡ entry_at xs (entry_place (B + B) k)
  entry-in-image k h =
      sym (entry-part (tables_at B n xs).front.array (entry_place 0 k))
      ∙ ap (λ (l : List ℕ). entry_at l 0) (bytes-in-image k h)
      ∙ entry-part xs (entry_place (B + B) k)

  -- whether it is present
  pub present-in-image : (k : ℕ) → k < 128 → present (tables_at B n xs).front.array 0 k ≡ present xs (B + B) k
  present-in-image k h = ap (λ (l : List ℕ). not (all_zero l)) (bytes-in-image k h)

  -- the slots after a slot
  pub after-in-image : (after : ℕ) → present_from (tables_at B n xs).front.array 0 after (128 - after) ≡ present_from xs (B + B) after (128 - after)
  after-in-image after =
      from-same (tables_at B n xs).front.array xs 0 (B + B) after (128 - after) (λ j p q. present-in-image j (omega arith))

  -- all slots
  pub slots-in-image : present_slots (tables_at B n xs) ≡ present_from xs (B + B) 0 128
  unfolding present_slots
  slots-in-image = after-in-image 0

-- an entry by its array place, in the words of the card check
pub entry-place : (arr : List ℕ) (k : ℕ) → entry arr k ≡ part arr (entry_place 0 k) 128
unfolding entry
entry-place arr k = let e : 128 * k ≡ 0 + k * 128 = omega arith in ap (λ (j : ℕ). part arr j 128) e

-- ---- the slots that a scan lists

module _ (xs : List ℕ) (at : ℕ) where
  -- after the first of them come those after it
  from_first : (n k : ℕ) → (get_or (present_from xs at k n) 0 0 ≡ 0 → ⊥)
      → present_from xs at k n ≡ get_or (present_from xs at k n) 0 0 ∷ present_from xs at (get_or (present_from xs at k n) 0 0) (k + n - get_or (present_from xs at k n) 0 0)
  unfolding present_from
  from_first zero k h = absurd (h refl)
  from_first (suc n) k h = go (present xs at k) h (from_first n (k + 1))
    where
      l : List ℕ
      l = present_from xs at (k + 1) n

      go : (t : Bool) → (get_or (pick t ((k + 1) ∷ l) l) 0 0 ≡ 0 → ⊥)
          → ((get_or l 0 0 ≡ 0 → ⊥) → l ≡ get_or l 0 0 ∷ present_from xs at (get_or l 0 0) (k + 1 + n - get_or l 0 0))
          → pick t ((k + 1) ∷ l) l ≡ get_or (pick t ((k + 1) ∷ l) l) 0 0 ∷ present_from xs at (get_or (pick t ((k + 1) ∷ l) l) 0 0) (k + suc n - get_or (pick t ((k + 1) ∷ l) l) 0 0)
      go true g f = let e : k + suc n - (k + 1) ≡ n = omega arith in rw e
      go false g f = let e : k + 1 + n ≡ k + suc n = omega arith in rw e at (f g)

  pub after_first : (after : ℕ) → (first_slot xs at 128 after ≡ 0 → ⊥)
      → present_from xs at after (128 - after) ≡ first_slot xs at 128 after ∷ present_from xs at (first_slot xs at 128 after) (128 - first_slot xs at 128 after)
  unfolding first_slot
  after_first after h =
      let r = next-in xs at 128 after h in
      let e : after + (128 - after) ≡ 128 = omega (arith, r.past, r.within) in
      rw e at (from_first (128 - after) after h)

  -- after the last one come none
  pub after_last : (after : ℕ) → first_slot xs at 128 after ≡ 0 → present_from xs at after (128 - after) ≡ []
  after_last after h = none (present_from xs at after (128 - after)) (next-none xs at 128 after h)
    where
      none : (l : List ℕ) → take 1 l ≡ [] → l ≡ []
      none [] e = refl
      none (x ∷ l) e = let z : ◌≡◌ {A = ℕ} 0 1 = ap length (sym e) in absurd (omega arith)

  -- each is a slot of the array, and its entry is present
  pub from_each : (n k i : ℕ) → i < length (present_from xs at k n)
      → (k < get_or (present_from xs at k n) i 0) × (get_or (present_from xs at k n) i 0 ≤ k + n) × (present xs at (get_or (present_from xs at k n) i 0 - 1) ≡ true)
  unfolding present_from
  from_each zero k i h = absurd (omega arith)
  from_each (suc n) k i h = go (present xs at k) refl i h (from_each n (k + 1))
    where
      l : List ℕ
      l = present_from xs at (k + 1) n

      go : (t : Bool) → present xs at k ≡ t → (i : ℕ) → i < length (pick t ((k + 1) ∷ l) l)
          → ((j : ℕ) → j < length l → (k + 1 < get_or l j 0) × (get_or l j 0 ≤ k + 1 + n) × (present xs at (get_or l j 0 - 1) ≡ true))
          → (k < get_or (pick t ((k + 1) ∷ l) l) i 0) × (get_or (pick t ((k + 1) ∷ l) l) i 0 ≤ k + suc n) × (present xs at (get_or (pick t ((k + 1) ∷ l) l) i 0 - 1) ≡ true)
      go true e zero g f = let q : k + 1 - 1 ≡ k = omega arith in (omega arith, omega arith, rw q e)
      go true e (suc i) g f = let r = f i (omega arith) in (omega (arith, r.0), omega (arith, r.1), r.2)
      go false e i g f = let r = f i g in (omega (arith, r.0), omega (arith, r.1), r.2)
