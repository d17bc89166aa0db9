-- The laws of the array of `specs/Entries.antt`: one entry read and replaced, what the tests of an entry say, and the array that passes them all.
-- No contract cites this file. Assumes nothing.
use mathlib.Core.Path.{◌≡◌, refl, sym, ap, ◌∙◌, subst}
use mathlib.Core.Logic.{inl, inr}
use mathlib.Core.Bool.{Bool, true, false, not, ◌&&◌}
use mathlib.Core.List.{List, [], ◌∷◌}
use Prim.Native.Nat.{ℕ, zero, suc, ◌+◌, ◌*◌, ◌≤◌, ◌<◌}
use native.Mathlib.Omega.{arith}
use borrow.Author.Tests.{eqb-true, eqb-false, leb-true, le-leb}
use lib.Dec.{eqb, leb}
use lib.ListN.{length, take, drop, get_or, length-replicate, get_or-replicate}
use lib.Seq.{sets, length-sets, take-take, ext_get_or}
use Rattle.units.specs.Answer.{pick}
use Rattle.units.specs.Bytes.{part, same, all_zero}
use Rattle.units.proofs.Lists.{part-part, part_out, part_same, length_part, get_d_part}
use Rattle.tables.specs.Places.{first_usable_of, last_usable_of}
use Rattle.tables.specs.Entries.{zeros, entry, set_entry, used, first_of, last_of, part_guid_of, usable, ok_entry, all_ok, overlaps, all_apart, bears, twins, entries_ok}
use Rattle.tables.proofs.Orders.{split, by-pick, by-test, all-at, all_of, pairs-at, pairs_of, both, and_left, and_right, same-comm}

pub length-zeros : (n : ℕ) → length (zeros n) ≡ n
unfolding zeros
length-zeros n = length-replicate n 0

module _ (arr : List ℕ) (k : ℕ) (e : List ℕ) (long : length arr ≡ 16384) (low : k < 128) (size : length e ≡ 128) where
  pub length-set-entry : length (set_entry arr k e) ≡ 16384
  unfolding set_entry
  length-set-entry = length-sets arr (128 * k) e ∙ long

  pub entry-same : entry (set_entry arr k e) k ≡ e
  unfolding entry set_entry
  entry-same = subst (λ (m : ℕ). part (sets arr (128 * k) e) (128 * k) m ≡ e) size (part_same arr (128 * k) e (omega arith))

  pub entry_other : (j : ℕ) → j < 128 → (j ≡ k → ⊥) → entry (set_entry arr k e) j ≡ entry arr j
  unfolding entry set_entry
  entry_other j h d =
      part_out arr (128 * k) e (128 * j) 128
      (split k j (λ q. inr (omega (arith, d))) (λ q. inl (omega arith)))

  -- both at once: what stands at j afterwards
  pub entry_set : (j : ℕ) → j < 128 → entry (set_entry arr k e) j ≡ pick (eqb j k) e (entry arr j)
  entry_set j h =
      by-pick (λ (x : List ℕ). entry (set_entry arr k e) j ≡ x) (eqb j k) e (entry arr j)
      (λ q. ap (λ (i : ℕ). entry (set_entry arr k e) i) (eqb-true j k q) ∙ entry-same)
      (λ q. entry_other j h (eqb-false j k q))

pub get_d-zeros : (n i : ℕ) → i < n → get_or (zeros n) i 0 ≡ 0
unfolding zeros
get_d-zeros n i h = get_or-replicate n i 0 0 h

pub entry-zeros : (k : ℕ) → k < 128 → entry (zeros 16384) k ≡ zeros 128
unfolding entry
entry-zeros k h =
    let l : length (zeros 16384) ≡ 16384 = length-zeros 16384 in
    let p : length (part (zeros 16384) (128 * k) 128) ≡ 128 = length_part (zeros 16384) (128 * k) 128 (omega arith) in
    ext_get_or 0 _ _ (p ∙ sym (length-zeros 128))
    (λ i b.
    get_d_part (zeros 16384) (128 * k) 128 i (omega arith)
    ∙ get_d-zeros 16384 (128 * k + i) (omega arith)
    ∙ sym (get_d-zeros 128 i (omega arith)))

-- ---- the parts that code reads

-- entry k of the array at a place stands 128 * k bytes further on
pub entry-part : (xs : List ℕ) (at k : ℕ) → k < 128 → entry (part xs at 16384) k ≡ part xs (at + 128 * k) 128
unfolding entry
entry-part xs at k h = part-part xs at 16384 (128 * k) 128 (omega arith)

-- by the place where it stands
pub entry_at : (xs : List ℕ) (at k : ℕ) {p : ℕ} → k < 128 → p ≡ at + 128 * k → entry (part xs at 16384) k ≡ part xs p 128
entry_at xs at k h e = entry-part xs at k h ∙ ap (λ (o : ℕ). part xs o 128) (sym e)

pub used-part : (xs : List ℕ) (at : ℕ) → used (part xs at 128) ≡ not (all_zero (part xs at 16))
unfolding used
used-part xs at = ap (λ (l : List ℕ). not (all_zero l)) (take-take 16 128 (drop at xs) (omega arith))

pub own-used : (xs : List ℕ) (at k : ℕ) → k < 128 → {z : Bool} → z ≡ all_zero (part xs (at + 128 * k) 16) → used (entry (part xs at 16384) k) ≡ not z
own-used xs at k h e = ap used (entry-part xs at k h) ∙ used-part xs (at + 128 * k) ∙ ap not (sym e)

-- ---- two entries

and-swap : (a b c d : Bool) → a && (b && (c && d)) ≡ b && (a && (d && c))
and-swap true true true true = refl
and-swap true true true false = refl
and-swap true true false true = refl
and-swap true true false false = refl
and-swap true false c d = refl
and-swap false true c d = refl
and-swap false false c d = refl

pub overlaps-comm : (e f : List ℕ) → overlaps e f ≡ overlaps f e
unfolding overlaps
overlaps-comm e f = and-swap (used e) (used f) (leb (first_of e) (last_of f)) (leb (first_of f) (last_of e))

and-turn : (a b c : Bool) → a && (b && c) ≡ b && (a && c)
and-turn true true c = refl
and-turn true false c = refl
and-turn false true c = refl
and-turn false false c = refl

pub twins-comm : (e f : List ℕ) → twins e f ≡ twins f e
unfolding twins bears
twins-comm e f =
    ap (λ (b : Bool). used e && (used f && b)) (same-comm (part_guid_of f) (part_guid_of e)) ∙ and-turn (used e) (used f) (same (part_guid_of e) (part_guid_of f))

-- an unused entry has nobody's GUID, and no twin
pub bears-unused : (g f : List ℕ) → used f ≡ false → bears g f ≡ false
unfolding bears
bears-unused g f u = rw u

pub twins-unused : (e f : List ℕ) → used e ≡ false → twins e f ≡ false
unfolding twins
twins-unused e f u = rw u

-- an entry has none where no used one has its GUID
pub twins-alone : (e f : List ℕ) → bears (part_guid_of e) f ≡ false → twins e f ≡ false
unfolding twins
twins-alone e f h = by-test (used e) (λ u. rw (u, h)) (λ u. rw u)

-- ---- what the tests of an entry say

-- what `usable` says in numbers
pub record Inside (B n : ℕ) (e : List ℕ) : Type 0 where
  pub order : first_of e ≤ last_of e
  pub low : first_usable_of B ≤ first_of e
  pub high : last_of e ≤ last_usable_of B n

pub inside-true : (B n : ℕ) (e : List ℕ) → usable B n e ≡ true → Inside B n e
unfolding usable
inside-true B n e h =
    let q = and_right (leb (first_of e) (last_of e)) _ h in
    record {
      order = leb-true _ _ (and_left (leb (first_of e) (last_of e)) _ h);
      low = leb-true _ _ (and_left (leb (first_usable_of B) (first_of e)) _ q);
      high = leb-true _ _ (and_right (leb (first_usable_of B) (first_of e)) _ q);
    }

pub inside_of : (B n : ℕ) (e : List ℕ) → Inside B n e → usable B n e ≡ true
unfolding usable
inside_of B n e i = both (le-leb _ _ i.order) (both (le-leb _ _ i.low) (le-leb _ _ i.high))

-- what begins a list of zeros is zeros
pub zero-front : (m : ℕ) (l : List ℕ) → all_zero l ≡ true → all_zero (take m l) ≡ true
unfolding all_zero
zero-front zero l z = refl
zero-front (suc m) [] z = refl
zero-front (suc m) (x ∷ xs) z = both (and_left (eqb x 0) (all_zero xs) z) (zero-front m xs (and_right (eqb x 0) (all_zero xs) z))

-- a used entry that passes is inside
pub ok-used : (B n : ℕ) (e : List ℕ) → ok_entry B n e ≡ true → used e ≡ true → Inside B n e
unfolding ok_entry used
ok-used B n e h u =
    by-test (all_zero e)
    (λ z. let s : all_zero (take 16 e) ≡ true = zero-front 16 e z in let o : ◌≡◌ {A = ℕ} 0 1 = cc in absurd (omega arith))
    (λ z. inside-true B n e (and_right (used e) _ (rw z at h)))

pub ok_of : (B n : ℕ) (e : List ℕ) → used e ≡ true → Inside B n e → ok_entry B n e ≡ true
unfolding ok_entry
ok_of B n e u i = by-pick (λ (b : Bool). b ≡ true) (all_zero e) _ _ (λ _. refl) (λ _. both u (inside_of B n e i))

pub ok-zeros : (B n : ℕ) → ok_entry B n (zeros 128) ≡ true
unfolding ok_entry all_zero zeros
ok-zeros B n = refl

pub zeros-zero : all_zero (zeros 128) ≡ true
unfolding all_zero zeros
zeros-zero = refl

pub unused-zeros : used (zeros 128) ≡ false
unfolding used all_zero zeros
unused-zeros = refl

pub overlaps-zeros : (e : List ℕ) → overlaps (zeros 128) e ≡ false
unfolding overlaps
overlaps-zeros e = ap (λ (b : Bool). b && (used e && (leb (first_of (zeros 128)) (last_of e) && leb (first_of e) (last_of (zeros 128))))) unused-zeros

-- ---- the array that passes

pub record Entries (B n : ℕ) (arr : List ℕ) : Type 0 where
  pub each : (k : ℕ) → k < 128 → ok_entry B n (entry arr k) ≡ true
  pub apart : (j k : ℕ) → j < 128 → k < 128 → (j ≡ k → ⊥) → overlaps (entry arr j) (entry arr k) ≡ false
  pub single : (j k : ℕ) → j < 128 → k < 128 → (j ≡ k → ⊥) → twins (entry arr j) (entry arr k) ≡ false

pub entries-true : (B n : ℕ) (arr : List ℕ) → entries_ok B n arr ≡ true → Entries B n arr
unfolding entries_ok
entries-true B n arr h =
    let q = and_right (all_ok B n arr) _ h in
    record {
      each = all-at 128 (λ (k : ℕ). ok_entry B n (entry arr k)) (and_left _ _ h);
      apart = pairs-at 128 (λ (j k : ℕ). overlaps (entry arr j) (entry arr k)) (and_left (all_apart arr) _ q);
      single = pairs-at 128 (λ (j k : ℕ). twins (entry arr j) (entry arr k)) (and_right (all_apart arr) _ q);
    }

pub entries-of : (B n : ℕ) (arr : List ℕ) → Entries B n arr → entries_ok B n arr ≡ true
unfolding entries_ok
entries-of B n arr g =
    both (all_of 128 _ g.each)
    (both (pairs_of 128 (λ (j k : ℕ). overlaps (entry arr j) (entry arr k)) g.apart)
    (pairs_of 128 (λ (j k : ℕ). twins (entry arr j) (entry arr k)) g.single))

pub entries-zeros : (B n : ℕ) → Entries B n (zeros 16384)
entries-zeros B n =
    record {
      each = λ k p. rw (entry-zeros k p) (ok-zeros B n);
      apart = λ j k p q d. rw (entry-zeros j p) (overlaps-zeros (entry (zeros 16384) k));
      single = λ j k p q d. rw (entry-zeros j p) (twins-unused (zeros 128) (entry (zeros 16384) k) unused-zeros);
    }

module _ (arr : List ℕ) (k : ℕ) (e : List ℕ) (long : length arr ≡ 16384) (low : k < 128) (size : length e ≡ 128) where
  -- one entry replaced by one that passes a test with no other
  pairs_set : (f : List ℕ → List ℕ → Bool) → ((x y : List ℕ) → f x y ≡ f y x)
      → ((i j : ℕ) → i < 128 → j < 128 → (i ≡ j → ⊥) → f (entry arr i) (entry arr j) ≡ false)
      → ((j : ℕ) → j < 128 → (j ≡ k → ⊥) → f e (entry arr j) ≡ false)
      → (i j : ℕ) → i < 128 → j < 128 → (i ≡ j → ⊥) → f (entry (set_entry arr k e) i) (entry (set_entry arr k e) j) ≡ false
  pairs_set f comm old new i j p q d =
      rw (entry_set arr k e long low size i p, entry_set arr k e long low size j q)
      (by-pick (λ (x : List ℕ). f x (pick (eqb j k) e (entry arr j)) ≡ false) (eqb i k) _ _
      (λ a. by-pick (λ (y : List ℕ). f e y ≡ false) (eqb j k) _ _
      (λ b. absurd (d (eqb-true i k a ∙ sym (eqb-true j k b))))
      (λ b. new j q (eqb-false j k b)))
      (λ a. by-pick (λ (y : List ℕ). f (entry arr i) y ≡ false) (eqb j k) _ _
      (λ b. comm (entry arr i) e ∙ new i p (eqb-false i k a))
      (λ b. old i j p q d)))

  -- one that passes, meets no other and is no other's twin
  pub entries-set : (B n : ℕ) → Entries B n arr → ok_entry B n e ≡ true
      → ((j : ℕ) → j < 128 → (j ≡ k → ⊥) → overlaps e (entry arr j) ≡ false)
      → ((j : ℕ) → j < 128 → (j ≡ k → ⊥) → twins e (entry arr j) ≡ false)
      → Entries B n (set_entry arr k e)
  entries-set B n g ok free alone =
      record {
        each = λ j p. rw (entry_set arr k e long low size j p) (by-pick (λ (x : List ℕ). ok_entry B n x ≡ true) (eqb j k) _ _ (λ _. ok) (λ _. g.each j p));
        apart = pairs_set overlaps overlaps-comm g.apart free;
        single = pairs_set twins twins-comm g.single alone;
      }
