-- The ways of asking a card's listing agree: by order and by the next slot, by order and by the count, by order and by slot, and by order and all at once.
-- No contract cites this file. Assumes nothing.
use mathlib.Core.Path.{◌≡◌, refl, sym, ap, ◌∙◌, subst}
use mathlib.Core.Bool.{Bool, true, not}
use mathlib.Core.List.{List, [], ◌∷◌, map}
use Prim.Native.Nat.{ℕ, zero, suc, ◌+◌, ◌-◌, ◌<◌}
use native.Mathlib.Omega.{arith}
use borrow.Author.Tests.{lt-ltb, le-ltb}
use lib.Dec.{ltb}
use lib.ListN.{length, take, drop, get_or, drop_of_length-le}
use lib.Seq.{drop-cons}
use Rattle.std.specs.Prelude.{Option, Result}
use Rattle.units.proofs.Chains.{when-none, judged-none, judged-zero, number-of}
use Rattle.units.specs.declared.Reason.{Reason}
use Rattle.units.specs.declared.why.Why.{Why}
use Rattle.units.specs.Answer.{refused, if_zero, judged, plain, Answer, accepted, and_then, beside}
use Rattle.units.specs.Bytes.{all_zero}
use Rattle.partition.specs.Format.{entry_at}
use Rattle.partition.specs.Array.{entry_place, present_from, first_slot}
use Rattle.rows.specs.declared.Entry.{Entry}
use Rattle.tables.specs.Lens.{Tables, tables}
use Rattle.tables.specs.Check.{check}
use Rattle.listing.specs.Listing.{Listed, present_slots, listed, count_answer, next_answer, slot_read, nth_answer, entries_answer}
use Rattle.tables.proofs.Orders.{split}
use Rattle.listing.proofs.Scans.{entry-place, after_first, after_last}
use Rattle.listing.specs.Meanings.{first_used, nth_reading, used_means, is_found, found-told}
use Rattle.listing.proofs.Ways.{slot_is, slot-range, slot-good}

-- ---- answers and the lists in them

-- an accepted value changed by a function
pub judged-map : {A C : Type 0} (f : A → C) (k : Why) (v : A) → and_then (judged k v) (λ x. accepted (f x)) ≡ judged k (f v)
unfolding judged
judged-map {A} {C} f k v = by k.number
  where
    by : (n : ℕ) → and_then (if_zero n (accepted v) (refused k)) (λ x. accepted (f x)) ≡ if_zero {X = Answer C} n (accepted (f v)) (refused k)
    by zero = refl
    by (suc n) = refl

judged-value : {A : Type 0} (k : Why) (v u : A) → judged k v ≡ accepted u → v ≡ u
judged-value k v u e = let q : accepted v ≡ accepted u = sym (judged-none v k (judged-zero v k u e)) ∙ e in cc

-- the slots alone
abbrev pub slots : List Listed → List ℕ
slots l = map (λ (e : Listed). e.slot) l

slots-listed : (t : Tables) (l : List ℕ) → slots (map (listed t) l) ≡ l
slots-listed t [] = refl
slots-listed t (x ∷ l) = ap (λ (r : List ℕ). x ∷ r) (slots-listed t l)

-- a scan with a slot at all begins with the first one
begins : (arr : List ℕ) (after k : ℕ) → k < length (present_from arr 0 after (128 - after))
    → present_from arr 0 after (128 - after) ≡ first_slot arr 0 128 after ∷ present_from arr 0 (first_slot arr 0 128 after) (128 - first_slot arr 0 128 after)
begins arr after k h = after_first arr 0 after (λ z. let l = ap length (after_last arr 0 after z) in omega arith)

-- the slots after slot k of a scan are those that stand after it
left : (arr : List ℕ) (k after : ℕ) → k < length (present_from arr 0 after (128 - after))
    → drop (suc k) (present_from arr 0 after (128 - after)) ≡ present_from arr 0 (get_or (present_from arr 0 after (128 - after)) k 0) (128 - get_or (present_from arr 0 after (128 - after)) k 0)
left arr zero after h = rw (begins arr after 0 h)
left arr (suc k) after h =
    let e = begins arr after (suc k) h in
    rw e (left arr k (first_slot arr 0 128 after) (omega (arith, ap length e)))

take-map : {A C : Type 0} (f : A → C) (k : ℕ) (l : List A) → map f (take 1 (drop k l)) ≡ take 1 (drop k (map f l))
take-map f zero [] = refl
take-map f zero (x ∷ l) = refl
take-map f (suc k) [] = refl
take-map f (suc k) (x ∷ l) = take-map f k l

module _ (B : ℕ) (xs : List ℕ) where
  -- ---- by order and all at once

  pub nth-is-listed : (k : ℕ) → nth_answer B xs k ≡ and_then (entries_answer B xs) (λ l. accepted (take 1 (drop k l)))
  nth-is-listed k =
      ap (judged (check B (length xs) (tables B xs))) (take-map (listed (tables B xs)) k (present_slots (tables B xs)))
      ∙ sym (judged-map (λ (l : List Listed). take 1 (drop k l)) (check B (length xs) (tables B xs)) (map (listed (tables B xs)) (present_slots (tables B xs))))

  -- what used slot k tells, where there is one
  record Told (k : ℕ) (e : Listed) : Type 0 where
    checked : (check B (length xs) (tables B xs)).number ≡ 0
    below : k < length (present_slots (tables B xs))
    told : listed (tables B xs) (get_or (present_slots (tables B xs)) k 0) ≡ e

  nth-told : (k : ℕ) (e : Listed) → nth_answer B xs k ≡ accepted (e ∷ []) → Told k e
  nth-told k e q =
      let t : Tables = tables B xs in
      let l : List ℕ = present_slots (tables B xs) in
      let v : map (listed (tables B xs)) (take 1 (drop k (present_slots (tables B xs)))) ≡ e ∷ [] = judged-value (check B (length xs) (tables B xs)) _ (e ∷ []) q in
      let h : k < length (present_slots (tables B xs)) =
      split (length (present_slots (tables B xs))) k
      (λ h. let z = ap length (sym (ap (λ (r : List ℕ). map (listed t) (take 1 r)) (drop_of_length-le l h)) ∙ v) in absurd (omega arith))
      (λ h. h) in
      let w : listed t (get_or (present_slots (tables B xs)) k 0) ∷ [] ≡ e ∷ [] = sym (ap (λ (r : List ℕ). map (listed t) (take 1 r)) (drop-cons l k 0 h)) ∙ v in
      record { checked = judged-zero _ (check B (length xs) (tables B xs)) (e ∷ []) q; below = h; told = cc }

  -- ---- by order and by the next slot

  slots-of-nth : (k : ℕ) → and_then (nth_answer B xs k) (λ l. accepted (slots l)) ≡ judged (check B (length xs) (tables B xs)) (take 1 (drop k (present_slots (tables B xs))))
  slots-of-nth k =
      judged-map slots (check B (length xs) (tables B xs)) (map (listed (tables B xs)) (take 1 (drop k (present_slots (tables B xs)))))
      ∙ ap (judged (check B (length xs) (tables B xs))) (slots-listed (tables B xs) (take 1 (drop k (present_slots (tables B xs)))))

  -- used slot 0 is the next after slot 0
  pub first-is-next : and_then (nth_answer B xs 0) (λ l. accepted (slots l)) ≡ next_answer B xs 0
  unfolding present_slots
  first-is-next = slots-of-nth 0

  -- used slot k + 1 is the next after used slot k
  pub nth-is-next : (k : ℕ) (e : Listed) → nth_answer B xs k ≡ accepted (e ∷ []) → and_then (nth_answer B xs (k + 1)) (λ l. accepted (slots l)) ≡ next_answer B xs e.slot
  unfolding present_slots
  nth-is-next k e q =
      let r = nth-told k e q in
      let s : get_or (present_slots (tables B xs)) k 0 ≡ e.slot = ap (λ (d : Listed). d.slot) r.told in
      let o : k + 1 ≡ suc k = omega arith in
      slots-of-nth (k + 1)
      ∙ ap (λ (l : List ℕ). judged (check B (length xs) (tables B xs)) (take 1 l))
      (ap (λ (i : ℕ). drop i (present_slots (tables B xs))) o
      ∙ left (tables B xs).front.array k 0 r.below
      ∙ ap (λ (i : ℕ). present_from (tables B xs).front.array 0 i (128 - i)) s)

  -- ---- by order and by the count: there is a used slot k exactly for k below the count

  pub count-is-all : (k m : ℕ) → count_answer B xs ≡ accepted m → (nth_reading (nth_answer B xs k)).value.found ≡ ltb k m
  unfolding beside first_used
  count-is-all k m e =
      let l : List ℕ = present_slots (tables B xs) in
      let n : length (present_slots (tables B xs)) ≡ m = judged-value (check B (length xs) (tables B xs)) _ m e in
      let z = judged-zero _ (check B (length xs) (tables B xs)) m e in
      let f : List ℕ → Bool = λ (r : List ℕ). (first_used (map (listed (tables B xs)) (take 1 r))).found in
      ap (λ (r : Answer (List Listed)). (nth_reading r).value.found) (judged-none _ (check B (length xs) (tables B xs)) z)
      ∙ split m k
      (λ h. ap f (drop_of_length-le l {i = k} (omega arith)) ∙ sym (le-ltb k m h))
      (λ h. ap f (drop-cons l k 0 (omega arith)) ∙ sym (lt-ltb k m h))

  -- the same of what the code answers: a call that is asked for used slot k answers one exactly for k below the count
  pub count-is-all-told : (k m : ℕ) (r : Result (Option Entry) Reason) → used_means r ≡ nth_answer B xs k → count_answer B xs ≡ accepted m → is_found r ≡ ltb k m
  count-is-all-told k m r e c =
      sym (found-told r) ∙ ap (λ (a : Answer (List Listed)). (nth_reading a).value.found) e ∙ count-is-all k m c

  -- ---- by order and by slot: each entry is what its slot holds, and is present

  pub slot-is-nth : (k : ℕ) (e : Listed) → nth_answer B xs k ≡ accepted (e ∷ []) → slot_read B xs e.slot ≡ accepted (record { present = true; partition = e.partition })
  slot-is-nth k e q =
      let r = nth-told k e q in
      let arr : List ℕ = (tables B xs).front.array in
      let s : ℕ = get_or (present_slots (tables B xs)) k 0 in
      let g = slot-range B xs k r.below in
      let c = number-of (slot_is B xs (judged-none tt _ r.checked) s) ∙ when-none _ (plain 18) (slot-good B xs k refl (λ z. omega (arith, g.0))) in
      subst (λ (d : Listed). slot_read B xs d.slot ≡ accepted (record { present = true; partition = d.partition })) r.told
      (judged-none _ _ c
      ∙ ap (λ (t : Bool). accepted (record { present = t; partition = entry_at arr (entry_place 0 (s - 1)) }))
      (ap (λ (x : List ℕ). not (all_zero x)) (entry-place arr (s - 1)) ∙ g.2))
