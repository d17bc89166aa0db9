-- The ways out of the listing's functions, one law for each: what the check and the leaves told, and what the definitions then give. No contract cites this file.
-- Assumes nothing.
use mathlib.Core.Path.{◌≡◌, refl, sym, ap, ◌∙◌}
use mathlib.Core.Bool.{Bool, true, false, not}
use mathlib.Core.List.{List, [], ◌∷◌, map}
use Prim.Native.Nat.{ℕ, zero, suc, ◌+◌, ◌*◌, ◌-◌, ◌≤◌, ◌<◌}
use native.Mathlib.Omega.{arith}
use borrow.Author.Tests.{le-leb, le-ltb}
use lib.ListN.{length, take, drop, get_or, drop_of_length-le, get_or-eq_default}
use lib.Seq.{drop-cons, drop-drop, get_or-drop}
use Rattle.units.specs.declared.why.Why.{Why}
use Rattle.units.specs.declared.Reason.{Reason}
use Rattle.units.specs.Refusals.{why_at, reason_of}
use Rattle.units.proofs.Chains.{past, else-first, judged-none, judged-zero, judged-some, number-of}
use Rattle.units.specs.Answer.{if_zero, when, plain, judged, Answer, accepted, refused}
use Rattle.units.specs.Bytes.{part, all_zero}
use Rattle.units.specs.Places.{inside, inside_or_empty}
use Rattle.partition.specs.declared.Partition.{Partition}
use Rattle.partition.specs.Format.{entry_at}
use Rattle.partition.specs.Array.{Found, entry_place, present, present_from, first_slot}
use Rattle.tables.specs.Lens.{tables}
use Rattle.tables.specs.Check.{room_check, check, check_answer, bad_slot, slot_check}
use Rattle.listing.specs.Listing.{present_slots, listed, count_answer, next_answer, slot_read, nth_answer}
use Rattle.tables.proofs.Orders.{split}
use Rattle.tables.proofs.Room.{Room}
use Rattle.tables.proofs.Good.{room-ok, slot_ok}
use Rattle.checking.proofs.CheckWays.{slot-good as slot-passed, named-slot}
use Rattle.listing.proofs.Scans.{entry-in-image, present-in-image, after-in-image, slots-in-image, entry-place, after_first, from_each}

-- ---- a verdict of the check, and the answer of a call that it comes first in

pub judged-refuses : {A : Type 0} (v : A) (k : Why) {w : Why} → ◌≡◌ {A = Answer Unit} (judged k tt) (refused w) → judged k v ≡ refused w
unfolding judged
judged-refuses {A} v k {w} q = by k.number q
  where
    by : (n : ℕ) → ◌≡◌ {A = Answer Unit} (if_zero n (accepted tt) (refused k)) (refused w) → ◌≡◌ {A = Answer A} (if_zero n (accepted v) (refused k)) (refused w)
    by zero e = absurd (let z : ◌≡◌ {A = ℕ} 0 1 = cc in omega arith)
    by (suc n) e = let y : k ≡ w = cc in ap refused y

pub judged-accepts : {A : Type 0} (v : A) (k : Why) → ◌≡◌ {A = Answer Unit} (judged k tt) (accepted tt) → judged k v ≡ accepted v
judged-accepts v k e = judged-none v k (judged-zero tt k tt e)

-- the check has seen that there is room
pub check-room : (B : ℕ) (xs : List ℕ) → check_answer B xs ≡ accepted tt → (room_check B (length xs)).number ≡ 0
unfolding check
check-room B xs e = else-first (room_check B (length xs)) _ (judged-zero tt (check B (length xs) (tables B xs)) tt e)

-- ---- the leaves: what they read of the image is what the front table has

-- the 128 entries of an array fill it
pub filled : (m : ℕ) → m ≡ 16384 → inside_or_empty m 0 (128 * 128) ≡ true
unfolding inside_or_empty inside
filled m e = rw (le-leb (128 * 128) m (omega arith))

module _ (B : ℕ) (xs : List ℕ) (h : (room_check B (length xs)).number ≡ 0) where
  room : Room B (length xs)
  room = room-ok B (length xs) h

  array-end : B + B + 16384 ≤ length xs
  array-end = omega (arith, room.low, room.seam, room.top)

  pub array-inside : {at : ℕ} → at ≡ B + B → inside_or_empty (length xs) at (128 * 128) ≡ true
  unfolding inside_or_empty inside
  array-inside e = rw (e, le-leb (B + B + 16384) (length xs) array-end)

  pub slot-inside-image : {at : ℕ} (s : ℕ) → bad_slot s ≡ false → at ≡ B + B + 128 * (s - 1) → at + 128 ≤ length xs
  slot-inside-image s k e = omega (arith, array-end, (slot_ok s k).1, e)

module _ (B : ℕ) (xs : List ℕ) {at : ℕ} where
  pub counted : {r : ℕ} → at ≡ B + B → r ≡ length (present_from xs at 0 128) → r ≡ length (present_slots (tables B xs))
  counted e q = q ∙ ap (λ (j : ℕ). length (present_from xs j 0 128)) e ∙ sym (ap length (slots-in-image B (length xs) xs))

  pub next-found : {r : List ℕ} (after : ℕ) → at ≡ B + B → r ≡ take 1 (present_from xs at after (128 - after))
      → r ≡ take 1 (present_from (tables B xs).front.array 0 after (128 - after))
  next-found after e q = q ∙ ap (λ (j : ℕ). take 1 (present_from xs j after (128 - after))) e ∙ sym (ap (take 1) (after-in-image B (length xs) xs after))

  module _ (s : ℕ) (k : bad_slot s ≡ false) (e : at ≡ B + B + 128 * (s - 1)) where
    place : at ≡ entry_place (B + B) (s - 1)
    place = omega (arith, e)

    -- an entry with its presence, as the front table has it
    pub found-read : {r : Found} → r ≡ record { present = not (all_zero (part xs at 128)); partition = entry_at xs at }
        → r ≡ record { present = present (tables B xs).front.array 0 (s - 1); partition = entry_at (tables B xs).front.array (entry_place 0 (s - 1)) }
    found-read q =
        q
        ∙ ap (λ (j : ℕ). record { present = not (all_zero (part xs j 128)); partition = entry_at xs j }) place
        ∙ rw (present-in-image B (length xs) xs (s - 1) (slot_ok s k).1, entry-in-image B (length xs) xs (s - 1) (slot_ok s k).1)

    pub entry_read : {r : Partition} → r ≡ entry_at xs at → r ≡ entry_at (tables B xs).front.array (entry_place 0 (s - 1))
    entry_read q = q ∙ ap (λ (j : ℕ). entry_at xs j) place ∙ sym (entry-in-image B (length xs) xs (s - 1) (slot_ok s k).1)

-- ---- the loop: i used slots are passed, and those after the last of them are left

-- a list that begins with a number, and one that begins with none
begins : (l : List ℕ) {s : ℕ} → s ∷ [] ≡ take 1 l → (s ≡ get_or l 0 0) × (0 < length l)
begins [] e = let z = ap length e in absurd (omega arith)
begins (x ∷ l) e = (ap (λ (r : List ℕ). get_or r 0 0) e, omega arith)

ends-here : (l : List ℕ) → [] ≡ take 1 l → l ≡ []
ends-here [] e = refl
ends-here (x ∷ l) e = let z = ap length e in absurd (omega arith)

module _ (arr : List ℕ) (after : ℕ) where
  pub passed-one : (l : List ℕ) (i : ℕ) {s : ℕ} → s ∷ [] ≡ take 1 (present_from arr 0 after (128 - after)) → drop i l ≡ present_from arr 0 after (128 - after)
      → drop (i + 1) l ≡ present_from arr 0 s (128 - s)
  unfolding first_slot
  passed-one l i {s} e q =
      let r = begins (present_from arr 0 after (128 - after)) e in
      let f = from_each arr 0 (128 - after) after 0 r.1 in
      sym (drop-drop 1 i l)
      ∙ ap (drop 1) (q ∙ after_first arr 0 after (λ z. omega (arith, f.0)))
      ∙ ap (λ (s : ℕ). present_from arr 0 s (128 - s)) (sym r.0)

  pub none_left : (l : List ℕ) (i k : ℕ) → i ≤ k → [] ≡ take 1 (present_from arr 0 after (128 - after)) → drop i l ≡ present_from arr 0 after (128 - after) → [] ≡ take 1 (drop k l)
  none_left l i k h e q =
      let n : drop i l ≡ [] = q ∙ ends-here (present_from arr 0 after (128 - after)) e in
      let j : i + (k - i) ≡ k = omega arith in
      sym (ap (λ (m : ℕ). take 1 (drop m l)) (sym j) ∙ ap (take 1) (sym (drop-drop (k - i) i l)) ∙ ap (λ (m : List ℕ). take 1 (drop (k - i) m)) n ∙ ap (take 1) (drop_of_length-le [] (omega arith)))

-- ---- the calls

module _ (B : ℕ) (xs : List ℕ) {w : Why} (e : check_answer B xs ≡ refused w) where
  pub count-refused : refused w ≡ count_answer B xs
  count-refused = sym (judged-refuses _ _ e)

  pub next-refused : (after : ℕ) → refused w ≡ next_answer B xs after
  next-refused after = sym (judged-refuses _ _ e)

  pub nth-refused : (k : ℕ) → refused w ≡ nth_answer B xs k
  nth-refused k = sym (judged-refuses _ _ e)

module _ (B : ℕ) (xs : List ℕ) (e : check_answer B xs ≡ accepted tt) where
  pub count-given : {r : ℕ} → r ≡ length (present_slots (tables B xs)) → accepted r ≡ count_answer B xs
  count-given q = ap accepted q ∙ sym (judged-accepts _ _ e)

  pub next-given : (after : ℕ) {l : List ℕ} → l ≡ take 1 (present_from (tables B xs).front.array 0 after (128 - after)) → accepted l ≡ next_answer B xs after
  next-given after q = ap accepted q ∙ sym (judged-accepts _ _ e)

  pub slot_is : (s : ℕ) → slot_check B (length xs) (tables B xs) s ≡ when (bad_slot s) (plain 18)
  unfolding slot_check
  slot_is s = sym (past {f = check B (length xs) (tables B xs)} refl (judged-zero tt (check B (length xs) (tables B xs)) tt e) refl)

-- the tests of a call on one slot, and what it reads of the slot
module _ (B : ℕ) (xs : List ℕ) (s : ℕ) {f : Why} (e : f ≡ slot_check B (length xs) (tables B xs) s) where
  pub slot-refused : {r : Reason} → (f.number ≡ 0 → ⊥) → r ≡ reason_of f → refused (why_at r) ≡ slot_read B xs s
  slot-refused {r} d q =
      let n : (slot_check B (length xs) (tables B xs) s).number ≡ 0 → ⊥ = λ z. d (number-of e ∙ z) in
      let w : why_at r ≡ slot_check B (length xs) (tables B xs) s = ap why_at q ∙ ap (λ (x : Why). why_at (reason_of x)) e ∙ (named-slot B (length xs) (tables B xs) s).name n in
      ap refused w ∙ sym (judged-some _ (slot_check B (length xs) (tables B xs) s) n)

  pub slot-tested : f.number ≡ 0 → ((room_check B (length xs)).number ≡ 0) × (bad_slot s ≡ false)
  unfolding check
  slot-tested z =
      let k = slot-passed B (length xs) (tables B xs) s (sym (number-of e) ∙ z) in
      (else-first (room_check B (length xs)) _ k.0, k.1)

  pub slot-given : {g : Found} → f.number ≡ 0
      → g ≡ record { present = present (tables B xs).front.array 0 (s - 1); partition = entry_at (tables B xs).front.array (entry_place 0 (s - 1)) } → accepted g ≡ slot_read B xs s
  slot-given z h = rw (judged-none _ (slot_check B (length xs) (tables B xs) s) (sym (number-of e) ∙ z), entry-place (tables B xs).front.array (s - 1), h)

-- slot k of the listing, or 0
module _ (B : ℕ) (xs : List ℕ) (k : ℕ) where
  -- it is a slot of the array, and its entry is present
  pub slot-range : k < length (present_slots (tables B xs))
      → (0 < get_or (present_slots (tables B xs)) k 0) × (get_or (present_slots (tables B xs)) k 0 ≤ 128) × (present (tables B xs).front.array 0 (get_or (present_slots (tables B xs)) k 0 - 1) ≡ true)
  unfolding present_slots
  slot-range h = from_each (tables B xs).front.array 0 128 0 k h

  -- a slot of the listing is none of those that 18 refuses
  pub slot-good : {s : ℕ} → s ≡ get_or (present_slots (tables B xs)) k 0 → (s ≡ 0 → ⊥) → bad_slot s ≡ false
  slot-good {s} q d =
      split (length (present_slots (tables B xs))) k
      (λ h. absurd (d (q ∙ get_or-eq_default (present_slots (tables B xs)) 0 h)))
      (λ h. let r = slot-range h in rw (le-ltb s 1 (omega (arith, r.0)), le-ltb 128 s (omega (arith, r.1))))

  -- that slot, where the list has it
  nth-at : {s : ℕ} → s ∷ [] ≡ take 1 (drop k (present_slots (tables B xs))) → (s ≡ get_or (present_slots (tables B xs)) k 0) × (k < length (present_slots (tables B xs)))
  nth-at {s} q =
      let l : List ℕ = present_slots (tables B xs) in
      let j : k + 0 ≡ k = omega arith in (
        (begins (drop k l) q).0 ∙ get_or-drop k l 0 0 ∙ ap (λ (m : ℕ). get_or l m 0) j,
        split (length l) k (λ h. let z = ap length (q ∙ ap (take 1) (drop_of_length-le l h)) in absurd (omega arith)) (λ h. h),
      )

  pub nth-good : {s : ℕ} → s ∷ [] ≡ take 1 (drop k (present_slots (tables B xs))) → bad_slot s ≡ false
  nth-good q = let n = nth-at q in let r = slot-range n.1 in slot-good n.0 (λ z. omega (arith, r.0, n.0))

  pub nth-over : check_answer B xs ≡ accepted tt → [] ≡ take 1 (drop k (present_slots (tables B xs))) → accepted [] ≡ nth_answer B xs k
  nth-over e q = ap (λ (l : List ℕ). accepted (map (listed (tables B xs)) l)) q ∙ sym (judged-accepts _ (check B (length xs) (tables B xs)) e)

  pub nth-given : check_answer B xs ≡ accepted tt → {s : ℕ} → s ∷ [] ≡ take 1 (drop k (present_slots (tables B xs))) → {p : Partition} → p ≡ entry_at (tables B xs).front.array (entry_place 0 (s - 1))
      → accepted (record { slot = s; partition = p } ∷ []) ≡ nth_answer B xs k
  nth-given e {s} q f =
      ap (λ (x : Partition). accepted (record { slot = s; partition = x } ∷ [])) f
      ∙ ap (λ (l : List ℕ). accepted (map (listed (tables B xs)) l)) q
      ∙ sym (judged-accepts _ (check B (length xs) (tables B xs)) e)
