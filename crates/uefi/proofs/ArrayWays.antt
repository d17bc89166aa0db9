-- The ways out of the calls on an array, one law for each. All that is known of an entry size is its range. No contract cites this file. Assumes nothing.
use mathlib.Core.Path.{◌≡◌, refl, sym, ap, ◌∙◌}
use mathlib.Core.Bool.{Bool, true, false, not, ◌||◌}
use mathlib.Core.List.{List, [], ◌∷◌}
use Prim.Native.Nat.{ℕ, ◌+◌, ◌*◌, ◌-◌, ◌^◌, ◌≤◌, ◌<◌}
use native.Mathlib.Omega.{arith}
use lib.Dec.{eqb, ltb, leb}
use lib.ListN.{length, take}
use borrow.Author.Tests.{eq-eqb, ne_eqb, leb-false, eqb-true, ltb-false, not-false}
use Rattle.units.specs.declared.BytePlace.{BytePlace}
use Rattle.units.specs.declared.why.Why.{Why}
use Rattle.units.specs.Answer.{Answer, accepted, refused, refuse, pick, and_then}
use Rattle.units.specs.Bytes.{part}
use Rattle.units.specs.Places.{good_size, inside_or_empty, array_place_of}
use Rattle.units.proofs.Laws.{by-pick}
use Rattle.crc32.specs.Crc.{crc}
use Rattle.header.specs.declared.Header.{Header}
use Rattle.header.specs.Writing.{array_bytes, parts_sum}
use Rattle.partition.specs.declared.Partition.{Partition}
use Rattle.partition.specs.Format.{nil_type_at, entry_at, zero_partition}
use Rattle.rows.specs.Slots.{slots_from, place_each, typed_each}
use Rattle.rows.proofs.Slots.{entry-within}
use Rattle.uefi.specs.Sizes.{good_each}
use Rattle.uefi.specs.Array.{array_by_uefi, after_by_uefi, place_by_uefi, held_at, entry_by_uefi}
use Rattle.uefi.proofs.Each.{each-range}

-- ---- where an array stands

module _ (xs : List ℕ) (h : Header) (b : ℕ) where
  -- what an array's sum tells of its start
  pub sum_fits : {x : ℕ} → parts_sum xs h b ≡ accepted x → h.part_start.0 * b < 2 ^ 64
  unfolding parts_sum
  sum_fits {x} =
      by-pick Q (not (good_size b)) _ _ (λ _ e. never e)
      (λ _. by-pick Q (leb (2 ^ 64) (h.part_start.0 * b)) _ _ (λ _ e. never e)
      (λ o _. leb-false (2 ^ 64) (h.part_start.0 * b) o))
    where
      Q : Answer ℕ → Type 0
      Q a = a ≡ accepted x → h.part_start.0 * b < 2 ^ 64

      never : {w : Why} → refused w ≡ accepted x → h.part_start.0 * b < 2 ^ 64
      never e = absurd (let z : ◌≡◌ {A = ℕ} 0 1 = cc in omega arith)

  module _ {good : Bool} (g : good ≡ good_size b) where
    pub array_size : not good ≡ true → refuse 1 ≡ array_by_uefi xs h b
    unfolding array_by_uefi
    array_size t = rw (← g, t)

    module _ {each : Bool} (t : not good ≡ false) (f : each ≡ good_each h.part_size) where
      pub array-each : not each ≡ true → refuse 7 ≡ array_by_uefi xs h b
      unfolding array_by_uefi
      array-each u = rw (← g, t, ← f, u)

      module _ (u : not each ≡ false) where
        -- behind 1 and 7 the header's own sum of the array has the refusals that are left
        by-sum : array_by_uefi xs h b
            ≡ and_then (parts_sum xs h b) (λ x. pick (not (eqb x h.crc32_parts)) (refuse 6) (accepted (record { 0 = h.part_start.0 * b })))
        unfolding array_by_uefi parts_sum
        by-sum = rw (← g, t, ← f, u) (go (leb (2 ^ 64) p) (not (inside_or_empty (length xs) p (array_bytes h))))
          where
            p : ℕ
            p = h.part_start.0 * b

            then : ℕ → Answer BytePlace
            then x = pick (not (eqb x h.crc32_parts)) (refuse 6) (accepted (record { 0 = p }))

            go : (s i : Bool)
                → pick s (refuse 3) (pick i (refuse 2) (then (crc (part xs p (array_bytes h)))))
                ≡ and_then (pick s (refuse 3) (pick i (refuse 2) (accepted (crc (part xs p (array_bytes h)))))) then
            go true i = refl
            go false true = refl
            go false false = refl

        pub array-unsummed : {w : Why} → parts_sum xs h b ≡ refused w → refused w ≡ array_by_uefi xs h b
        array-unsummed e = sym (by-sum ∙ rw e)

        pub array-other : {x : ℕ} → parts_sum xs h b ≡ accepted x → (x ≡ h.crc32_parts → ⊥) → refuse 6 ≡ array_by_uefi xs h b
        array-other {x} e n = sym (by-sum ∙ rw (e, ne_eqb x h.crc32_parts n))

        pub array-good : {x : ℕ} {p : BytePlace} → parts_sum xs h b ≡ accepted x → x ≡ h.crc32_parts → p ≡ record { 0 = h.part_start.0 * b }
            → accepted p ≡ array_by_uefi xs h b
        array-good {x} e n q = ap accepted q ∙ sym (by-sum ∙ rw (e, eq-eqb x h.crc32_parts n))

-- what an accepted array tells
pub record ArrayAt (xs : List ℕ) (h : Header) (b at : ℕ) : Type 0 where
  pub good : good_size b ≡ true
  pub each : good_each h.part_size ≡ true
  pub least : 128 ≤ h.part_size
  pub fits : h.part_start.0 * b < 2 ^ 64
  pub place : at ≡ h.part_start.0 * b
  pub within : inside_or_empty (length xs) at (array_bytes h) ≡ true
  pub sum : crc (part xs at (array_bytes h)) ≡ h.crc32_parts

pub array_tells : (xs : List ℕ) (h : Header) (b : ℕ) (p : BytePlace) → array_by_uefi xs h b ≡ accepted p → ArrayAt xs h b p.0
unfolding array_by_uefi
array_tells xs h b p =
    by-pick Q (not (good_size b)) _ _ (λ _ e. never e)
    (λ g. by-pick Q (not (good_each h.part_size)) _ _ (λ _ e. never e)
    (λ s. by-pick Q (leb (2 ^ 64) S) _ _ (λ _ e. never e)
    (λ o. by-pick Q (not (inside_or_empty (length xs) S (array_bytes h))) _ _ (λ _ e. never e)
    (λ i. by-pick Q (not (eqb (crc (part xs S (array_bytes h))) h.crc32_parts)) _ _ (λ _ e. never e)
    (λ c e.
    let q : S ≡ p.0 = cc in
    record {
      good = not-false (good_size b) g;
      each = not-false _ s;
      least = (each-range h.part_size (not-false _ s)).0;
      fits = leb-false (2 ^ 64) S o;
      place = sym q;
      within = rw (← q) (not-false _ i);
      sum = rw (← q) (eqb-true (crc (part xs S (array_bytes h))) h.crc32_parts (not-false _ c));
    })))))
  where
    S : ℕ
    S = h.part_start.0 * b

    Q : Answer BytePlace → Type 0
    Q a = a ≡ accepted p → ArrayAt xs h b p.0

    never : {w : Why} → refused w ≡ accepted p → ArrayAt xs h b p.0
    never e = absurd (let z : ◌≡◌ {A = ℕ} 0 1 = cc in omega arith)

-- ---- where a slot's entry stands

abbrev entry_of : ℕ → BytePlace → ℕ → Answer BytePlace
entry_of each at k = accepted (record { 0 = place_each each at.0 k })

place-by-slot : (xs : List ℕ) (h : Header) (b slot : ℕ)
    → place_by_uefi xs h b slot
    ≡ and_then (array_by_uefi xs h b) (λ at. and_then (array_place_of slot h.num_parts) (entry_of h.part_size at))
unfolding place_by_uefi array_place_of
place-by-slot xs h b slot = go (array_by_uefi xs h b) (ltb slot 1 || ltb h.num_parts slot)
  where
    go : (a : Answer BytePlace) (t : Bool)
        → and_then a (λ at. pick t (refuse 18) (entry_of h.part_size at (slot - 1)))
        ≡ and_then a (λ at. and_then (pick t (refuse 18) (accepted (slot - 1))) (entry_of h.part_size at))
    go (refused w) t = refl
    go (accepted p) true = refl
    go (accepted p) false = refl

or-false : (p q : Bool) → (p || q) ≡ false → (p ≡ false) × (q ≡ false)
or-false true q e = absurd (let z : ◌≡◌ {A = ℕ} 0 1 = cc in omega arith)
or-false false q e = (refl, e)

slot-within : (slot count k : ℕ) → array_place_of slot count ≡ accepted k → k < count
unfolding array_place_of
slot-within slot count k =
    by-pick Q (ltb slot 1 || ltb count slot) _ _ (λ _ e. absurd (let z : ◌≡◌ {A = ℕ} 0 1 = cc in omega arith))
    (λ t e.
    let q : slot - 1 ≡ k = cc in
    let f = or-false (ltb slot 1) (ltb count slot) t in
    omega (arith, ltb-false slot 1 f.0, ltb-false count slot f.1))
  where
    Q : Answer ℕ → Type 0
    Q a = a ≡ accepted k → k < count

module _ (xs : List ℕ) (h : Header) (b slot : ℕ) where
  pub slot-unfound : {w : Why} → array_by_uefi xs h b ≡ refused w → refused w ≡ place_by_uefi xs h b slot
  slot-unfound e = sym (place-by-slot xs h b slot ∙ rw e)

  module _ {p : BytePlace} (e : array_by_uefi xs h b ≡ accepted p) where
    pub slot-refused : {w : Why} → array_place_of slot h.num_parts ≡ refused w → refused w ≡ place_by_uefi xs h b slot
    slot-refused f = sym (place-by-slot xs h b slot ∙ rw (e, f))

    module _ {k : ℕ} (f : array_place_of slot h.num_parts ≡ accepted k) where
      pub slot-found : {q : BytePlace} → q.0 ≡ place_each h.part_size p.0 k → accepted q ≡ place_by_uefi xs h b slot
      slot-found g = ap (λ (x : ℕ). accepted (record { 0 = x })) g ∙ sym (place-by-slot xs h b slot ∙ rw (e, f))

      pub slot-inside : p.0 + k * h.part_size + 128 ≤ length xs
      slot-inside =
          let a = array_tells xs h b p e in
          entry-within (length xs) p.0 h.part_size h.num_parts k a.least a.within (slot-within slot h.num_parts k f)

  -- an entry that is found is inside
  pub entry-inside : {q : BytePlace} → place_by_uefi xs h b slot ≡ accepted q → q.0 + 128 ≤ length xs
  entry-inside {q} g = go (array_by_uefi xs h b) refl (array_place_of slot h.num_parts) refl (sym (place-by-slot xs h b slot) ∙ g)
    where
      go : (a : Answer BytePlace) → array_by_uefi xs h b ≡ a → (s : Answer ℕ) → array_place_of slot h.num_parts ≡ s
          → and_then a (λ at. and_then s (entry_of h.part_size at)) ≡ accepted q → q.0 + 128 ≤ length xs
      go (refused w) e s f i = absurd (let z : ◌≡◌ {A = ℕ} 0 1 = cc in omega arith)
      go (accepted p) e (refused w) f i = absurd (let z : ◌≡◌ {A = ℕ} 0 1 = cc in omega arith)
      go (accepted p) e (accepted k) f i =
          let j : p.0 + k * h.part_size ≡ q.0 = cc in
          omega (arith, slot-inside e f)

  pub read-refused : {w : Why} → place_by_uefi xs h b slot ≡ refused w → refused w ≡ entry_by_uefi xs h b slot
  unfolding entry_by_uefi
  read-refused e = rw e

  pub read_found : {q : BytePlace} → place_by_uefi xs h b slot ≡ accepted q → accepted (held_at xs q.0) ≡ entry_by_uefi xs h b slot
  unfolding entry_by_uefi
  read_found e = rw e

-- what an entry holds, by its type
module _ (xs : List ℕ) (at : ℕ) {t : Bool} (e : t ≡ not (nil_type_at xs at)) where
  nil_is : nil_type_at xs at ≡ not t
  nil_is = sym (twice (nil_type_at xs at)) ∙ ap not (sym e)
    where
      twice : (b : Bool) → not (not b) ≡ b
      twice true = refl
      twice false = refl

  pub held-nil : not t ≡ true → record { present = false; partition = zero_partition } ≡ held_at xs at
  unfolding held_at
  held-nil f = rw (nil_is, f)

  pub held-used : {p : Partition} → not t ≡ false → p ≡ entry_at xs at → record { present = true; partition = p } ≡ held_at xs at
  unfolding held_at
  held-used f g = rw (nil_is, f, g)

-- ---- the next slot

module _ (xs : List ℕ) (h : Header) (b after : ℕ) where
  pub after-refused : {w : Why} → array_by_uefi xs h b ≡ refused w → refused w ≡ after_by_uefi xs h b after
  unfolding after_by_uefi
  after-refused e = rw e

  pub after_given : {p : BytePlace} {l : List ℕ} → array_by_uefi xs h b ≡ accepted p → l ≡ take 1 (slots_from (typed_each xs h.part_size p.0) after (h.num_parts - after)) → accepted l ≡ after_by_uefi xs h b after
  unfolding after_by_uefi
  after_given e f = rw (e, f)
