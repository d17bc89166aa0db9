-- The laws of the slots that a test finds, over any test, and of entries of any size. No contract cites this file. Assumes nothing.
use mathlib.Core.Path.{◌≡◌, refl, sym, ap, ◌∙◌}
use mathlib.Core.Logic.{◌⊎◌, inl, inr, ⊎_elim}
use mathlib.Core.Bool.{Bool, true, false, not}
use mathlib.Core.List.{List, [], ◌∷◌}
use Prim.Native.Nat.{ℕ, zero, suc, ◌+◌, ◌*◌, ◌-◌, ◌≤◌, ◌<◌}
use native.Mathlib.Nat.{suc-mul, mul-le-mul_right}
use native.Mathlib.Omega.{arith}
use lib.ListN.{take, get_or}
use Rattle.units.specs.Answer.{pick}
use Rattle.units.specs.Places.{inside_or_empty}
use Rattle.partition.specs.Format.{nil_type_at}
use Rattle.partition.specs.Array.{present, present_from}
use Rattle.partition.proofs.Ways.{inside-filled}
use Rattle.rows.specs.Slots.{slots_from, first_after, place_each, typed_each}

module _ (u : ℕ → Bool) where
  -- a slot that is used, one that is not, and none left
  pub from-yes : (k count : ℕ) → k < count → u k ≡ true → slots_from u k (count - k) ≡ (k + 1) ∷ slots_from u (k + 1) (count - (k + 1))
  unfolding slots_from
  from-yes k count h e =
      let a : count - k ≡ suc (count - (k + 1)) = omega arith in
      rw (a, e)

  pub from-no : (k count : ℕ) → k < count → u k ≡ false → slots_from u k (count - k) ≡ slots_from u (k + 1) (count - (k + 1))
  unfolding slots_from
  from-no k count h e =
      let a : count - k ≡ suc (count - (k + 1)) = omega arith in
      rw (a, e)

  pub from-none : (k count : ℕ) → count ≤ k → slots_from u k (count - k) ≡ []
  unfolding slots_from
  from-none k count h = let a : count - k ≡ 0 = omega arith in rw a

  -- the first of the slots that are left, if any, is past the array place where they begin
  first_past : (k n : ℕ) → (slots_from u k n ≡ []) ⊎ (k < get_or (slots_from u k n) 0 0)
  unfolding slots_from
  first_past k zero = inl refl
  first_past k (suc n) = go (u k) (first_past (k + 1) n)
    where
      l : List ℕ
      l = slots_from u (k + 1) n

      go : (t : Bool) → (l ≡ []) ⊎ (k + 1 < get_or l 0 0) → (pick t ((k + 1) ∷ l) l ≡ []) ⊎ (k < get_or (pick t ((k + 1) ∷ l) l) 0 0)
      go true i = inr (omega arith)
      go false (inl e) = inl e
      go false (inr h) = inr (omega arith)

  -- the first used slot alone in a list: there is none where the slot is 0
  pub next-none : (count after : ℕ) → first_after u count after ≡ 0 → take 1 (slots_from u after (count - after)) ≡ []
  unfolding first_after
  next-none count after e = ⊎_elim (λ p. rw p) (λ l. absurd (omega arith)) (first_past after (count - after))

  pub next-some : (count after : ℕ) → (first_after u count after ≡ 0 → ⊥) → take 1 (slots_from u after (count - after)) ≡ first_after u count after ∷ []
  unfolding first_after
  next-some count after e = head-some (slots_from u after (count - after)) e
    where
      head-some : (l : List ℕ) → (get_or l 0 0 ≡ 0 → ⊥) → take 1 l ≡ get_or l 0 0 ∷ []
      head-some [] h = absurd (h refl)
      head-some (x ∷ l) h = refl

-- the present slots of document 01 are these, for its own test
pub first-edition : (xs : List ℕ) (at k n : ℕ) → present_from xs at k n ≡ slots_from (present xs at) k n
unfolding present_from slots_from
first-edition xs at k zero = refl
first-edition xs at k (suc n) = rw (first-edition xs at (k + 1) n)

-- ---- entries of any size from 128 bytes on

-- an entry of the array and its 128 bytes are inside the array's bytes
pub entry-room : (k count each : ℕ) → k < count → 128 ≤ each → k * each + 128 ≤ count * each
entry-room k count each h l =
    let m : suc k * each ≤ count * each = mul-le-mul_right each h in
    omega (arith, m, suc-mul k each)

-- the first 128 bytes of each entry are inside, whatever the size
pub entry-within : (len at each count k : ℕ) → 128 ≤ each → inside_or_empty len at (count * each) ≡ true → k < count → at + k * each + 128 ≤ len
entry-within len at each count k g i h =
    let r : k * each + 128 ≤ count * each = entry-room k count each h g in
    omega (arith, r, inside-filled len at (count * each) i (λ z. omega (arith, r)))

pub used-here : (xs : List ℕ) (each at k : ℕ) {p : ℕ} {r : Bool} → p ≡ place_each each at k → r ≡ not (nil_type_at xs p) → typed_each xs each at k ≡ r
unfolding typed_each
used-here xs each at k e f = ap (λ (p : ℕ). not (nil_type_at xs p)) (sym e) ∙ sym f
