-- The first slot that differs (`differs` in specs/Check): where two arrays are not the same, it is one of the card's, both agree at every slot before it, and they differ at it.
-- No contract cites this file. Assumes nothing.
use mathlib.Core.Path.{◌≡◌, sym, ap, ◌∙◌}
use mathlib.Core.Bool.{true, false, not}
use mathlib.Core.List.{List}
use Prim.Native.Nat.{ℕ, ◌+◌, ◌*◌, ◌-◌, ◌/◌, ◌%◌, ◌≤◌, ◌<◌}
use native.Mathlib.Nat.{div-add-mod', mod-lt, div-lt_iff_lt-mul}
use native.Mathlib.Omega.{arith}
use borrow.Author.Tests.{not-true, not-false}
use lib.ListN.{length, get_or}
use lib.Seq.{ext_get_or}
use Rattle.units.specs.Bytes.{same}
use Rattle.units.proofs.Lists.{get_d_part}
use Rattle.units.proofs.Laws.{same_true, same_refl}
use Rattle.tables.specs.Entries.{entry}
use Rattle.tables.specs.Check.{differs}
use Rattle.tables.proofs.Orders.{split, below-lowest, at-lowest, lowest-none, lowest-is}

-- byte i of an array is byte i % 128 of entry i / 128
by-entry : (x : List ℕ) (i : ℕ) → get_or x i 0 ≡ get_or (entry x (i / 128)) (i % 128) 0
unfolding entry
by-entry x i =
    let e : i ≡ 128 * (i / 128) + i % 128 = omega (arith, div-add-mod' i 128) in
    ap (λ (j : ℕ). get_or x j 0) e ∙ sym (get_d_part x (128 * (i / 128)) 128 (i % 128) (mod-lt i (omega arith)))

all_same : (x y : List ℕ) → length x ≡ 16384 → length y ≡ 16384 → ((k : ℕ) → k < 128 → same (entry x k) (entry y k) ≡ true) → x ≡ y
all_same x y p q h =
    ext_get_or 0 x y (p ∙ sym q)
    (λ i l. by-entry x i ∙ ap (λ (z : List ℕ). get_or z (i % 128) 0) (same_true _ _ (h (i / 128) ((div-lt_iff_lt-mul (omega arith)).1 (omega (arith, p))))) ∙ sym (by-entry y i))

differs-below : (x y : List ℕ) → length x ≡ 16384 → length y ≡ 16384 → same x y ≡ false → differs x y < 128
unfolding differs
differs-below x y p q f =
    split 128 (differs x y)
    (λ h. absurd (unlike (sym f ∙ ap (same x) (sym (all_same x y p q (λ k l. not-false _ (below-lowest 128 (λ (k : ℕ). not (same (entry x k) (entry y k))) k (omega arith))))) ∙ same_refl x)))
    (λ h. h)
  where
    unlike : false ≡ true → ⊥
    unlike e = let o : ◌≡◌ {A = ℕ} 0 1 = cc in omega arith

-- what the slot that 17 names tells of the two arrays
pub record FirstDiffers (x y : List ℕ) (s : ℕ) : Type 0 where
  pub one : 1 ≤ s
  pub most : s ≤ 128
  pub before : (k : ℕ) → k + 1 < s → same (entry x k) (entry y k) ≡ true
  pub here : same (entry x (s - 1)) (entry y (s - 1)) ≡ false

pub first-differs : (x y : List ℕ) → length x ≡ 16384 → length y ≡ 16384 → same x y ≡ false → FirstDiffers x y (differs x y + 1)
unfolding differs
first-differs x y p q f =
    let l : differs x y < 128 = differs-below x y p q f in
    let e : differs x y + 1 - 1 ≡ differs x y = omega arith in
    record {
      one = omega arith;
      most = omega (arith, l);
      before = λ k h. not-false _ (below-lowest 128 (λ (i : ℕ). not (same (entry x i) (entry y i))) k (omega arith));
      here = ap (λ (i : ℕ). same (entry x i) (entry y i)) e ∙ not-true _ (at-lowest 128 (λ (i : ℕ). not (same (entry x i) (entry y i))) l);
    }

-- ---- a loop over the slots

module _ (x y : List ℕ) where
  pub differ-more : (j : ℕ) → ((i : ℕ) → i < j → same (entry x i) (entry y i) ≡ true) → same (entry x j) (entry y j) ≡ true
      → (i : ℕ) → i < j + 1 → same (entry x i) (entry y i) ≡ true
  differ-more j low q i h = split j i (λ a. let d : j ≡ i = omega arith in rw d at q) (λ a. low i a)

  pub differ-first : (j : ℕ) → j < 128 → ((i : ℕ) → i < j → same (entry x i) (entry y i) ≡ true) → same (entry x j) (entry y j) ≡ false → j ≡ differs x y
  unfolding differs
  differ-first j h low q = lowest-is 128 (λ (i : ℕ). not (same (entry x i) (entry y i))) j h (λ i l. ap not (low i l)) (ap not q)

  pub differ-none : (j : ℕ) → 128 ≤ j → ((i : ℕ) → i < j → same (entry x i) (entry y i) ≡ true) → 128 ≡ differs x y
  unfolding differs
  differ-none j h low = sym (lowest-none 128 (λ (i : ℕ). not (same (entry x i) (entry y i))) (λ i q. ap not (low i (omega arith))))
