-- The laws of tests over all places, from `specs/Checks`, and of cases on numbers and tests. No contract cites this file. Assumes nothing.
use mathlib.Core.Path.{◌≡◌, refl, sym, ap, ◌∙◌, subst}
use mathlib.Core.Logic.{◌⊎◌, inl, inr}
use mathlib.Core.Bool.{Bool, true, false, not, ◌&&◌, ◌||◌}
use mathlib.Core.List.{List}
use Prim.Native.Nat.{ℕ, zero, suc, ◌+◌, ◌-◌, ◌≤◌, ◌<◌}
use native.Mathlib.Nat.{lt_of_not-le}
use native.Mathlib.Decide.{dec_le}
use native.Mathlib.Omega.{arith}
use borrow.Author.Tests.{eqb-true, eqb-false, ne_eqb, not-true}
use lib.Dec.{eqb}
use Rattle.units.specs.Answer.{pick}
use Rattle.units.specs.Bytes.{same}
use Rattle.units.proofs.Laws.{same_true, same_refl}
use Rattle.tables.specs.Checks.{all, lowest}

-- one order or the other
pub split {ℓ} : {X : Type ℓ} (a b : ℕ) → (a ≤ b → X) → (b < a → X) → X
split a b f g = elim (dec_le a b) [ yes h ↦ f h | no h ↦ g (lt_of_not-le h) ]

-- i is not among the n places from at on
abbrev pub Outside : ℕ → ℕ → ℕ → Type 0
Outside at n i = (i < at) ⊎ (at + n ≤ i)

-- i is outside, or so many places in
pub side {ℓ} : {X : Type ℓ} (at n i : ℕ) → (Outside at n i → X) → ((k : ℕ) → k < n → i ≡ at + k → X) → X
side at n i out in' =
    split at i (λ h. split (at + n) i (λ h2. out (inr h2)) (λ h2. in' (i - at) (omega arith) (omega arith))) (λ h. out (inl h))

-- what holds of both picks holds of the pick; each side may use what the test says
pub by-pick {ℓ ℓ'} : {X : Type ℓ} (P : X → Type ℓ') (t : Bool) (a b : X) → (t ≡ true → P a) → (t ≡ false → P b) → P (pick t a b)
by-pick P true a b f g = f refl
by-pick P false a b f g = g refl

-- cases on a test, with the equation kept
pub by-test {ℓ} : {X : Type ℓ} (t : Bool) → (t ≡ true → X) → (t ≡ false → X) → X
by-test true f g = f refl
by-test false f g = g refl

-- ---- and, or, in parts

pub both : {a b : Bool} → a ≡ true → b ≡ true → a && b ≡ true
both {a} {b} p q = ap (λ (x : Bool). x && b) p ∙ q

pub and_left : (a b : Bool) → a && b ≡ true → a ≡ true
and_left true b h = refl
and_left false b h = h

pub and_right : (a b : Bool) → a && b ≡ true → b ≡ true
and_right true b h = h
and_right false b h = let z : ◌≡◌ {A = ℕ} 0 1 = cc in absurd (omega arith)

pub or_left : (a b : Bool) → a || b ≡ false → a ≡ false
or_left false b h = refl
or_left true b h = h

pub or_right : (a b : Bool) → a || b ≡ false → b ≡ false
or_right false b h = h
or_right true b h = let z : ◌≡◌ {A = ℕ} 0 1 = cc in absurd (omega arith)

pub neither : {a b : Bool} → a ≡ false → b ≡ false → a || b ≡ false
neither {a} {b} x y = ap (λ (c : Bool). c || b) x ∙ y

-- two tests that follow from each other are one
both_ways : (s t : Bool) → (s ≡ true → t ≡ true) → (t ≡ true → s ≡ true) → s ≡ t
both_ways true t f g = sym (f refl)
both_ways false true f g = g refl
both_ways false false f g = refl

pub same_of : {xs ys : List ℕ} → xs ≡ ys → same xs ys ≡ true
same_of {xs} {ys} e = ap (λ (l : List ℕ). same xs l) (sym e) ∙ same_refl xs

pub same-comm : (xs ys : List ℕ) → same xs ys ≡ same ys xs
same-comm xs ys = both_ways _ _ (λ t. same_of (sym (same_true xs ys t))) (λ t. same_of (sym (same_true ys xs t)))

-- ---- a test of every k below n

pub all-at : (n : ℕ) (f : ℕ → Bool) → all n f ≡ true → (k : ℕ) → k < n → f k ≡ true
unfolding all
all-at zero f h k l = absurd (omega arith)
all-at (suc n) f h k l =
    by-test (eqb k n)
    (λ e. ap f (eqb-true k n e) ∙ and_left (f n) (all n f) h)
    (λ e. let d = eqb-false k n e in all-at n f (and_right (f n) (all n f) h) k (omega arith))

pub all_of : (n : ℕ) (f : ℕ → Bool) → ((k : ℕ) → k < n → f k ≡ true) → all n f ≡ true
unfolding all
all_of zero f h = refl
all_of (suc n) f h = both (h n (omega arith)) (all_of n f (λ k l. h k (omega arith)))

-- one place that fails is enough
pub all-fails : (n : ℕ) (f : ℕ → Bool) (k : ℕ) → k < n → f k ≡ false → all n f ≡ false
all-fails n f k h e = by-test (all n f) (λ t. let o : ◌≡◌ {A = Bool} true false = sym (all-at n f t k h) ∙ e in absurd (let p : ◌≡◌ {A = ℕ} 0 1 = cc in omega arith)) (λ t. t)

-- a loop over the places, from its start to its end
pub all_start : (f : ℕ → Bool) → all 0 f ≡ true
unfolding all
all_start f = refl

pub all_more : (k : ℕ) (f : ℕ → Bool) → all k f ≡ true → f k ≡ true → all (k + 1) f ≡ true
all_more k f h e = all_of (k + 1) f (λ j l. by-test (eqb j k) (λ q. ap f (eqb-true j k q) ∙ e) (λ q. let d = eqb-false j k q in all-at k f h j (omega arith)))

pub all_end : (k n : ℕ) (f : ℕ → Bool) → k ≤ n → n ≤ k → all k f ≡ true → true ≡ all n f
all_end k n f p q h = let e : k ≡ n = omega arith in sym (subst (λ (i : ℕ). all i f ≡ true) e h)

-- ---- a test that no two different places pass

module _ (n : ℕ) (f : ℕ → ℕ → Bool) where
  pub pairs-at : all n (λ (j : ℕ). all n (λ (k : ℕ). pick (eqb j k) true (not (f j k)))) ≡ true → (j k : ℕ) → j < n → k < n → (j ≡ k → ⊥) → f j k ≡ false
  pairs-at h j k p q d =
      not-true _
      (subst (λ (t : Bool). pick t true (not (f j k)) ≡ true) (ne_eqb j k d)
      (all-at n (λ (k : ℕ). pick (eqb j k) true (not (f j k))) (all-at n (λ (j : ℕ). all n (λ (k : ℕ). pick (eqb j k) true (not (f j k)))) h j p) k q))

  pub pairs_of : ((j k : ℕ) → j < n → k < n → (j ≡ k → ⊥) → f j k ≡ false) → all n (λ (j : ℕ). all n (λ (k : ℕ). pick (eqb j k) true (not (f j k)))) ≡ true
  pairs_of h =
      all_of n _ (λ j p. all_of n _ (λ k q. by-pick (λ (b : Bool). b ≡ true) (eqb j k) _ _ (λ _. refl) (λ d. ap not (h j k p q (eqb-false j k d)))))

  -- it is enough to look at those with the second below the first, where the test does not tell its two sides apart
  pub triangle : ((j k : ℕ) → f j k ≡ f k j)
      → all n (λ (k : ℕ). all k (λ (j : ℕ). not (f k j))) ≡ all n (λ (j : ℕ). all n (λ (k : ℕ). pick (eqb j k) true (not (f j k))))
  triangle comm =
      both_ways _ _
      (λ t. pairs_of (λ j k p q d.
      split j k
      (λ o. comm j k ∙ not-true _ (all-at k (λ (j : ℕ). not (f k j)) (all-at n (λ (k : ℕ). all k (λ (j : ℕ). not (f k j))) t k q) j (omega arith)))
      (λ o. not-true _ (all-at j (λ (k : ℕ). not (f j k)) (all-at n (λ (k : ℕ). all k (λ (j : ℕ). not (f k j))) t j p) k o))))
      (λ t. all_of n _ (λ k q. all_of k _ (λ j o. ap not (pairs-at t k j q (omega arith) (λ e. omega arith)))))

-- ---- the lowest place that passes

-- none below the lowest
below_step : (n : ℕ) (f : ℕ → Bool) (k : ℕ) → ((j : ℕ) → j < lowest n (λ (i : ℕ). f (suc i)) → f (suc j) ≡ false) → f 0 ≡ false
    → k < suc (lowest n (λ (i : ℕ). f (suc i))) → f k ≡ false
below_step n f zero r e h = e
below_step n f (suc k) r e h = r k (omega arith)

pub below-lowest : (n : ℕ) (f : ℕ → Bool) (k : ℕ) → k < lowest n f → f k ≡ false
unfolding lowest
below-lowest zero f k h = absurd (omega arith)
below-lowest (suc n) f k h =
    by-test (f 0)
    (λ e. absurd (omega (arith, rw e at h)))
    (λ e. below_step n f k (below-lowest n (λ (i : ℕ). f (suc i))) e (rw e at h))

-- and the lowest passes
pub at-lowest : (n : ℕ) (f : ℕ → Bool) → lowest n f < n → f (lowest n f) ≡ true
unfolding lowest
at-lowest zero f h = absurd (omega arith)
at-lowest (suc n) f h = by-test (f 0) (λ e. rw e e) (λ e. rw e (at-lowest n (λ (j : ℕ). f (suc j)) (omega (arith, rw e at h))))

-- none at all
pub lowest-none : (n : ℕ) (f : ℕ → Bool) → ((k : ℕ) → k < n → f k ≡ false) → lowest n f ≡ n
unfolding lowest
lowest-none zero f h = refl
lowest-none (suc n) f h =
    ap (λ (b : Bool). pick b 0 (suc (lowest n (λ (k : ℕ). f (suc k))))) (h 0 (omega arith))
    ∙ ap suc (lowest-none n (λ (k : ℕ). f (suc k)) (λ k q. h (suc k) (omega arith)))

-- a place that passes, with none below it that does, is the lowest
pub lowest-is : (n : ℕ) (f : ℕ → Bool) (j : ℕ) → j < n → ((i : ℕ) → i < j → f i ≡ false) → f j ≡ true → j ≡ lowest n f
lowest-is n f j h low q =
    split j (lowest n f)
    (λ a. split (lowest n f) j (λ b. omega arith) (λ b. absurd (unlike (sym (below-lowest n f j b) ∙ q))))
    (λ a. absurd (unlike (sym (low (lowest n f) a) ∙ at-lowest n f (omega arith))))
  where
    unlike : false ≡ true → ⊥
    unlike q = let o : ◌≡◌ {A = ℕ} 0 1 = cc in omega arith

-- whether a place counts among those other than k, as code finds it
pub other-is : (j k : ℕ) {m t : Bool} → m ≡ t → not (eqb j k) && m ≡ pick (eqb j k) false t
other-is j k q = by-test (eqb j k) (λ t. rw t) (λ t. rw t q)

-- among those other than k, none passes, read back and forth
module _ (n k : ℕ) (f : ℕ → Bool) where
  pub others-at : n ≤ lowest n (λ (j : ℕ). pick (eqb j k) false (f j)) → (j : ℕ) → j < n → (j ≡ k → ⊥) → f j ≡ false
  others-at h j p d =
      subst (λ (b : Bool). pick b false (f j) ≡ false) (ne_eqb j k d) (below-lowest n (λ (j : ℕ). pick (eqb j k) false (f j)) j (omega arith))

  pub others-of : ((j : ℕ) → j < n → (j ≡ k → ⊥) → f j ≡ false) → lowest n (λ (j : ℕ). pick (eqb j k) false (f j)) ≡ n
  others-of h = lowest-none n _ (λ j q. by-pick (λ (b : Bool). b ≡ false) (eqb j k) _ _ (λ _. refl) (λ d. h j q (eqb-false j k d)))
