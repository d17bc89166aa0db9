-- Which slot 22 and 25 carry: another than the one that is put, which shares a block or has the GUID, and the lowest such. No contract cites this file. Assumes nothing.
use mathlib.Core.Path.{◌≡◌, subst}
use mathlib.Core.Bool.{Bool, true, false}
use mathlib.Core.List.{List}
use Prim.Native.Nat.{ℕ, ◌<◌}
use native.Mathlib.Omega.{arith}
use borrow.Author.Tests.{ne_eqb, ltb-true, eq-eqb}
use lib.Dec.{eqb, ltb}
use Rattle.units.specs.Answer.{pick}
use Rattle.tables.specs.Checks.{lowest}
use Rattle.tables.specs.Entries.{entry, overlaps, bears, first_twin}
use Rattle.card.specs.Calls.{first_overlap}
use Rattle.tables.proofs.Orders.{below-lowest, at-lowest}

-- j is the lowest place but k that passes a test
pub record Lowest (f : ℕ → Bool) (k j : ℕ) : Type 0 where
  pub within : j < 128
  pub other : j ≡ k → ⊥
  pub meets-it : f j ≡ true
  pub none-lower : (i : ℕ) → i < j → (i ≡ k → ⊥) → f i ≡ false

lowest-other : (f : ℕ → Bool) (k : ℕ) → lowest 128 (λ (j : ℕ). pick (eqb j k) false (f j)) < 128 → Lowest f k (lowest 128 (λ (j : ℕ). pick (eqb j k) false (f j)))
lowest-other f k l =
    let a = at-lowest 128 (λ (j : ℕ). pick (eqb j k) false (f j)) l in
    record {
      within = l;
      other = λ q. (yes (eqb (lowest 128 (λ (j : ℕ). pick (eqb j k) false (f j))) k) _ a).0 (eq-eqb _ k q);
      meets-it = (yes (eqb (lowest 128 (λ (j : ℕ). pick (eqb j k) false (f j))) k) _ a).1;
      none-lower = λ i p d. subst (λ (b : Bool). pick b false (f i) ≡ false) (ne_eqb i k d) (below-lowest 128 (λ (j : ℕ). pick (eqb j k) false (f j)) i p);
    }
  where
    yes : (b c : Bool) → pick b false c ≡ true → (b ≡ true → ⊥) × (c ≡ true)
    yes true c q = (λ _. let z : ◌≡◌ {A = ℕ} 0 1 = cc in omega arith, let z : ◌≡◌ {A = ℕ} 0 1 = cc in absurd (omega arith))
    yes false c q = (λ r. let z : ◌≡◌ {A = ℕ} 0 1 = cc in omega arith, q)

-- the slot of 22 is used and shares a block
pub overlap-lowest : (arr : List ℕ) (k : ℕ) (e : List ℕ) → ltb (first_overlap arr k e) 128 ≡ true → Lowest (λ (j : ℕ). overlaps e (entry arr j)) k (first_overlap arr k e)
unfolding first_overlap
overlap-lowest arr k e h = lowest-other (λ (j : ℕ). overlaps e (entry arr j)) k (ltb-true _ _ h)

-- the slot of 25 is used and has the GUID
pub twin-lowest : (arr : List ℕ) (k : ℕ) (g : List ℕ) → ltb (first_twin arr k g) 128 ≡ true → Lowest (λ (j : ℕ). bears g (entry arr j)) k (first_twin arr k g)
unfolding first_twin
twin-lowest arr k g h = lowest-other (λ (j : ℕ). bears g (entry arr j)) k (ltb-true _ _ h)
