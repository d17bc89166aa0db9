-- The laws of the count and of the two rows: what is left from a block on, and how one run goes into its places. No contract cites this file. Assumes nothing.
use mathlib.Core.Path.{◌≡◌, sym, ap, ◌∙◌, subst}
use mathlib.Core.List.{List, [], ◌∷◌, map}
use Prim.Native.Nat.{ℕ, ◌+◌, ◌≤◌, ◌<◌}
use native.Mathlib.Numerals.{add-one}
use native.Mathlib.Omega.{arith}
use borrow.Author.Tests.{lt-ltb, le-ltb}
use lib.Dec.{ltb}
use lib.ListN.{length, set, drop_of_length-le}
use lib.Seq.{sets}
use Rattle.units.specs.Answer.{pick}
use Rattle.units.specs.Bytes.{part}
use Rattle.tables.specs.Places.{first_usable_of}
use Rattle.tables.specs.Lens.{copy_in}
use Rattle.tables.proofs.Orders.{split}
use Rattle.tables.proofs.Good.{room-ok}
use Rattle.ground.specs.declared.inner.Gap.{Gap}
use Rattle.ground.specs.Ground.{Run, runs}
use Rattle.ground.specs.Search.{Checked, At, Next, left, front_runs}
use Rattle.ground.proofs.SearchLaws.{entries-in, at-start}
use Rattle.ground.proofs.Few.{runs-129}

abbrev pub run_of : Gap → Run
run_of g = record { start = g.start.0; blocks = g.blocks }

-- a run that was found and those behind it, or none
unfoldable pub rest : ℕ → ℕ → List ℕ → Gap → List Run
rest B n arr g = pick (ltb 0 g.blocks) (run_of g ∷ left B n arr g.after.0) []

module _ (B n : ℕ) (arr : List ℕ) where
  pub rest_some : (g : Gap) → (g.blocks ≡ 0 → ⊥) → rest B n arr g ≡ run_of g ∷ left B n arr g.after.0
  unfolding rest
  rest_some g d = split 1 g.blocks (λ h. rw (lt-ltb 0 g.blocks (omega arith))) (λ h. absurd (d (omega arith)))

  pub rest-none : (g : Gap) → g.blocks ≡ 0 → rest B n arr g ≡ []
  unfolding rest
  rest-none g e = rw (le-ltb 0 g.blocks (omega arith))

  pub next-rest : {x : ℕ} {g : Gap} → Next B n arr x g → rest B n arr g ≡ left B n arr x
  next-rest {x} {g} s = split 1 g.blocks (λ h. rest_some g (λ z. omega arith) ∙ sym (s.some (omega arith)).0) (λ h. rest-none g (omega arith) ∙ sym (s.none (omega arith)))

  -- where any run is left, one is found
  pub next-some : {x : ℕ} {g : Gap} → Next B n arr x g → 0 < length (left B n arr x) → left B n arr x ≡ run_of g ∷ left B n arr g.after.0
  next-some {x} {g} s h =
      split 1 g.blocks (λ z. (s.some (omega arith)).0)
      (λ z. let o : length (left B n arr x) ≡ 0 = ap length (s.none (omega arith)) in absurd (omega arith))

-- ---- the whole card

module _ (B n : ℕ) (ys : List ℕ) where
  -- from the first usable block on all runs are left
  pub all_left : {x : ℕ} {at : ℕ} → x ≡ first_usable_of B → at ≡ B → left B n (part ys at 16384) x ≡ front_runs B n ys
  unfolding runs copy_in
  all_left e q = rw (e, q)

  module _ (k : Checked B n ys B) where
    pub checked-at : {at : ℕ} → at ≡ B → Checked B n ys at
    checked-at e = subst (Checked B n ys) (sym e) k

    pub starts-at : {x at : ℕ} → x ≡ first_usable_of B → at ≡ B → At B n (part ys at 16384) x
    starts-at {x} {at} e q =
        subst (λ (x : ℕ). At B n (part ys at 16384) x) (sym e)
        (at-start B n (part ys at 16384) (entries-in B n ys at (checked-at q)) (room-ok B n k.room).order)

    -- the count fits
    pub count-few : length (front_runs B n ys) ≤ 129
    unfolding copy_in
    count-few = runs-129 B n (part ys B 16384) (entries-in B n ys B k) (room-ok B n k.room).order

-- ---- one run into a row

pub row_more : (h : Run → ℕ) (s : List ℕ) (i : ℕ) {r : Run} {l m : List Run} → l ≡ r ∷ m → sets (set s i (h r)) (i + 1) (map h m) ≡ sets s i (map h l)
row_more h s i e = rw (add-one, e)

pub row-none : (h : Run → ℕ) (s : List ℕ) (i : ℕ) (l : List Run) → length l ≤ 0 → sets s i (map h l) ≡ s
row-none h s i l e = let n : l ≡ [] = drop_of_length-le l e in rw n
