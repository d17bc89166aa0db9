-- There is at most one run more than there are used slots, so rows of 129 places always do. No contract cites this file. Assumes nothing.
use mathlib.Core.Path.{◌≡◌, refl, sym, ap, ◌∙◌, subst}
use mathlib.Core.Logic.{⊎_elim}
use mathlib.Core.Bool.{Bool, true, false, ◌&&◌}
use mathlib.Core.List.{List, []}
use Prim.Native.Nat.{ℕ, zero, suc, ◌+◌, ◌-◌, ◌≤◌, ◌<◌}
use native.Mathlib.Omega.{arith}
use borrow.Author.Tests.{eqb-true, eqb-false, le-leb, lt-leb, leb-true}
use lib.Dec.{eqb, leb}
use lib.ListN.{length}
use Rattle.units.specs.Answer.{pick}
use Rattle.tables.specs.Places.{first_usable_of, last_usable_of}
use Rattle.tables.specs.Entries.{entry, used, first_of}
use Rattle.tables.specs.Check.{check}
use Rattle.tables.specs.Lens.{tables}
use Rattle.tables.proofs.Orders.{split, by-test, both, and_left, and_right}
use Rattle.tables.proofs.EntryLaws.{Entries, ok-used}
use Rattle.tables.proofs.Good.{room-ok, check-good}
use Rattle.ground.specs.declared.inner.Span.{Span}
use Rattle.ground.specs.Ground.{Run, free, runs}
use Rattle.ground.specs.Search.{At, Nearest, nearer_of, left}
use Rattle.ground.specs.Answers.{runs_of}
use Rattle.ground.proofs.RunLaws.{step_end}
use Rattle.ground.proofs.SearchLaws.{nearest-none, nearest-more, at-start, Told, told, run-here, run_on}

-- how many of the first k slots are used, and how many of them start at x or after it
unfoldable pub used_count : List ℕ → ℕ → ℕ
used_count arr zero = 0
used_count arr (suc k) = pick (used (entry arr k)) 1 0 + used_count arr k

unfoldable used_after : List ℕ → ℕ → ℕ → ℕ
used_after arr x zero = 0
used_after arr x (suc k) = pick (used (entry arr k) && leb x (first_of (entry arr k))) 1 0 + used_after arr x k

one-most : (t : Bool) → pick t 1 0 ≤ 1
one-most true = omega arith
one-most false = omega arith

one-and : (s t : Bool) → pick (s && t) 1 0 ≤ pick s 1 0
one-and true t = one-most t
one-and false t = omega arith

pub used-most : (arr : List ℕ) (k : ℕ) → used_count arr k ≤ k
unfolding used_count
used-most arr zero = omega arith
used-most arr (suc k) = omega (arith, used-most arr k, one-most (used (entry arr k)))

after-most : (arr : List ℕ) (x k : ℕ) → used_after arr x k ≤ used_count arr k
unfolding used_count used_after
after-most arr x zero = omega arith
after-most arr x (suc k) = omega (arith, after-most arr x k, one-and (used (entry arr k)) (leb x (first_of (entry arr k))))

one_less : (arr : List ℕ) (x y k : ℕ) → x ≤ y → pick (used (entry arr k) && leb y (first_of (entry arr k))) 1 0 ≤ pick (used (entry arr k) && leb x (first_of (entry arr k))) 1 0
one_less arr x y k h =
    by-test (used (entry arr k) && leb y (first_of (entry arr k)))
    (λ e.
    let u = and_left (used (entry arr k)) _ e in
    let l : y ≤ first_of (entry arr k) = leb-true _ _ (and_right (used (entry arr k)) _ e) in
    let t : used (entry arr k) && leb x (first_of (entry arr k)) ≡ true = both u (le-leb x (first_of (entry arr k)) (omega arith)) in
    rw (e, t) (omega arith))
    (λ e. rw e (omega arith))

after_less : (arr : List ℕ) (x y k : ℕ) → x ≤ y → used_after arr y k ≤ used_after arr x k
unfolding used_after
after_less arr x y zero h = omega arith
after_less arr x y (suc k) h = omega (arith, after_less arr x y k h, one_less arr x y k h)

-- one that starts between x and y is counted from x alone
after_fewer : (arr : List ℕ) (x y k p : ℕ) → x ≤ y → p < k → used (entry arr p) ≡ true → x ≤ first_of (entry arr p) → first_of (entry arr p) < y → used_after arr y k + 1 ≤ used_after arr x k
unfolding used_after
after_fewer arr x y zero p h l u a b = absurd (omega arith)
after_fewer arr x y (suc k) p h l u a b =
    by-test (eqb p k)
    (λ e.
    let d : p ≡ k = eqb-true p k e in
    let v : used (entry arr k) ≡ true = ap (λ (i : ℕ). used (entry arr i)) (sym d) ∙ u in
    let f : first_of (entry arr p) ≡ first_of (entry arr k) = ap (λ (i : ℕ). first_of (entry arr i)) d in
    rw (v, le-leb x (first_of (entry arr k)) (omega (arith, f)), lt-leb y (first_of (entry arr k)) (omega (arith, f))) (omega (arith, after_less arr x y k h)))
    (λ e. let d = eqb-false p k e in omega (arith, after_fewer arr x y k p h (omega arith) u a b, one_less arr x y k h))

-- the nearest of the first k
nearest_of : List ℕ → ℕ → Span → ℕ → Span
nearest_of arr x none zero = none
nearest_of arr x none (suc k) = nearer_of (entry arr k) x (nearest_of arr x none k)

nearest-is : (arr : List ℕ) (x : ℕ) (none : Span) (k : ℕ) → Nearest arr k x none (nearest_of arr x none k)
unfolding nearest_of
nearest-is arr x none zero = nearest-none arr x none
nearest-is arr x none (suc k) =
    let e : k + 1 ≡ suc k = omega arith in
    subst (λ (i : ℕ). Nearest arr i x none (nearer_of (entry arr k) x (nearest_of arr x none k))) e (nearest-more arr k x none (nearest_of arr x none k) (nearest-is arr x none k) refl)

module _ (B n : ℕ) (arr : List ℕ) (g : Entries B n arr) where
  end_none : (x : ℕ) → last_usable_of B n < x → left B n arr x ≡ []
  end_none x h = step_end (free B n arr) x x x (last_usable_of B n + 1) (λ w p q. absurd (omega arith)) (λ w p q. absurd (omega arith)) (omega arith)

  few : (d x : ℕ) → last_usable_of B n + 1 - x ≤ d → At B n arr x → length (left B n arr x) ≤ used_after arr x 128 + 1
  few zero x h a = omega (arith, ap (length {A = Run}) (end_none x (omega arith)))
  few (suc d) x h a =
      split x (last_usable_of B n)
      (λ m.
      let none : Span = record { first = record { 0 = last_usable_of B n + 1 }; last = record { 0 = last_usable_of B n } } in
      let s : Span = nearest_of arr x none 128 in
      let near : Nearest arr 128 x none s = nearest-is arr x none 128 in
      let t : Told B n arr x s = told B n arr g x a m none s refl refl near in
      let y : ℕ = s.last.0 + 1 in
      let one : length (left B n arr x) ≤ length (left B n arr y) + 1 =
      split s.first.0 x
      (λ o. omega (arith, ap (length {A = Run}) (run_on B n arr g x a m none s refl refl near o)))
      (λ o. omega (arith, ap (length {A = Run}) ((run-here B n arr g x a m none s refl refl near o).some (omega arith)).0)) in
      ⊎_elim
      (λ e.
      let q : s.last.0 ≡ last_usable_of B n = ap (λ (s : Span). s.last.0) e in
      omega (arith, one, ap (length {A = Run}) (end_none y (omega arith))))
      (λ k.
      let i = ok-used B n (entry arr k.place) (g.each k.place k.below) k.used in
      omega (
        arith,
        one,
        few d y (omega (arith, t.past, t.high)) t.at,
        after_fewer arr x y 128 k.place (omega (arith, t.past)) k.below k.used (omega (arith, k.from, k.first)) (omega (arith, i.order, k.last)),
      ))
      near.taken)
      (λ m. omega (arith, ap (length {A = Run}) (end_none x m)))

  pub runs-most : first_usable_of B ≤ last_usable_of B n → length (runs B n arr) ≤ used_count arr 128 + 1
  unfolding runs
  runs-most o = omega (arith, few (last_usable_of B n + 1 - first_usable_of B) (first_usable_of B) (omega arith) (at-start B n arr g o), after-most arr (first_usable_of B) 128)

  -- so 129 are the most
  pub runs-129 : first_usable_of B ≤ last_usable_of B n → length (runs B n arr) ≤ 129
  runs-129 o = omega (arith, runs-most o, used-most arr 128)

-- of a card that the check accepts
pub rows-enough : (B : ℕ) (xs : List ℕ) → (check B (length xs) (tables B xs)).number ≡ 0
    → (length (runs_of B (length xs) (tables B xs)) ≤ used_count (tables B xs).front.array 128 + 1) × (length (runs_of B (length xs) (tables B xs)) ≤ 129)
rows-enough B xs h =
    let g = check-good B (length xs) (tables B xs) h in
    let o = (room-ok B (length xs) g.room).order in
    (runs-most B (length xs) (tables B xs).front.array g.entries o, runs-129 B (length xs) (tables B xs).front.array g.entries o)
