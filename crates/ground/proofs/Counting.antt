-- Counting blocks: the free ones by runs, the others by slots. No contract cites this file. Assumes nothing.
use mathlib.Core.Path.{◌≡◌, refl, ap}
use mathlib.Core.Bool.{Bool, true, false, not, ◌&&◌}
use mathlib.Core.List.{List}
use Prim.Native.Nat.{ℕ, zero, suc, ◌+◌, ◌-◌, ◌≤◌, ◌<◌}
use native.Mathlib.Omega.{arith}
use borrow.Author.Tests.{le-leb, lt-leb, leb-true}
use lib.Dec.{leb}
use Rattle.units.specs.Answer.{pick}
use Rattle.tables.specs.Checks.{all}
use Rattle.tables.specs.Places.{first_usable_of, last_usable_of}
use Rattle.tables.specs.Entries.{entry, used, first_of, last_of}
use Rattle.tables.proofs.Orders.{by-test, all_of, and_left, and_right}
use Rattle.tables.proofs.EntryLaws.{Entries, ok-used}
use Rattle.ground.specs.Ground.{covers, free, reach, runs_from, runs}
use Rattle.ground.specs.Facts.{total, used_blocks}
use Rattle.ground.proofs.SearchLaws.{apart}

abbrev one : Bool → ℕ
one t = pick t 1 0

-- how many of m blocks from x on answer true
unfoldable pub count : (ℕ → Bool) → ℕ → ℕ → ℕ
count f x zero = 0
count f x (suc m) = one (f x) + count f (suc x) m

-- ---- by runs

pub count_runs : (f : ℕ → Bool) (t : Bool) (x m : ℕ) → total (runs_from f t x m) + pick t (reach f x m) 0 ≡ count f x m
unfolding runs_from reach count total
count_runs f true x zero = refl
count_runs f false x zero = refl
count_runs f true x (suc m) =
    by-test (f x)
    (λ e. let i : total (runs_from f true (suc x) m) + reach f (suc x) m ≡ count f (suc x) m = count_runs f true (suc x) m in rw e (omega arith))
    (λ e. let i : total (runs_from f false (suc x) m) + 0 ≡ count f (suc x) m = count_runs f false (suc x) m in rw e (omega arith))
count_runs f false x (suc m) =
    by-test (f x)
    (λ e. let i : total (runs_from f true (suc x) m) + reach f (suc x) m ≡ count f (suc x) m = count_runs f true (suc x) m in rw e (omega arith))
    (λ e. let i : total (runs_from f false (suc x) m) + 0 ≡ count f (suc x) m = count_runs f false (suc x) m in rw e (omega arith))

-- ---- sums of tests

pub count_add : (f g h : ℕ → Bool) (x m : ℕ) → ((y : ℕ) → x ≤ y → y < x + m → one (h y) ≡ one (f y) + one (g y)) → count h x m ≡ count f x m + count g x m
unfolding count
count_add f g h x zero e = refl
count_add f g h x (suc m) e = omega (arith, e x (omega arith) (omega arith), count_add f g h (suc x) m (λ y p q. e y (omega arith) (omega arith)))

pub count-all : (f : ℕ → Bool) (x m : ℕ) → ((y : ℕ) → x ≤ y → y < x + m → f y ≡ true) → count f x m ≡ m
unfolding count
count-all f x zero e = refl
count-all f x (suc m) e = let u : f x ≡ true = e x (omega arith) (omega arith) in rw u (omega (arith, count-all f (suc x) m (λ y p q. e y (omega arith) (omega arith))))

pub count_none : (f : ℕ → Bool) (x m : ℕ) → ((y : ℕ) → x ≤ y → y < x + m → f y ≡ false) → count f x m ≡ 0
unfolding count
count_none f x zero e = refl
count_none f x (suc m) e = let u : f x ≡ false = e x (omega arith) (omega arith) in rw u (omega (arith, count_none f (suc x) m (λ y p q. e y (omega arith) (omega arith))))

pub count-split : (f : ℕ → Bool) (x a b : ℕ) → count f x (a + b) ≡ count f x a + count f (x + a) b
unfolding count
count-split f x zero b = let e : x + 0 ≡ x = omega arith in let o : 0 + b ≡ b = omega arith in rw (e, o) (omega arith)
count-split f x (suc a) b =
    let e : x + suc a ≡ suc x + a = omega arith in
    let n : suc a + b ≡ suc (a + b) = omega arith in
    rw (e, n, count) (omega (arith, count-split f (suc x) a b))

-- d blocks that answer true, and none on either side
pub count-middle : (f : ℕ → Bool) (x a d c : ℕ) → ((y : ℕ) → x ≤ y → y < x + a → f y ≡ false) → ((y : ℕ) → x + a ≤ y → y < x + a + d → f y ≡ true)
    → ((y : ℕ) → x + a + d ≤ y → y < x + a + d + c → f y ≡ false) → count f x (a + (d + c)) ≡ d
count-middle f x a d c p q r =
    omega (arith, count-split f x a (d + c), count-split f (x + a) d c, count_none f x a p, count-all f (x + a) d q, count_none f (x + a + d) c r)

-- ---- by slots

module _ (B n : ℕ) (arr : List ℕ) (g : Entries B n arr) where
  covers_of : (k y : ℕ) → covers (entry arr k) y ≡ true → (used (entry arr k) ≡ true) × (first_of (entry arr k) ≤ y) × (y ≤ last_of (entry arr k))
  unfolding covers
  covers_of k y c =
      let r = and_right (used (entry arr k)) _ c in
      (and_left (used (entry arr k)) _ c, leb-true _ _ (and_left (leb (first_of (entry arr k)) y) _ r), leb-true _ _ (and_right (leb (first_of (entry arr k)) y) _ r))

  -- one of the first k slots covers y
  abbrev held : ℕ → ℕ → Bool
  held k y = not (all k (λ (j : ℕ). not (covers (entry arr j) y)))

  -- a block that slot k covers is covered by none before it
  alone : (k y : ℕ) → k < 128 → covers (entry arr k) y ≡ true → all k (λ (j : ℕ). not (covers (entry arr j) y)) ≡ true
  alone k y h c =
      let a = covers_of k y c in
      all_of k (λ (j : ℕ). not (covers (entry arr j) y))
      (λ j l.
      by-test (covers (entry arr j) y)
      (λ t. let b = covers_of j y t in absurd (omega (arith, a.1, a.2, b.1, b.2, apart B n arr g k j h (omega arith) (λ e. omega arith) a.0 b.0 (omega (arith, a.2, b.1)))))
      (λ t. ap not t))

  held_more : (k y : ℕ) → k < 128 → one (held (suc k) y) ≡ one (held k y) + one (covers (entry arr k) y)
  unfolding all
  held_more k y h =
      by-test (covers (entry arr k) y)
      (λ t. rw (t, alone k y h t))
      (λ t. rw t (omega arith))

  -- the blocks of one slot
  slot-count : (k : ℕ) → k < 128 → count (covers (entry arr k)) (first_usable_of B) (last_usable_of B n + 1 - first_usable_of B) ≡ pick (used (entry arr k)) (last_of (entry arr k) + 1 - first_of (entry arr k)) 0
  unfolding covers
  slot-count k h =
      by-test (used (entry arr k))
      (λ u.
      let i = ok-used B n (entry arr k) (g.each k h) u in
      let a : ℕ = first_of (entry arr k) - first_usable_of B in
      let d : ℕ = last_of (entry arr k) + 1 - first_of (entry arr k) in
      let c : ℕ = last_usable_of B n - last_of (entry arr k) in
      let m : last_usable_of B n + 1 - first_usable_of B ≡ a + (d + c) = omega (arith, i.order, i.low, i.high) in
      rw (u, m)
      (count-middle (λ (y : ℕ). used (entry arr k) && (leb (first_of (entry arr k)) y && leb y (last_of (entry arr k)))) (first_usable_of B) a d c
      (λ y p q. rw (u, lt-leb (first_of (entry arr k)) y (omega (arith, i.low))))
      (λ y p q. rw (u, le-leb (first_of (entry arr k)) y (omega (arith, i.low)), le-leb y (last_of (entry arr k)) (omega (arith, i.low, i.order))))
      (λ y p q. rw (u, le-leb (first_of (entry arr k)) y (omega (arith, i.low, i.order)), lt-leb y (last_of (entry arr k)) (omega (arith, i.low, i.order))))))
      (λ u. rw u (count_none (λ (y : ℕ). used (entry arr k) && (leb (first_of (entry arr k)) y && leb y (last_of (entry arr k)))) (first_usable_of B) (last_usable_of B n + 1 - first_usable_of B) (λ y p q. rw u)))

  held-count : (k : ℕ) → k ≤ 128 → count (held k) (first_usable_of B) (last_usable_of B n + 1 - first_usable_of B) ≡ used_blocks arr k
  unfolding used_blocks all
  held-count zero h = count_none (held 0) (first_usable_of B) (last_usable_of B n + 1 - first_usable_of B) (λ y p q. refl)
  held-count (suc k) h =
      omega (
        arith,
        count_add (held k) (covers (entry arr k)) (held (suc k)) (first_usable_of B) (last_usable_of B n + 1 - first_usable_of B) (λ y p q. held_more k y (omega arith)),
        held-count k (omega arith),
        slot-count k (omega arith),
      )

  -- a usable block is free or held
  either : (y : ℕ) → first_usable_of B ≤ y → y < first_usable_of B + (last_usable_of B n + 1 - first_usable_of B) → one true ≡ one (free B n arr y) + one (held 128 y)
  unfolding free
  either y p q =
      by-test (all 128 (λ (k : ℕ). not (covers (entry arr k) y)))
      (λ t. rw (le-leb (first_usable_of B) y (omega arith), le-leb y (last_usable_of B n) (omega arith), t))
      (λ t. rw (le-leb (first_usable_of B) y (omega arith), le-leb y (last_usable_of B n) (omega arith), t))

  pub sum-usable : total (runs B n arr) + used_blocks arr 128 ≡ last_usable_of B n + 1 - first_usable_of B
  unfolding runs
  sum-usable =
      omega (
        arith,
        count_runs (free B n arr) false (first_usable_of B) (last_usable_of B n + 1 - first_usable_of B),
        held-count 128 (omega arith),
        count_add (free B n arr) (held 128) (λ (y : ℕ). true) (first_usable_of B) (last_usable_of B n + 1 - first_usable_of B) either,
        count-all (λ (y : ℕ). true) (first_usable_of B) (last_usable_of B n + 1 - first_usable_of B) (λ y p q. refl),
      )
