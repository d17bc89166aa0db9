-- The theorems about the runs: each is maximal, each maximal run is among them, they ascend, each free block lies in exactly one, and the sum. No contract cites this file.
-- Assumes nothing.
use mathlib.Core.Path.{◌≡◌, refl, sym, ap, ◌∙◌, subst}
use mathlib.Core.Bool.{Bool, true, false, not, ◌&&◌}
use mathlib.Core.List.{List, [], ◌∷◌, map}
use Prim.Native.Nat.{ℕ, zero, suc, ◌+◌, ◌*◌, ◌-◌, ◌≤◌, ◌<◌}
use native.Mathlib.Omega.{arith}
use borrow.Author.Tests.{eqb-true, eqb-false, leb-true, not-true}
use lib.Dec.{eqb, leb}
use lib.ListN.{length, get_or}
use lib.Seq.{sets, length-sets}
use Rattle.units.specs.declared.why.Why.{Why}
use Rattle.units.specs.Answer.{Answer, accepted, if_zero, judged}
use Rattle.units.proofs.Chains.{else-first, else-second, judged-none, judged-zero}
use Rattle.units.proofs.Lists.{get_d-in}
use Rattle.tables.specs.Places.{blocks, array_blocks, first_usable_of, last_usable_of}
use Rattle.tables.specs.Check.{room_check, check}
use Rattle.tables.specs.Lens.{tables}
use Rattle.tables.proofs.Orders.{split, by-test, and_left, and_right}
use Rattle.tables.proofs.EntryLaws.{Entries}
use Rattle.tables.proofs.Good.{room-ok, check-good}
use Rattle.ground.specs.Ground.{Run, free, reach, runs_from, runs}
use Rattle.ground.specs.Answers.{runs_of, ground_check, settle_rows, image_check, ground_outcome, RowsEnd}
use Rattle.ground.specs.Facts.{nth, Among, In, Facts}
use Rattle.ground.proofs.RunLaws.{reaches}
use Rattle.ground.proofs.Counting.{sum-usable}
use Rattle.ground.proofs.SearchLaws.{unlike, last-in}
use Rattle.ground.proofs.Ways.{lent, checked-lent, rows_fit}

-- ---- how far a run reaches

module _ (f : ℕ → Bool) where
  reach-most : (x m : ℕ) → reach f x m ≤ m
  unfolding reach
  reach-most x zero = omega arith
  reach-most x (suc m) = by-test (f x) (λ e. rw e (omega (arith, reach-most (suc x) m))) (λ e. rw e (omega arith))

  reach-some : (x m : ℕ) → f x ≡ true → reach f x (suc m) ≡ suc (reach f (suc x) m)
  unfolding reach
  reach-some x m e = rw e

  reach-each : (x m y : ℕ) → x ≤ y → y < x + reach f x m → f y ≡ true
  unfolding reach
  reach-each x zero y p q = absurd (omega arith)
  reach-each x (suc m) y p q =
      by-test (f x)
      (λ e. by-test (eqb x y) (λ i. ap f (sym (eqb-true x y i)) ∙ e) (λ i. let d = eqb-false x y i in reach-each (suc x) m y (omega arith) (omega (arith, rw e at q))))
      (λ e. absurd (omega (arith, rw e at q)))

  reach-stop : (x m : ℕ) → reach f x m < m → f (x + reach f x m) ≡ false
  unfolding reach
  reach-stop x zero h = absurd (omega arith)
  reach-stop x (suc m) h =
      by-test (f x)
      (λ e. let s : x + suc (reach f (suc x) m) ≡ suc x + reach f (suc x) m = omega arith in rw (e, s) (reach-stop (suc x) m (omega (arith, rw e at h))))
      (λ e. let s : x + 0 ≡ x = omega arith in rw (e, s) e)

-- a maximal run among m blocks from x on; t is whether the block before x is free
pub record Here (f : ℕ → Bool) (t : Bool) (x m : ℕ) (r : Run) : Type 0 where
  pub low : x ≤ r.start
  pub some : 0 < r.blocks
  pub high : r.start + r.blocks ≤ x + m
  pub each : (y : ℕ) → r.start ≤ y → y < r.start + r.blocks → f y ≡ true
  pub first : r.start ≡ x → t ≡ false
  pub before : x < r.start → f (r.start - 1) ≡ false
  pub after : r.start + r.blocks < x + m → f (r.start + r.blocks) ≡ false

module _ (f : ℕ → Bool) where
  here_later : (t : Bool) (x m : ℕ) {r : Run} → Here f (f x) (suc x) m r → Here f t x (suc m) r
  here_later t x m {r} h =
      record {
        low = omega (arith, h.low);
        some = h.some;
        high = omega (arith, h.high);
        each = h.each;
        first = λ e. absurd (omega (arith, h.low));
        before = λ l. by-test (eqb r.start (suc x))
            (λ i. let d = eqb-true r.start (suc x) i in let s : r.start - 1 ≡ x = omega arith in ap f s ∙ h.first d)
            (λ i. let d = eqb-false r.start (suc x) i in h.before (omega (arith, h.low)));
        after = λ l. h.after (omega arith);
      }

  here-first : (x m : ℕ) → f x ≡ true → Here f false x (suc m) (record { start = x; blocks = reach f x (suc m) })
  here-first x m e =
      record {
        low = omega arith;
        some = omega (arith, reach-some f x m e);
        high = omega (arith, reach-most f x (suc m));
        each = λ y p q. reach-each f x (suc m) y p q;
        first = λ _. refl;
        before = λ l. absurd (omega arith);
        after = λ l. reach-stop f x (suc m) (omega arith);
      }

  -- the list at a block that starts a run, and at another
  cons-at : (t : Bool) (x m : ℕ) → f x ≡ true → t ≡ false → runs_from f t x (suc m) ≡ record { start = x; blocks = reach f x (suc m) } ∷ runs_from f (f x) (suc x) m
  unfolding runs_from
  cons-at t x m e d = rw (e, d)

  next-at : (t : Bool) (x m : ℕ) → f x && not t ≡ false → runs_from f t x (suc m) ≡ runs_from f (f x) (suc x) m
  unfolding runs_from
  next-at t x m e = rw e

  -- each is maximal
  sound-cons : (t : Bool) (x m k : ℕ) → f x ≡ true → t ≡ false → ((k : ℕ) → k < length (runs_from f (f x) (suc x) m) → Here f (f x) (suc x) m (nth (runs_from f (f x) (suc x) m) k))
      → k < suc (length (runs_from f (f x) (suc x) m)) → Here f t x (suc m) (nth (record { start = x; blocks = reach f x (suc m) } ∷ runs_from f (f x) (suc x) m) k)
  sound-cons t x m zero e d ih h = subst (λ (t : Bool). Here f t x (suc m) (record { start = x; blocks = reach f x (suc m) })) (sym d) (here-first x m e)
  sound-cons t x m (suc k) e d ih h = here_later t x m (ih k (omega arith))

  sound : (t : Bool) (x m k : ℕ) → k < length (runs_from f t x m) → Here f t x m (nth (runs_from f t x m) k)
  unfolding runs_from
  sound t x zero k h = absurd (omega arith)
  sound t x (suc m) k h =
      by-test (f x && not t)
      (λ e.
      let c = cons-at t x m (and_left (f x) (not t) e) (not-true t (and_right (f x) (not t) e)) in
      subst (λ (l : List Run). Here f t x (suc m) (nth l k)) (sym c)
      (sound-cons t x m k (and_left (f x) (not t) e) (not-true t (and_right (f x) (not t) e)) (sound (f x) (suc x) m) (omega (arith, ap (length {A = Run}) c))))
      (λ e.
      let c = next-at t x m e in
      subst (λ (l : List Run). Here f t x (suc m) (nth l k)) (sym c) (here_later t x m (sound (f x) (suc x) m k (omega (arith, ap (length {A = Run}) c)))))

  -- each maximal one is there
  among_later : (t : Bool) (x m : ℕ) (r : Run) → Among (runs_from f (f x) (suc x) m) r → Among (runs_from f t x (suc m)) r
  among_later t x m r a =
      by-test (f x && not t)
      (λ e.
      let c = cons-at t x m (and_left (f x) (not t) e) (not-true t (and_right (f x) (not t) e)) in
      subst (λ (l : List Run). Among l r) (sym c) (suc a.0, omega (arith, a.1), a.2))
      (λ e. subst (λ (l : List Run). Among l r) (sym (next-at t x m e)) a)

  complete-from : (t : Bool) (x m : ℕ) (r : Run) → Here f t x m r → Among (runs_from f t x m) r
  complete-from t x zero r h = absurd (omega (arith, h.low, h.some, h.high))
  complete-from t x (suc m) r h =
      by-test (eqb r.start x)
      (λ i.
      let d : r.start ≡ x = eqb-true r.start x i in
      let e : f x ≡ true = ap f (sym d) ∙ h.each r.start (omega arith) (omega (arith, h.some)) in
      let c = cons-at t x m e (h.first d) in
      let n : r.blocks + (suc m - r.blocks) ≡ suc m = omega (arith, h.high, h.low) in
      let w : reach f x (suc m) ≡ r.blocks =
      ap (reach f x) (sym n)
      ∙ reaches f r.blocks x (suc m - r.blocks) (λ y p q. h.each y (omega arith) (omega arith)) (λ l. ap (λ (z : ℕ). f (z + r.blocks)) (sym d) ∙ h.after (omega arith)) in
      let s : record { start = x; blocks = reach f x (suc m) } ≡ r = rw (w, ← d) in
      subst (λ (l : List Run). Among l r) (sym c) (0, omega arith, s))
      (λ i.
      let d = eqb-false r.start x i in
      among_later t x m r
      (complete-from (f x) (suc x) m r
      (record {
        low = omega (arith, h.low);
        some = h.some;
        high = omega (arith, h.high);
        each = h.each;
        first = λ q. let z : r.start - 1 ≡ x = omega arith in ap f (sym z) ∙ h.before (omega (arith, h.low));
        before = λ l. h.before (omega arith);
        after = λ l. h.after (omega arith);
      })))

  -- they ascend
  rises-cons : (x m j k : ℕ) → f x ≡ true
      → ((j k : ℕ) → j < k → k < length (runs_from f (f x) (suc x) m) → (nth (runs_from f (f x) (suc x) m) j).start + (nth (runs_from f (f x) (suc x) m) j).blocks < (nth (runs_from f (f x) (suc x) m) k).start)
      → j < k → k < suc (length (runs_from f (f x) (suc x) m))
      → (nth (record { start = x; blocks = reach f x (suc m) } ∷ runs_from f (f x) (suc x) m) j).start + (nth (record { start = x; blocks = reach f x (suc m) } ∷ runs_from f (f x) (suc x) m) j).blocks
      < (nth (record { start = x; blocks = reach f x (suc m) } ∷ runs_from f (f x) (suc x) m) k).start
  rises-cons x m zero zero e ih p q = absurd (omega arith)
  rises-cons x m (suc j) zero e ih p q = absurd (omega arith)
  rises-cons x m (suc j) (suc k) e ih p q = ih j k (omega arith) (omega arith)
  rises-cons x m zero (suc k) e ih p q =
      let r : Run = nth (runs_from f (f x) (suc x) m) k in
      let h : Here f (f x) (suc x) m r = sound (f x) (suc x) m k (omega arith) in
      let b : f (r.start - 1) ≡ false = (here_later false x m h).before (omega (arith, h.low)) in
      split r.start (x + reach f x (suc m))
      (λ l. absurd (unlike (sym b ∙ reach-each f x (suc m) (r.start - 1) (omega (arith, h.low)) (omega (arith, h.low)))))
      (λ l. l)

  rises : (t : Bool) (x m j k : ℕ) → j < k → k < length (runs_from f t x m) → (nth (runs_from f t x m) j).start + (nth (runs_from f t x m) j).blocks < (nth (runs_from f t x m) k).start
  unfolding runs_from
  rises t x zero j k p q = absurd (omega arith)
  rises t x (suc m) j k p q =
      by-test (f x && not t)
      (λ e.
      let c = cons-at t x m (and_left (f x) (not t) e) (not-true t (and_right (f x) (not t) e)) in
      subst (λ (l : List Run). (nth l j).start + (nth l j).blocks < (nth l k).start) (sym c) (rises-cons x m j k (and_left (f x) (not t) e) (rises (f x) (suc x) m) p (omega (arith, ap (length {A = Run}) c))))
      (λ e.
      let c = next-at t x m e in
      subst (λ (l : List Run). (nth l j).start + (nth l j).blocks < (nth l k).start) (sym c) (rises (f x) (suc x) m j k p (omega (arith, ap (length {A = Run}) c))))

  -- each free block lies in one
  abbrev Lies : List Run → ℕ → Type 0
  Lies rs y = (k : ℕ) × (k < length rs) × In (nth rs k) y

  lies : (t : Bool) (x m y : ℕ) → x ≤ y → y < x + m → f y ≡ true → (t ≡ true → x + reach f x m ≤ y) → Lies (runs_from f t x m) y
  lies t x zero y p q u s = absurd (omega arith)
  lies t x (suc m) y p q u s =
      by-test (f x)
      (λ e.
      by-test t
      (λ d.
      let c : runs_from f t x (suc m) ≡ runs_from f (f x) (suc x) m = next-at t x m (rw (e, d)) in
      let o : suc x + reach f (suc x) m ≤ y = omega (arith, s d, reach-some f x m e) in
      subst (λ (l : List Run). Lies l y) (sym c) (lies (f x) (suc x) m y (omega arith) (omega arith) u (λ _. o)))
      (λ d.
      let c = cons-at t x m e d in
      split (x + reach f x (suc m)) y
      (λ l.
      let o : suc x + reach f (suc x) m ≤ y = omega (arith, reach-some f x m e) in
      let a = lies (f x) (suc x) m y (omega arith) (omega arith) u (λ _. o) in
      subst (λ (l : List Run). Lies l y) (sym c) (suc a.0, omega (arith, a.1), a.2))
      (λ l. subst (λ (l : List Run). Lies l y) (sym c) (0, omega arith, (p, l)))))
      (λ e.
      let c : runs_from f t x (suc m) ≡ runs_from f (f x) (suc x) m = next-at t x m (rw e) in
      let d : x ≡ y → ⊥ = λ i. unlike (sym e ∙ ap f i ∙ u) in
      subst (λ (l : List Run). Lies l y) (sym c) (lies (f x) (suc x) m y (omega (arith, d)) (omega arith) u (λ z. absurd (unlike (sym e ∙ z)))))

-- ---- a card that the check accepts

module _ (B n : ℕ) (arr : List ℕ) where
  free_in : (y : ℕ) → free B n arr y ≡ true → (first_usable_of B ≤ y) × (y ≤ last_usable_of B n)
  unfolding free
  free_in y u =
      let r = and_right (leb (first_usable_of B) y) _ u in
      (leb-true _ _ (and_left (leb (first_usable_of B) y) _ u), leb-true _ _ (and_left (leb y (last_usable_of B n)) _ r))

  free-out : (y : ℕ) → (first_usable_of B ≤ y → y ≤ last_usable_of B n → ⊥) → free B n arr y ≡ false
  free-out y d = by-test (free B n arr y) (λ u. absurd (d (free_in y u).0 (free_in y u).1)) (λ u. u)

module _ (B n : ℕ) (arr : List ℕ) (r : (room_check B n).number ≡ 0) (g : Entries B n arr) where
  above : first_usable_of B ≤ last_usable_of B n
  above = (room-ok B n r).order

  first_some : 0 < first_usable_of B
  unfolding first_usable_of
  first_some = omega arith

  usable-count : last_usable_of B n + 1 - first_usable_of B ≡ blocks B n - 2 * array_blocks B - 3
  unfolding first_usable_of last_usable_of
  usable-count = let c = (room-ok B n r).count in omega arith

  pub facts : Facts B n arr (runs B n arr)
  unfolding runs
  facts =
      let f : ℕ → Bool = free B n arr in
      let x : ℕ = first_usable_of B in
      let m : ℕ = last_usable_of B n + 1 - first_usable_of B in
      let rs : List Run = runs_from (free B n arr) false (first_usable_of B) (last_usable_of B n + 1 - first_usable_of B) in
      record {
        maximal = λ k h. let s = sound f false x m k h in
            record {
              some = s.some;
              each = s.each;
              before = split (nth rs k).start x (λ l. free-out B n arr ((nth rs k).start - 1) (λ p q. omega (arith, first_some, s.low))) (λ l. s.before l);
              after = split (x + m) ((nth rs k).start + (nth rs k).blocks) (λ l. free-out B n arr ((nth rs k).start + (nth rs k).blocks) (λ p q. omega (arith, above))) (λ l. s.after l);
            };
        complete = λ q h.
            let a = free_in B n arr q.start (h.each q.start (omega arith) (omega (arith, h.some))) in
            let z = free_in B n arr (q.start + q.blocks - 1) (h.each (q.start + q.blocks - 1) (omega (arith, h.some)) (omega (arith, h.some))) in
            complete-from f false x m q
            (record {
              low = a.0;
              some = h.some;
              high = omega (arith, z.1, above);
              each = h.each;
              first = λ _. refl;
              before = λ _. h.before;
              after = λ _. h.after;
            });
        ascending = λ j k p q. rises f false x m j k p q;
        found = λ y u. lies f false x m y (free_in B n arr y u).0 (omega (arith, (free_in B n arr y u).0, (free_in B n arr y u).1, above)) u (λ z. absurd (unlike z));
        once = λ y j k p q a b.
            split j k
            (λ l. split k j (λ o. omega arith) (λ o. absurd (omega (arith, a.0, a.1, b.0, b.1, rises f false x m j k o q))))
            (λ l. absurd (omega (arith, a.0, a.1, b.0, b.1, rises f false x m k j l p)));
        sum = sum-usable B n arr g ∙ usable-count;
      }

-- of the runs that `free_runs` gives
pub facts-of : (B : ℕ) (xs : List ℕ) → (check B (length xs) (tables B xs)).number ≡ 0 → Facts B (length xs) (tables B xs).front.array (runs_of B (length xs) (tables B xs))
facts-of B xs h = let g = check-good B (length xs) (tables B xs) h in facts B (length xs) (tables B xs).front.array g.room g.entries

-- ---- what a caller finds in the rows

map_at : (h : Run → ℕ) (rs : List Run) (k : ℕ) → k < length rs → get_or (map h rs) k 0 ≡ h (nth rs k)
map_at h [] k l = absurd (omega arith)
map_at h (r ∷ rs) zero l = refl
map_at h (r ∷ rs) (suc k) l = map_at h rs k (omega arith)

length-map : (h : Run → ℕ) (rs : List Run) → length (map h rs) ≡ length rs
length-map h [] = refl
length-map h (r ∷ rs) = ap suc (length-map h rs)

row_at : (h : Run → ℕ) (rs : List Run) (ss : List ℕ) {o : List ℕ} → o ≡ sets ss 0 (map h rs) → length rs ≤ length ss → (k : ℕ) → k < length rs → get_or o k 0 ≡ h (nth rs k)
row_at h rs ss e l k q =
    let z : 0 + k ≡ k = omega arith in
    ap (λ (s : List ℕ). get_or s k 0) e
    ∙ ap (λ (i : ℕ). get_or (sets ss 0 (map h rs)) i 0) (sym z)
    ∙ get_d-in ss 0 (map h rs) k (omega (arith, length-map h rs)) (omega (arith, length-map h rs))
    ∙ map_at h rs k q

pub record RowFacts (B : ℕ) (xs : List ℕ) (n : ℕ) (o p : List ℕ) : Type 0 where
  pub checked : (check B (length xs) (tables B xs)).number ≡ 0
  pub count : n ≡ length (runs_of B (length xs) (tables B xs))
  pub starts-long : n ≤ length o
  pub lengths-long : n ≤ length p
  -- place k of the rows has run k
  pub start-at : (k : ℕ) → k < n → get_or o k 0 ≡ (nth (runs_of B (length xs) (tables B xs)) k).start
  pub length_at : (k : ℕ) → k < n → get_or p k 0 ≡ (nth (runs_of B (length xs) (tables B xs)) k).blocks
  -- a run has blocks, and they are the image's
  pub some : (k : ℕ) → k < n → 0 < get_or p k 0
  pub inside : (k : ℕ) → k < n → get_or o k 0 + get_or p k 0 ≤ length xs

pub row-facts : (B : ℕ) (xs ss ls : List ℕ) {r : Answer ℕ} {n : ℕ} {o p : List ℕ} → RowsEnd (ground_outcome B xs ss ls) r o p → r ≡ accepted n → RowFacts B xs n o p
unfolding ground_outcome settle_rows ground_check
row-facts B xs ss ls {r} {n} {o} {p} e t =
    let rs : List Run = runs_of B (length xs) (tables B xs) in
    let w : Why = image_check B xs ss ls in
    let q : judged (image_check B xs ss ls) (length (runs_of B (length xs) (tables B xs))) ≡ accepted n = sym e.answer ∙ t in
    let z : (image_check B xs ss ls).number ≡ 0 = judged-zero (length rs) w n q in
    let c : n ≡ length (runs_of B (length xs) (tables B xs)) = let z : ◌≡◌ {A = Answer ℕ} (accepted n) (accepted (length (runs_of B (length xs) (tables B xs)))) = sym q ∙ judged-none (length rs) w z in cc in
    let h : (check B (length xs) (tables B xs)).number ≡ 0 = else-first (check B (length xs) (tables B xs)) _ z in
    let f = rows_fit (length ss) (length ls) (length rs) (else-second (check B (length xs) (tables B xs)) _ z) in
    let s : o ≡ sets ss 0 (map (λ (r : Run). r.start) rs) = e.starts ∙ ap (λ (k : ℕ). if_zero k (sets ss 0 (map (λ (r : Run). r.start) rs)) ss) z in
    let l : p ≡ sets ls 0 (map (λ (r : Run). r.blocks) rs) = e.lengths ∙ ap (λ (k : ℕ). if_zero k (sets ls 0 (map (λ (r : Run). r.blocks) rs)) ls) z in
    let g : Facts B (length xs) (tables B xs).front.array rs = facts-of B xs h in
    let sa : (k : ℕ) → k < n → get_or o k 0 ≡ (nth rs k).start = λ k i. row_at (λ (r : Run). r.start) rs ss s f.0 k (omega arith) in
    let la : (k : ℕ) → k < n → get_or p k 0 ≡ (nth rs k).blocks = λ k i. row_at (λ (r : Run). r.blocks) rs ls l f.1 k (omega arith) in
    record {
      checked = h;
      count = c;
      starts-long = omega (arith, ap (length {A = ℕ}) s, length-sets ss 0 (map (λ (r : Run). r.start) rs), f.0);
      lengths-long = omega (arith, ap (length {A = ℕ}) l, length-sets ls 0 (map (λ (r : Run). r.blocks) rs), f.1);
      start-at = sa;
      length_at = la;
      some = λ k i. omega (arith, la k i, (g.maximal k (omega arith)).some);
      inside = λ k i.
          let r : Run = nth rs k in
          let m = g.maximal k (omega arith) in
          let b = free_in B (length xs) (tables B xs).front.array (r.start + r.blocks - 1) (m.each (r.start + r.blocks - 1) (omega (arith, m.some)) (omega (arith, m.some))) in
          omega (arith, sa k i, la k i, b.1, last-in B (length xs) (lent B xs) B (checked-lent B xs h), m.some);
    }
