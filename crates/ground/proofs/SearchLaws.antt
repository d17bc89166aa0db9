-- The laws of the search: what one entry, all entries and one step from block to block tell. No contract cites this file. Assumes nothing.
use mathlib.Core.Path.{◌≡◌, refl, sym, ap, ◌∙◌, subst}
use mathlib.Core.Logic.{inl, inr, ⊎_elim}
use mathlib.Core.Bool.{Bool, true, false, not, ◌&&◌}
use mathlib.Core.List.{List}
use Prim.Native.Nat.{ℕ, ◌+◌, ◌-◌, ◌≤◌, ◌<◌}
use native.Mathlib.Omega.{arith}
use borrow.Author.Tests.{eqb-true, eqb-false, lt-ltb, le-ltb, le-leb, lt-leb, ltb-true, leb-true}
use lib.Dec.{eqb, leb, ltb}
use Rattle.units.specs.declared.Lba.{Lba}
use Rattle.units.specs.Bytes.{part, num, all_zero}
use Rattle.tables.specs.Checks.{all}
use Rattle.tables.specs.Places.{first_usable_of, last_usable_of}
use Rattle.tables.specs.Entries.{entry, used, first_of, last_of, overlaps}
use Rattle.tables.proofs.Orders.{split, by-test, all_of, all-fails, both, and_left, and_right}
use Rattle.tables.proofs.EntryLaws.{Entries, Inside, ok-used, entries-true, used-part}
use Rattle.tables.proofs.Good.{room-ok}
use Rattle.checking.proofs.CheckWays.{first_part, last-part}
use Rattle.ground.specs.declared.inner.Span.{Span}
use Rattle.ground.specs.declared.inner.Gap.{Gap}
use Rattle.ground.specs.Ground.{covers, free}
use Rattle.ground.specs.Search.{Checked, At, Taken, Nearest, Next, nearer_of, left}
use Rattle.ground.proofs.RunLaws.{step_run, step-none, step_end}

pub unlike : false ≡ true → ⊥
unlike q = let o : ◌≡◌ {A = ℕ} 0 1 = cc in omega arith

-- ---- one entry

module _ (xs : List ℕ) (at : ℕ) (x : ℕ) (s : Span) {f : Lba} (e : f.0 ≡ num xs (at + 32) 8) where
  pub nearer-early : f.0 < x → s ≡ nearer_of (part xs at 128) x s
  unfolding nearer_of
  nearer-early h = rw (first_part xs at, ← e, lt-leb x f.0 h)

  module _ (l : x ≤ f.0) where
    pub nearer-late : s.first.0 ≤ f.0 → s ≡ nearer_of (part xs at 128) x s
    unfolding nearer_of
    nearer-late h = rw (first_part xs at, ← e, le-leb x f.0 l, le-ltb f.0 s.first.0 h)

    module _ (h : f.0 < s.first.0) {z : Bool} (q : z ≡ all_zero (part xs at 16)) where
      pub nearer-unused : z ≡ true → s ≡ nearer_of (part xs at 128) x s
      unfolding nearer_of
      nearer-unused t = rw (first_part xs at, ← e, le-leb x f.0 l, lt-ltb f.0 s.first.0 h, used-part xs at, ← q, t)

      pub nearer-used : {k : Lba} → z ≡ false → k.0 ≡ num xs (at + 40) 8 → record { first = f; last = k } ≡ nearer_of (part xs at 128) x s
      unfolding nearer_of
      nearer-used t i = rw (first_part xs at, last-part xs at, ← e, ← i, le-leb x f.0 l, lt-ltb f.0 s.first.0 h, used-part xs at, ← q, t)

-- ---- all entries

pub nearest-none : (arr : List ℕ) (x : ℕ) (none : Span) → Nearest arr 0 x none none
nearest-none arr x none = record { lowest = λ j h. absurd (omega arith); taken = inl refl }

module _ (arr : List ℕ) (k x : ℕ) (none s : Span) (o : Nearest arr k x none s) where
  wider : Taken arr k x s → Taken arr (k + 1) x s
  wider t = record { place = t.place; below = omega (arith, t.below); used = t.used; first = t.first; last = t.last; from = t.from }

  pub nearest-more : {r : Span} → r ≡ nearer_of (entry arr k) x s → Nearest arr (k + 1) x none r
  unfolding nearer_of
  nearest-more {r} q =
      by-test (leb x (first_of (entry arr k)) && (ltb (first_of (entry arr k)) s.first.0 && used (entry arr k)))
      (λ t.
      let u = and_right (leb x (first_of (entry arr k))) _ t in
      let a : x ≤ first_of (entry arr k) = leb-true _ _ (and_left (leb x (first_of (entry arr k))) _ t) in
      let b : first_of (entry arr k) < s.first.0 = ltb-true _ _ (and_left (ltb (first_of (entry arr k)) s.first.0) _ u) in
      let v = and_right (ltb (first_of (entry arr k)) s.first.0) _ u in
      let w : r ≡ record { first = record { 0 = first_of (entry arr k) }; last = record { 0 = last_of (entry arr k) } } = q ∙ rw t in
      subst (Nearest arr (k + 1) x none) (sym w)
      (record {
        lowest = λ j h y z. by-test (eqb j k) (λ i. let d = eqb-true j k i in let m : first_of (entry arr j) ≡ first_of (entry arr k) = ap (λ (i : ℕ). first_of (entry arr i)) d in omega (arith, m)) (λ i. let d = eqb-false j k i in omega (arith, o.lowest j (omega arith) y z));
        taken = inr (record { place = k; below = omega arith; used = v; first = refl; last = refl; from = a });
      }))
      (λ t.
      let w : r ≡ s = q ∙ rw t in
      subst (Nearest arr (k + 1) x none) (sym w)
      (record {
        lowest = λ j h y z.
            by-test (eqb j k)
            (λ i. let d = eqb-true j k i in
            let m : first_of (entry arr j) ≡ first_of (entry arr k) = ap (λ (i : ℕ). first_of (entry arr i)) d in
            let v : used (entry arr k) ≡ true = ap (λ (i : ℕ). used (entry arr i)) (sym d) ∙ y in
            split s.first.0 (first_of (entry arr k)) (λ p. omega arith)
            (λ p. absurd (unlike (sym t ∙ both (le-leb x (first_of (entry arr k)) (omega arith)) (both (lt-ltb (first_of (entry arr k)) s.first.0 p) v)))))
            (λ i. let d = eqb-false j k i in o.lowest j (omega arith) y z);
        taken = ⊎_elim (λ z. inl z) (λ z. inr (wider z)) o.taken;
      }))

-- ---- free blocks and others

module _ (B n : ℕ) (arr : List ℕ) where
  pub free-held : (k y : ℕ) → k < 128 → used (entry arr k) ≡ true → first_of (entry arr k) ≤ y → y ≤ last_of (entry arr k) → free B n arr y ≡ false
  unfolding free covers
  free-held k y h u a b =
      let c : covers (entry arr k) y ≡ true = both u (both (le-leb _ _ a) (le-leb _ _ b)) in
      let z : all 128 (λ (k : ℕ). not (covers (entry arr k) y)) ≡ false = all-fails 128 (λ (k : ℕ). not (covers (entry arr k) y)) k h (ap not c) in
      by-test (leb (first_usable_of B) y) (λ p. by-test (leb y (last_usable_of B n)) (λ q. rw (p, q, z)) (λ q. rw (p, q))) (λ p. rw p)

  pub free_of : (y : ℕ) → first_usable_of B ≤ y → y ≤ last_usable_of B n → ((k : ℕ) → k < 128 → used (entry arr k) ≡ true → first_of (entry arr k) ≤ y → y ≤ last_of (entry arr k) → ⊥) → free B n arr y ≡ true
  unfolding free covers
  free_of y a b f =
      both (le-leb _ _ a) (both (le-leb _ _ b)
      (all_of 128 (λ (k : ℕ). not (covers (entry arr k) y)) (λ k h.
      by-test (covers (entry arr k) y)
      (λ c. absurd (f k h (and_left (used (entry arr k)) _ c) (leb-true _ _ (and_left (leb (first_of (entry arr k)) y) _ (and_right (used (entry arr k)) _ c))) (leb-true _ _ (and_right (leb (first_of (entry arr k)) y) _ (and_right (used (entry arr k)) _ c)))))
      (λ c. ap not c))))

-- ---- one step

-- what the span tells that was found from x on
pub record Told (B n : ℕ) (arr : List ℕ) (x : ℕ) (s : Span) : Type 0 where
  pub low : x ≤ s.first.0
  pub order : s.first.0 ≤ s.last.0 + 1
  pub high : s.last.0 ≤ last_usable_of B n
  pub some : s.last.0 + 1 < last_usable_of B n + 1 → s.first.0 < s.last.0 + 1
  pub past : x < s.last.0 + 1
  pub held : (w : ℕ) → s.first.0 ≤ w → w < s.last.0 + 1 → free B n arr w ≡ false
  pub at : At B n arr (s.last.0 + 1)

module _ (B n : ℕ) (arr : List ℕ) (g : Entries B n arr) where
  inside : (k : ℕ) → k < 128 → used (entry arr k) ≡ true → Inside B n (entry arr k)
  inside k h u = ok-used B n (entry arr k) (g.each k h) u

  -- two used entries: one ends before the other starts
  pub apart : (j k : ℕ) → j < 128 → k < 128 → (j ≡ k → ⊥) → used (entry arr j) ≡ true → used (entry arr k) ≡ true → first_of (entry arr k) ≤ last_of (entry arr j) → last_of (entry arr k) < first_of (entry arr j)
  unfolding overlaps
  apart j k p q d u v h =
      split (first_of (entry arr j)) (last_of (entry arr k))
      (λ o. absurd (unlike (sym (g.apart j k p q d) ∙ both u (both v (both (le-leb _ _ o) (le-leb _ _ h))))))
      (λ o. o)

  -- behind an entry, and behind the last usable block, the search may stand
  at_after : (j : ℕ) → j < 128 → used (entry arr j) ≡ true → At B n arr (last_of (entry arr j) + 1)
  at_after j p u =
      let i = inside j p u in
      record {
        low = omega (arith, i.order, i.low);
        high = omega (arith, i.high);
        clear = λ k q v h. by-test (eqb j k) (λ e. let d = eqb-true j k e in let m : last_of (entry arr j) ≡ last_of (entry arr k) = ap (λ (i : ℕ). last_of (entry arr i)) d in omega arith) (λ e. omega (arith, apart j k p q (eqb-false j k e) u v (omega arith), i.order));
      }

  at-end : first_usable_of B ≤ last_usable_of B n → At B n arr (last_usable_of B n + 1)
  at-end o = record { low = omega arith; high = omega arith; clear = λ k q v h. omega (arith, (inside k q v).high) }

  pub at-start : first_usable_of B ≤ last_usable_of B n → At B n arr (first_usable_of B)
  at-start o = record { low = omega arith; high = omega arith; clear = λ k q v h. absurd (omega (arith, (inside k q v).low)) }

  module _ (x : ℕ) (a : At B n arr x) (more : x ≤ last_usable_of B n) (none s : Span) (nf : none.first.0 ≡ last_usable_of B n + 1) (nl : none.last.0 ≡ last_usable_of B n) (near : Nearest arr 128 x none s) where
    pub told : Told B n arr x s
    told =
        ⊎_elim
        (λ e.
        let p : s.first.0 ≡ last_usable_of B n + 1 = ap (λ (s : Span). s.first.0) e ∙ nf in
        let q : s.last.0 ≡ last_usable_of B n = ap (λ (s : Span). s.last.0) e ∙ nl in
        record {
          low = omega arith;
          order = omega arith;
          high = omega arith;
          some = λ h. absurd (omega arith);
          past = omega arith;
          held = λ w h i. absurd (omega arith);
          at = subst (λ (i : ℕ). At B n arr (i + 1)) (sym q) (at-end (omega (arith, a.low)));
        })
        (λ t.
        let i = inside t.place t.below t.used in
        let p = t.first in
        let q = t.last in
        record {
          low = t.from;
          order = omega (arith, i.order);
          high = omega (arith, i.high);
          some = λ h. omega (arith, i.order);
          past = omega (arith, i.order, t.from);
          held = λ w h k. free-held B n arr t.place w t.below t.used (omega arith) (omega arith);
          at = subst (λ (i : ℕ). At B n arr (i + 1)) q (at_after t.place t.below t.used);
        })
        near.taken

    open-ground : (w : ℕ) → x ≤ w → w < s.first.0 → free B n arr w ≡ true
    open-ground w h k =
        let t = told in
        free_of B n arr w (omega (arith, a.low)) (omega (arith, t.high, t.order))
        (λ j p u b c.
        split x (first_of (entry arr j))
        (λ o. omega (arith, near.lowest j p u o))
        (λ o. omega (arith, a.clear j p u o)))

    -- a run begins where the search stands
    pub run-here : x < s.first.0 → Next B n arr x (record { start = record { 0 = x }; blocks = s.first.0 - x; after = record { 0 = s.last.0 + 1 } })
    run-here h =
        let t = told in
        record {
          at = t.at;
          some = λ _. (step_run (free B n arr) x s.first.0 (s.last.0 + 1) (last_usable_of B n + 1) open-ground t.held h t.order (omega (arith, t.high)) t.some, t.past);
          none = λ z. absurd (omega arith);
        }

    -- or none does, and it goes on
    pub run_on : s.first.0 ≤ x → left B n arr x ≡ left B n arr (s.last.0 + 1)
    run_on h = let t = told in step-none (free B n arr) x s.first.0 (s.last.0 + 1) (last_usable_of B n + 1) open-ground t.held (omega (arith, t.low)) t.order (omega (arith, t.high))

  -- there is no more ground
  pub run-over : (x : ℕ) → At B n arr x → last_usable_of B n < x → Next B n arr x (record { start = record { 0 = x }; blocks = 0; after = record { 0 = x } })
  run-over x a h =
      record {
        at = a;
        some = λ z. absurd (omega arith);
        none = λ _. step_end (free B n arr) x x x (last_usable_of B n + 1) (λ w p q. absurd (omega arith)) (λ w p q. absurd (omega arith)) (omega arith);
      }

-- from a block before which nothing starts
pub next-from : (B n : ℕ) (arr : List ℕ) {x y : ℕ} {g : Gap} → left B n arr x ≡ left B n arr y → x ≤ y → Next B n arr y g → Next B n arr x g
next-from B n arr e h s = record { at = s.at; some = λ z. (e ∙ (s.some z).0, omega (arith, (s.some z).1)); none = λ z. e ∙ s.none z }

-- where no entry is found
abbrev pub none_of : Lba → Span
none_of l = record { first = record { 0 = l.0 + 1 }; last = l }

-- the same of a table that was checked: what the span that `nearest` found tells
module _ (B n : ℕ) (ys : List ℕ) (at : ℕ) (k : Checked B n ys at) where
  pub entries-in : Entries B n (part ys at 16384)
  entries-in = entries-true B n (part ys at 16384) k.entries

  pub last-in : last_usable_of B n + 1 ≤ n
  unfolding last_usable_of
  last-in = let r = room-ok B n k.room in omega (arith, r.few, r.count)

  module _ (x : ℕ) (a : At B n (part ys at 16384) x) {last : Lba} (e : last ≡ record { 0 = last_usable_of B n }) (more : x ≤ last.0) where
    top : last.0 ≡ last_usable_of B n
    top = ap (λ (l : Lba). l.0) e

    pub tells : {s : Span} → Nearest (part ys at 16384) 128 x (none_of last) s → Told B n (part ys at 16384) x s
    tells near = told B n (part ys at 16384) entries-in x a (omega (arith, top)) (none_of last) _ (omega (arith, top)) top near

    pub found_here : {s : Span} → Nearest (part ys at 16384) 128 x (none_of last) s → x < s.first.0
        → Next B n (part ys at 16384) x (record { start = record { 0 = x }; blocks = s.first.0 - x; after = record { 0 = s.last.0 + 1 } })
    found_here near = run-here B n (part ys at 16384) entries-in x a (omega (arith, top)) (none_of last) _ (omega (arith, top)) top near

    pub found-on : {s : Span} → Nearest (part ys at 16384) 128 x (none_of last) s → s.first.0 ≤ x → left B n (part ys at 16384) x ≡ left B n (part ys at 16384) (s.last.0 + 1)
    found-on near = run_on B n (part ys at 16384) entries-in x a (omega (arith, top)) (none_of last) _ (omega (arith, top)) top near
