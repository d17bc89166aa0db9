-- The laws of entries in the order of their blocks. No contract cites this file. Assumes nothing.
use mathlib.Core.Path.{◌≡◌, sym, ap, ◌∙◌, subst}
use mathlib.Core.Bool.{Bool, true, false, not}
use mathlib.Core.List.{List}
use Prim.Native.Nat.{ℕ, ◌+◌, ◌≤◌, ◌<◌}
use native.Mathlib.Omega.{arith}
use borrow.Author.Tests.{lt-ltb, le-ltb, lt-leb, ltb-true, ltb-false}
use lib.Dec.{ltb, leb}
use Rattle.units.specs.Answer.{pick}
use Rattle.units.specs.Bytes.{part, num, all_zero}
use Rattle.tables.specs.Checks.{all}
use Rattle.tables.specs.Entries.{entry, used, first_of, last_of, overlaps}
use Rattle.tables.proofs.Orders.{split, by-test, all_of}
use Rattle.tables.proofs.EntryLaws.{used-part}
use Rattle.checking.specs.Order.{starts_after, greatest_last, Below}
use Rattle.checking.proofs.CheckWays.{first_part, last-part}

-- ---- what the code reads

module _ {z : Bool} (xs : List ℕ) (at : ℕ) (e : z ≡ all_zero (part xs at 16)) where
  is-used : {t : Bool} → z ≡ t → used (part xs at 128) ≡ not t
  is-used q = used-part xs at ∙ ap not (sym e ∙ q)

  pub after-unused : (top : ℕ) → z ≡ true → true ≡ starts_after (part xs at 128) top
  unfolding starts_after
  after-unused top q = rw (is-used q)

  pub after-used : (top : ℕ) {f : ℕ} → z ≡ false → f ≡ num xs (at + 32) 8 → ltb top f ≡ starts_after (part xs at 128) top
  unfolding starts_after
  after-used top q k = rw (is-used q, first_part xs at, ← k)

  pub greatest-unused : (top : ℕ) → z ≡ true → top ≡ greatest_last (part xs at 128) top
  unfolding greatest_last
  greatest-unused top q = rw (is-used q)

  pub greatest-last : (top : ℕ) {l : ℕ} → z ≡ false → l ≡ num xs (at + 40) 8 → top < l → l ≡ greatest_last (part xs at 128) top
  unfolding greatest_last
  greatest-last top {l} q k h = rw (is-used q, last-part xs at, ← k, lt-ltb top l h)

  pub greatest-top : (top : ℕ) {l : ℕ} → z ≡ false → l ≡ num xs (at + 40) 8 → l ≤ top → top ≡ greatest_last (part xs at 128) top
  unfolding greatest_last
  greatest-top top {l} q k h = rw (is-used q, last-part xs at, ← k, le-ltb top l h)

-- ---- what follows

unlike : false ≡ true → ⊥
unlike q = let o : ◌≡◌ {A = ℕ} 0 1 = cc in omega arith

-- an entry that starts after all before it have ended shares no block with one of them
pub after-apart : (arr : List ℕ) (k top : ℕ) → Below arr k top → starts_after (entry arr k) top ≡ true → all k (λ (j : ℕ). not (overlaps (entry arr k) (entry arr j))) ≡ true
unfolding starts_after overlaps
after-apart arr k top below q =
    all_of k _ (λ j h.
    by-test (used (entry arr k))
    (λ u.
    by-test (used (entry arr j))
    (λ v.
    let s : ltb top (first_of (entry arr k)) ≡ true = subst (λ (t : Bool). pick t (ltb top (first_of (entry arr k))) true ≡ true) u q in
    let f : leb (first_of (entry arr k)) (last_of (entry arr j)) ≡ false = lt-leb (first_of (entry arr k)) (last_of (entry arr j)) (omega (arith, ltb-true top (first_of (entry arr k)) s, below j h v)) in
    rw (u, v, f))
    (λ v. rw (u, v)))
    (λ u. rw u))

-- how far the entries reach with one more passed
pub below_more : (arr : List ℕ) (k top : ℕ) {r : ℕ} → Below arr k top → r ≡ greatest_last (entry arr k) top → Below arr (k + 1) r
unfolding greatest_last
below_more arr k top {r} below e j h u =
    split k j
    (λ o. let d : k ≡ j = omega arith in
    subst (λ (i : ℕ). used (entry arr i) ≡ true → last_of (entry arr i) ≤ r) d here u)
    (λ o. omega (arith, below j o u, reaches))
  where
    reaches : top ≤ r
    reaches = by-test (used (entry arr k)) (λ u. by-test (ltb top (last_of (entry arr k))) (λ t. let q : r ≡ last_of (entry arr k) = e ∙ rw (u, t) in omega (arith, ltb-true top (last_of (entry arr k)) t)) (λ t. let q : r ≡ top = e ∙ rw (u, t) in omega arith)) (λ u. let q : r ≡ top = e ∙ rw u in omega arith)

    here : used (entry arr k) ≡ true → last_of (entry arr k) ≤ r
    here u = by-test (ltb top (last_of (entry arr k))) (λ t. let q : r ≡ last_of (entry arr k) = e ∙ rw (u, t) in omega arith) (λ t. let q : r ≡ top = e ∙ rw (u, t) in omega (arith, ltb-false top (last_of (entry arr k)) t))

pub below_none : (arr : List ℕ) (top : ℕ) → Below arr 0 top
below_none arr top j h u = absurd (omega arith)
