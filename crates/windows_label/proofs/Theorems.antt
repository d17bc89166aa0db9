-- A repeated slot is judged as one, also by labels that are handed in (document 02, 13/13): a slot that was named before can be left out of the list together with its 13 bytes, whatever these are, and the
-- answer is the same. No contract cites this file. Assumes nothing.
use mathlib.Core.Path.{◌≡◌, refl, sym, ap, ◌∙◌}
use mathlib.Core.Logic.{⊎_elim}
use mathlib.Core.Bool.{Bool, true, false}
use mathlib.Core.List.Memᴰ
use mathlib.Core.List.{List, [], ◌∷◌, ◌++◌, Memᴰ}
use Prim.Native.Nat.{ℕ, suc, ◌+◌, ◌*◌, ◌≤◌, ◌<◌}
use native.Mathlib.Omega.{arith}
use borrow.Author.Tests.{eqb-true, eqb-false, eq-eqb, ne_eqb, ltb-true, ltb-false}
use lib.Dec.{eqb, ltb}
use lib.ListN.{length, take, drop, length-append, length-drop}
use lib.Seq.{take-append-le, drop-append-le, drop-append-add}
use Rattle.std.specs.Prelude.{None}
use Rattle.units.specs.Answer.{pick}
use Rattle.units.specs.Bytes.{part}
use Rattle.tables.proofs.Orders.{by-test}
use Rattle.label.specs.Judging.{Shown, judge_from}
use Rattle.label.proofs.SetLaws.{again}
use Rattle.windows_label.specs.Handed.{handed_label, first_place, handed_from, handed_set}

-- ---- first places in a list of two parts

-- a slot of a list has its first place in it
first-mem : (ss : List ℕ) (s : ℕ) → Memᴰ s ss → first_place ss s < length ss
unfolding first_place
first-mem [] s m = absurd (Memᴰ.not-nil m)
first-mem (t ∷ ts) s m =
    by-test (eqb t s)
    (λ q. rw q (omega arith))
    (λ q. rw q (⊎_elim (λ e. absurd (eqb-false t s q (sym e))) (λ n. let h = first-mem ts s n in omega arith) (Memᴰ.cases_cons m)))

-- in the first part, or after it
first-left : (xs ys : List ℕ) (s : ℕ) → first_place xs s < length xs → first_place (xs ++ ys) s ≡ first_place xs s
unfolding first_place
first-left [] ys s h = absurd (omega (arith, h))
first-left (t ∷ ts) ys s h = by (λ k. first-left ts ys s k) (eqb t s) h
  where
    by : (first_place ts s < length ts → first_place (ts ++ ys) s ≡ first_place ts s) → (b : Bool) → pick b 0 (suc (first_place ts s)) < suc (length ts) → pick b 0 (suc (first_place (ts ++ ys) s)) ≡ pick b 0 (suc (first_place ts s))
    by rest true k = refl
    by rest false k = ap suc (rest (omega (arith, k)))

first-right : (xs ys : List ℕ) (s : ℕ) → length xs ≤ first_place xs s → first_place (xs ++ ys) s ≡ length xs + first_place ys s
unfolding first_place
first-right [] ys s h = omega arith
first-right (t ∷ ts) ys s h = by (λ k. first-right ts ys s k) (eqb t s) h
  where
    by : (length ts ≤ first_place ts s → first_place (ts ++ ys) s ≡ length ts + first_place ys s) → (b : Bool) → suc (length ts) ≤ pick b 0 (suc (first_place ts s))
        → pick b 0 (suc (first_place (ts ++ ys) s)) ≡ suc (length ts) + first_place ys s
    by rest true k = absurd (omega (arith, k))
    by rest false k = let e = rest (omega (arith, k)) in omega (arith, e)

-- ---- the bytes at them

part_left : (xs ys : List ℕ) (at n : ℕ) → at + n ≤ length xs → part (xs ++ ys) at n ≡ part xs at n
part_left xs ys at n h =
    let d : at ≤ length xs = omega (arith, h) in
    let k : n ≤ length (drop at xs) = simp length-drop (omega (arith, h)) in
    ap (λ (l : List ℕ). take n l) (drop-append-le at xs ys d) ∙ take-append-le n (drop at xs) ys k

part_right : (xs ys : List ℕ) (at k n : ℕ) → k ≡ length xs + at → part (xs ++ ys) k n ≡ part ys at n
part_right xs ys at k n e = ap (λ (j : ℕ). part (xs ++ ys) j n) e ∙ ap (λ (l : List ℕ). take n l) (drop-append-add xs ys at)

-- ---- the slots of a list with their labels

module _ (B N : ℕ) (head tail all ls : List ℕ) where
  abbrev handed : ℕ → Shown
  handed s = record { slot = s; label = handed_label B N head tail s (part ls (13 * first_place all s) 13) }

  handed-append : (ss ts : List ℕ) → handed_from B N head tail all ls (ss ++ ts) ≡ handed_from B N head tail all ls ss ++ handed_from B N head tail all ls ts
  unfolding handed_from
  handed-append [] ts = refl
  handed-append (s ∷ ss) ts = ap (λ (l : List Shown). handed s ∷ l) (handed-append ss ts)

  handed-mem : (ss : List ℕ) {s : ℕ} → Memᴰ s ss → Memᴰ (handed s) (handed_from B N head tail all ls ss)
  unfolding handed_from
  handed-mem [] m = absurd (Memᴰ.not-nil m)
  handed-mem (t ∷ ss) m = ⊎_elim (λ e. Memᴰ.head (ap handed e)) (λ n. Memᴰ.tail (handed-mem ss n)) (Memᴰ.cases_cons m)

  handed-same : (others ms : List ℕ) → ((t : ℕ) → part ls (13 * first_place all t) 13 ≡ part ms (13 * first_place others t) 13) → (ss : List ℕ) → handed_from B N head tail all ls ss ≡ handed_from B N head tail others ms ss
  unfolding handed_from
  handed-same others ms g [] = refl
  handed-same others ms g (s ∷ ss) = rw (g s, handed-same others ms g ss)

-- ---- a slot that was named before, and what is handed in for it again

module _ (B N : ℕ) (head tail before after : List ℕ) (s : ℕ) (m : Memᴰ s before) (ks l ms : List ℕ) (p : length ks ≡ 13 * length before) (q : length l ≡ 13) where
  -- a slot that is not named before has its first place after both
  first-beyond : (t : ℕ) → length before ≤ first_place before t → first_place (s ∷ after) t ≡ suc (first_place after t)
  unfolding first_place
  first-beyond t h = rw (ne_eqb s t (λ e. let k = first-mem before s m in let w : first_place before s ≡ first_place before t = ap (λ (u : ℕ). first_place before u) e in omega (arith, h, k, w)))

  -- each slot of the shorter list has the bytes that it has in the longer one
  same_bytes : (t : ℕ) → part (ks ++ (l ++ ms)) (13 * first_place (before ++ (s ∷ after)) t) 13 ≡ part (ks ++ ms) (13 * first_place (before ++ after) t) 13
  same_bytes t =
      by-test (ltb (first_place before t) (length before))
      (λ e. let h = ltb-true (first_place before t) (length before) e in
      let k : 13 * first_place before t + 13 ≤ length ks = omega (arith, h, p) in
      ap (λ (j : ℕ). part (ks ++ (l ++ ms)) (13 * j) 13) (first-left before (s ∷ after) t h)
      ∙ part_left ks (l ++ ms) (13 * first_place before t) 13 k
      ∙ sym (part_left ks ms (13 * first_place before t) 13 k)
      ∙ ap (λ (j : ℕ). part (ks ++ ms) (13 * j) 13) (sym (first-left before after t h)))
      (λ e. let h = ltb-false (first_place before t) (length before) e in
      let f = first-right before (s ∷ after) t h in
      let g = first-beyond t h in
      let r = first-right before after t h in
      part_right ks (l ++ ms) (13 + 13 * first_place after t) (13 * first_place (before ++ (s ∷ after)) t) 13 (omega (arith, f, g, p))
      ∙ part_right l ms (13 * first_place after t) (13 + 13 * first_place after t) 13 (omega (arith, q))
      ∙ sym (part_right ks ms (13 * first_place after t) (13 * first_place (before ++ after) t) 13 (omega (arith, r, p))))

  -- neither list is empty
  neither-empty : eqb (length (before ++ (s ∷ after))) 0 ≡ eqb (length (before ++ after)) 0
  neither-empty =
      let k = first-mem before s m in
      let x = length-append before (s ∷ after) in
      let y = length-append before after in
      ne_eqb (length (before ++ (s ∷ after))) 0 (λ z. omega (arith, z, k, x)) ∙ sym (ne_eqb (length (before ++ after)) 0 (λ z. omega (arith, z, k, y)))

  -- both have 13 bytes a slot, or neither
  both-13 : eqb (length (ks ++ (l ++ ms))) (13 * length (before ++ (s ∷ after))) ≡ eqb (length (ks ++ ms)) (13 * length (before ++ after))
  both-13 =
      let a = length-append ks (l ++ ms) in
      let b = length-append l ms in
      let c = length-append ks ms in
      let x = length-append before (s ∷ after) in
      let y = length-append before after in
      by-test (eqb (length (ks ++ ms)) (13 * length (before ++ after)))
      (λ e. let h = eqb-true (length (ks ++ ms)) (13 * length (before ++ after)) e in eq-eqb (length (ks ++ (l ++ ms))) (13 * length (before ++ (s ∷ after))) (omega (arith, a, b, c, x, y, h, q)) ∙ sym e)
      (λ e. let h = eqb-false (length (ks ++ ms)) (13 * length (before ++ after)) e in ne_eqb (length (ks ++ (l ++ ms))) (13 * length (before ++ (s ∷ after))) (λ z. h (omega (arith, a, b, c, x, y, z, q))) ∙ sym e)

  judged-same : judge_from None (handed_from B N head tail (before ++ (s ∷ after)) (ks ++ (l ++ ms)) (before ++ (s ∷ after)))
      ≡ judge_from None (handed_from B N head tail (before ++ after) (ks ++ ms) (before ++ after))
  unfolding handed_from
  judged-same =
      let all = before ++ (s ∷ after) in
      let ls = ks ++ (l ++ ms) in
      ap (λ (r : List Shown). judge_from None r) (handed-append B N head tail all ls before (s ∷ after))
      ∙ again None (handed_from B N head tail all ls before) (handed_from B N head tail all ls after) (handed B N head tail all ls s) (handed-mem B N head tail all ls before m)
      ∙ ap (λ (r : List Shown). judge_from None r) (sym (handed-append B N head tail all ls before after) ∙ handed-same B N head tail all ls (before ++ after) (ks ++ ms) same_bytes (before ++ after))

  -- A slot that was named before can be left out with its 13 bytes, whatever they are, of any list, accepted or refused: it is judged as one.
  pub handed-as-one : handed_set B N head tail (before ++ (s ∷ after)) (ks ++ (l ++ ms)) ≡ handed_set B N head tail (before ++ after) (ks ++ ms)
  unfolding handed_set
  handed-as-one = rw (neither-empty, both-13, judged-same)
