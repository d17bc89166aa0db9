-- The ways out of the calls on labels that are handed in, one law for each, and one slot's way through the list.
-- No contract cites this file. Assumes nothing.
use mathlib.Core.Path.{◌≡◌, sym, ap, ◌∙◌}
use mathlib.Core.Bool.{true, false}
use mathlib.Core.List.{List, [], ◌∷◌}
use Prim.Native.Nat.{ℕ, zero, suc, ◌+◌, ◌*◌, ◌-◌, ◌/◌, ◌%◌, ◌≤◌, ◌<◌}
use native.Mathlib.Omega.{arith}
use borrow.Author.Tests.{eqb-true, eqb-false, eq-eqb, ne_eqb}
use lib.Dec.{eqb}
use lib.ListN.{length, take, drop, get_or, drop_of_length-le}
use lib.Seq.{drop-cons}
use Rattle.std.specs.Prelude.{Option, Some, None}
use Rattle.units.specs.declared.BytePlace.{BytePlace}
use Rattle.units.specs.declared.why.Why.{Why}
use Rattle.units.specs.Answer.{Answer, accepted, refused, plain, and_then}
use Rattle.units.specs.Bytes.{part}
use Rattle.units.specs.Places.{good_size}
use Rattle.units.proofs.Lists.{lent-part}
use Rattle.tables.specs.Check.{check_answer}
use Rattle.tables.proofs.Orders.{by-test}
use Rattle.card.specs.Calls.{place_answer}
use Rattle.label.specs.declared.Label.{Label}
use Rattle.label.specs.declared.Dated.{Dated}
use Rattle.label.specs.Labels.{label_in}
use Rattle.label.specs.Judging.{SetAnswer, refused_at, step_answer, at_end, judge_from}
use Rattle.windows.specs.Windows.{window_answer}
use Rattle.windows_label.specs.Handed.{handed_label, first_place, handed_from, handed_set}

-- ---- so many slots, 13 bytes each

pub thirteen-ragged : (n m : ℕ) → (n % 13 ≡ 0 → ⊥) → false ≡ eqb n (13 * m)
thirteen-ragged n m d = sym (ne_eqb n (13 * m) (λ e. d (omega arith)))

pub thirteen-each : (n m : ℕ) → n % 13 ≡ 0 → eqb (n / 13) m ≡ eqb n (13 * m)
thirteen-each n m z =
    by-test (eqb (n / 13) m)
    (λ e. let q = eqb-true (n / 13) m e in e ∙ sym (eq-eqb n (13 * m) (omega arith)))
    (λ e. let q = eqb-false (n / 13) m e in e ∙ sym (ne_eqb n (13 * m) (λ z. q (omega arith))))

pub ruleset thirteens = (thirteen-ragged, thirteen-each)

-- ---- one label

module _ (B N : ℕ) (head tail : List ℕ) (s : ℕ) (ls : List ℕ) where
  pub handed-refused : {w : Why} → refused w ≡ window_answer B N head tail (λ (xs : List ℕ). place_answer B xs s 0 13) → refused w ≡ handed_label B N head tail s ls
  unfolding handed_label
  handed-refused e = ap (λ (x : Answer BytePlace). and_then x (λ (p : BytePlace). label_in ls)) e

  pub handed-read : {p : BytePlace} {r : Answer Label} → accepted p ≡ window_answer B N head tail (λ (xs : List ℕ). place_answer B xs s 0 13) → r ≡ label_in ls → r ≡ handed_label B N head tail s ls
  unfolding handed_label
  handed-read e h = h ∙ ap (λ (x : Answer BytePlace). and_then x (λ (p : BytePlace). label_in ls)) e

-- ---- the first place of a slot

module _ (ss : List ℕ) (s i : ℕ) where
  -- the slot at place i is the one: nothing of what is left stands before it
  pub first-here : i < length ss → get_or ss i 0 ≡ s → i + first_place (drop i ss) s ≡ i
  unfolding first_place
  first-here h e = rw (drop-cons ss i 0 h, eq-eqb (get_or ss i 0) s e) (omega arith)

  -- it is not: one place further
  pub first-later : i < length ss → (get_or ss i 0 ≡ s → ⊥) → i + 1 + first_place (drop (i + 1) ss) s ≡ i + first_place (drop i ss) s
  unfolding first_place
  first-later h d = let q : i + 1 ≡ suc i = omega arith in rw (drop-cons ss i 0 h, ne_eqb (get_or ss i 0) s d, q) (omega arith)

  -- the list is at its end
  pub first-none : length ss ≤ i → i + first_place (drop i ss) s ≡ i
  unfolding first_place
  first-none h = rw (drop_of_length-le ss h) (omega arith)

-- the slot at place i has its first place there or before
pub first-within : (ss : List ℕ) (s i : ℕ) → i < length ss → get_or ss i 0 ≡ s → first_place ss s ≤ i
unfolding first_place
first-within [] s i h e = omega (arith, h)
first-within (t ∷ ts) s zero h e = rw (eq-eqb t s e) (omega arith)
first-within (t ∷ ts) s (suc i) h e = by-test (eqb t s) (λ q. rw q (omega arith)) (λ q. rw q (omega (arith, first-within ts s i (omega (arith, h)) e)))

-- the label in its 13 bytes, which the code lends from the place that it found
module _ (B N : ℕ) (head tail : List ℕ) (s : ℕ) (ls : List ℕ) (n : ℕ) where
  pub handed-at : {m : ℕ} {r : Answer Label} → r ≡ handed_label B N head tail s (take (13 * n + 13 - 13 * n) (drop (13 * n) ls)) → n ≡ m → r ≡ handed_label B N head tail s (part ls (13 * m) 13)
  handed-at h e = h ∙ ap (λ (l : List ℕ). handed_label B N head tail s l) (lent-part ls (13 * n) 13 ∙ ap (λ (k : ℕ). part ls (13 * k) 13) e)

-- ---- the list

module _ (B N : ℕ) (head tail all ls ss : List ℕ) (i : ℕ) where
  handed-step : i < length ss → handed_from B N head tail all ls (drop i ss) ≡ record { slot = get_or ss i 0; label = handed_label B N head tail (get_or ss i 0) (part ls (13 * first_place all (get_or ss i 0)) 13) } ∷ handed_from B N head tail all ls (drop (i + 1) ss)
  unfolding handed_from
  handed-step h = let e : i + 1 ≡ suc i = omega arith in rw (drop-cons ss i 0 h, e)

  -- a slot that agrees: the rest of the list, held against its first date
  pub judge-next : i < length ss → (a : Option Dated) {d : Dated} → step_answer a (handed_label B N head tail (get_or ss i 0) (part ls (13 * first_place all (get_or ss i 0)) 13)) ≡ accepted d
      → judge_from (Some d) (handed_from B N head tail all ls (drop (i + 1) ss)) ≡ judge_from a (handed_from B N head tail all ls (drop i ss))
  unfolding judge_from
  judge-next h a e = rw (handed-step h, e)

  -- one that is refused: the end
  pub judge-stop : i < length ss → (a : Option Dated) {w : Why} → step_answer a (handed_label B N head tail (get_or ss i 0) (part ls (13 * first_place all (get_or ss i 0)) 13)) ≡ refused w
      → refused_at w (get_or ss i 0) ≡ judge_from a (handed_from B N head tail all ls (drop i ss))
  unfolding judge_from
  judge-stop h a e = rw (handed-step h, e)

  pub judge-end : length ss ≤ i → (a : Option Dated) → at_end a ≡ judge_from a (handed_from B N head tail all ls (drop i ss))
  unfolding judge_from handed_from
  judge-end h a = rw (drop_of_length-le ss h)

-- ---- 1, 38, the windows' and the check's, 2

module _ (B N : ℕ) (head tail ss ls : List ℕ) where
  pub set-1 : good_size B ≡ false → refused_at (plain 1) 0 ≡ handed_set B N head tail ss ls
  unfolding handed_set
  set-1 g = rw g

  module _ (g : good_size B ≡ true) where
    pub set-38 : eqb (length ss) 0 ≡ true → refused_at (plain 38) 0 ≡ handed_set B N head tail ss ls
    unfolding handed_set
    set-38 e = rw (g, e)

    module _ (e : eqb (length ss) 0 ≡ false) where
      pub set-refused : {w : Why} → refused w ≡ window_answer B N head tail (check_answer B) → refused_at w 0 ≡ handed_set B N head tail ss ls
      unfolding handed_set
      set-refused r = rw (g, e, sym r)

      module _ (r : accepted tt ≡ window_answer B N head tail (check_answer B)) where
        pub set-2 : eqb (length ls) (13 * length ss) ≡ false → refused_at (plain 2) 0 ≡ handed_set B N head tail ss ls
        unfolding handed_set
        set-2 h = rw (g, e, sym r, h)

        pub set-judged : eqb (length ls) (13 * length ss) ≡ true → {x : SetAnswer} → x ≡ judge_from None (handed_from B N head tail ss ls ss) → x ≡ handed_set B N head tail ss ls
        unfolding handed_set
        set-judged h p = rw (g, e, sym r, h) p
