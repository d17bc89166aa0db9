-- What an image shows of the slots of a list: what is behind a label that was read, and the list beside the answers of its slots. No contract cites this file.
-- Assumes nothing.
use mathlib.Core.Path.{◌≡◌, refl, sym, ap, ◌∙◌, subst}
use mathlib.Core.Logic.{⊎_elim}
use mathlib.Core.Bool.{true, not}
use mathlib.Core.List.Memᴰ
use mathlib.Core.List.{List, [], ◌∷◌, ◌++◌, Memᴰ}
use Prim.Native.Nat.{ℕ}
use native.Mathlib.Omega.{arith}
use borrow.Author.Tests.{not-false}
use lib.ListN.{length}
use Rattle.units.specs.Answer.{accepted, plain}
use Rattle.units.specs.Places.{good_size}
use Rattle.units.proofs.Chains.{else-first, else-second, none-when, judged-zero}
use Rattle.tables.specs.Lens.{tables}
use Rattle.tables.specs.Entries.{used}
use Rattle.tables.specs.Check.{check, slot_check}
use Rattle.tables.proofs.Good.{slot_ok}
use Rattle.checking.proofs.CheckWays.{slot-good}
use Rattle.card.specs.Calls.{slot_entry, used_check}
use Rattle.card.proofs.PayWays.{used-slot, used-room}
use Rattle.label.specs.declared.Label.{Label}
use Rattle.label.specs.declared.Dated.{Dated}
use Rattle.label.specs.Labels.{label_at}
use Rattle.label.specs.Calls.{label_part, read_check, read_label_answer}
use Rattle.label.specs.Judging.{Shown, shown_in}
use Rattle.label.specs.Sets.{Agrees, Carries}
use Rattle.label.proofs.SetLaws.{AllAgree}

-- ---- what is behind a label that was read

module _ (B : ℕ) (xs : List ℕ) (s : ℕ) where
  pub read-used : {l : Label} → read_label_answer B xs s ≡ accepted l → (used_check B (length xs) (tables B xs) s).number ≡ 0
  unfolding read_check
  read-used {l} e = else-first (used_check B (length xs) (tables B xs) s) _ (judged-zero (label_at (label_part B xs s)) (read_check B xs s) l e)

  used-is : (used_check B (length xs) (tables B xs) s).number ≡ 0 → used (slot_entry (tables B xs) s) ≡ true
  unfolding used_check
  used-is h = not-false _ (none-when (not (used (slot_entry (tables B xs) s))) (plain 23) tt (else-second (slot_check B (length xs) (tables B xs) s) _ h))

  -- a slot whose label reads is one of the table's, and used
  pub carries : {d : Dated} → Agrees d (read_label_answer B xs s) → Carries B xs d s
  carries g =
      let h = read-used g.reads in
      let k = slot_ok s (slot-good B (length xs) (tables B xs) s (used-slot B xs s h)).1 in
      record { low = k.0; high = omega (arith, k.0, k.1); used = used-is h; agrees = g }

  -- and the card check accepts
  pub carried-check : {l : Label} → read_label_answer B xs s ≡ accepted l → (check B (length xs) (tables B xs)).number ≡ 0
  carried-check e = (slot-good B (length xs) (tables B xs) s (used-slot B xs s (read-used e))).0

  pub carried-size : {l : Label} → read_label_answer B xs s ≡ accepted l → good_size B ≡ true
  carried-size e = (used-room B xs s (read-used e)).good

-- ---- from the slots of a list to what an image shows of them

module _ (B : ℕ) (xs : List ℕ) where
  abbrev pub shown : ℕ → Shown
  shown s = record { slot = s; label = read_label_answer B xs s }

  pub mem-shown : (ss : List ℕ) {s : ℕ} → Memᴰ s ss → Memᴰ (shown s) (shown_in B xs ss)
  unfolding shown_in
  mem-shown [] m = absurd (Memᴰ.not-nil m)
  mem-shown (t ∷ ss) m = ⊎_elim (λ e. Memᴰ.head (ap shown e)) (λ n. Memᴰ.tail (mem-shown ss n)) (Memᴰ.cases_cons m)

  pub shown-append : (ss ts : List ℕ) → shown_in B xs (ss ++ ts) ≡ shown_in B xs ss ++ shown_in B xs ts
  unfolding shown_in
  shown-append [] ts = refl
  shown-append (s ∷ ss) ts = ap (λ (l : List Shown). shown s ∷ l) (shown-append ss ts)

  -- each of these answers is a slot's
  pub shown-all : (ss : List ℕ) {d : Dated} → ((s : ℕ) → Memᴰ s ss → Agrees d (read_label_answer B xs s)) → AllAgree d (shown_in B xs ss)
  unfolding shown_in
  shown-all [] g x m = absurd (Memᴰ.not-nil m)
  shown-all (t ∷ ss) {d} g x m =
      ⊎_elim
      (λ e. subst (λ (z : Shown). Agrees d z.label) (sym e) (g t (Memᴰ.head refl)))
      (λ n. shown-all ss (λ s k. g s (Memᴰ.tail k)) x n)
      (Memᴰ.cases_cons m)

  pub all_shown : (ss : List ℕ) {d : Dated} → AllAgree d (shown_in B xs ss) → (s : ℕ) → Memᴰ s ss → Agrees d (read_label_answer B xs s)
  all_shown ss g s m = g (shown s) (mem-shown ss m)

  -- a list cut where its answers are cut
  pub record Cut (ss : List ℕ) (before : List Shown) (x : Shown) (after : List Shown) : Type 0 where
    pub front : List ℕ
    pub back : List ℕ
    pub list : ss ≡ front ++ (x.slot ∷ back)
    pub shows : shown_in B xs front ≡ before
    pub label : x.label ≡ read_label_answer B xs x.slot

  pub cut : (ss : List ℕ) (before : List Shown) {x : Shown} {after : List Shown} → shown_in B xs ss ≡ before ++ (x ∷ after) → Cut ss before x after
  unfolding shown_in
  cut [] [] e = let z : ◌≡◌ {A = ℕ} 0 1 = cc in absurd (omega arith)
  cut [] (y ∷ before) e = let z : ◌≡◌ {A = ℕ} 0 1 = cc in absurd (omega arith)
  cut (s ∷ ss) [] {x} e =
      let p : shown s ≡ x = cc in
      record { front = []; back = ss; list = ap (λ (y : Shown). y.slot ∷ ss) p; shows = refl; label = ap (λ (y : Shown). y.label) (sym p) ∙ ap (λ (y : Shown). read_label_answer B xs y.slot) p }
  cut (s ∷ ss) (y ∷ before) {x} {after} e =
      let p : shown s ≡ y = cc in
      let q : shown_in B xs ss ≡ before ++ (x ∷ after) = cc in
      more p (cut ss before q)
    where
      more : shown s ≡ y → Cut ss before x after → Cut (s ∷ ss) (y ∷ before) x after
      more p k =
          record {
            front = s ∷ k.front;
            back = k.back;
            list = ap (λ (l : List ℕ). s ∷ l) k.list;
            shows = ap (λ (l : List Shown). shown s ∷ l) k.shows ∙ ap (λ (z : Shown). z ∷ before) p;
            label = k.label;
          }
