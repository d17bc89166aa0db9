-- What the label calls come to, as theorems over their definitions: an accepted set has one date and one style revision; what is named again, or left out, changes
-- nothing; a refused set names the first slot that fails or differs; a label write is a payload write, and what was written is the label. No contract cites this file.
-- Assumes nothing.
use Rattle.std.specs.Prelude.{None}
use mathlib.Core.Path.{◌≡◌, refl, sym, ap, ◌∙◌, subst}
use mathlib.Core.Logic.{◌⊎◌, ⊎_elim}
use mathlib.Core.Bool.{Bool, true, false, not}
use mathlib.Core.List.Memᴰ
use mathlib.Core.List.{List, [], ◌∷◌, ◌++◌, Memᴰ}
use Prim.Native.Nat.{ℕ, zero, suc, ◌≤◌, ◌<◌}
use native.Mathlib.Omega.{arith}
use borrow.Author.Tests.{eq-eqb, ne_eqb, not-false}
use lib.Dec.{eqb}
use lib.ListN.{length}
use lib.Seq.{sets}
use mir.Val.{Val}
use denote.Shadow.{shadow}
use denote.Struct.Declared.{row}
use Rattle.units.specs.declared.why.Why.{Why}
use Rattle.units.specs.Answer.{Answer, accepted, refused, plain, when, if_zero, or_else, settle, Outcome, gives}
use Rattle.units.specs.Bytes.{num, bytes}
use Rattle.units.specs.Places.{good_size}
use Rattle.units.proofs.Chains.{number-of, else-first, else-second, none-when, judged-none, judged-zero, settle-accepted, settle-refused}
use Rattle.units.proofs.Laws.{le_bytes, same_refl}
use Rattle.tables.specs.Lens.{Tables, tables}
use Rattle.tables.specs.Check.{check}
use Rattle.card.specs.Calls.{used_check, payload_check, payload_at, payload_outcome}
use Rattle.label.specs.declared.Label.{Label}
use Rattle.label.specs.declared.Dated.{Dated}
use Rattle.label.specs.Labels.{mark, good_date, label_of, label_bytes, LabelHeld}
use Rattle.label.specs.Calls.{label_place, read_label_answer, write_check, write_label_outcome}
use Rattle.label.specs.Judging.{Shown, SetAnswer, one_date, refused_at, judge_from, shown_in, set_check, judge_answer}
use Rattle.label.specs.Sets.{Agrees, Carries, Fails, FirstBad, at_once, later}
use Rattle.label.specs.contracts.Label.{the_type}
use Rattle.label.proofs.Ways.{judged-refused, never-24, label-good, length_label}
use Rattle.label.proofs.JudgeWays.{judge-list}
use Rattle.label.proofs.SetLaws.{AllAgree, one-agrees, agrees-one, Stops, first_stops, again}
use Rattle.label.proofs.Numbers.{set-numbers}
use Rattle.label.proofs.Shows.{carries, carried-check, carried-size, shown, shown-append, mem-shown, shown-all, all_shown, cut}

-- ---- an accepted set

unlike : {w : Why} {s : ℕ} {d : Dated} {X : Type 0} → refused_at w s ≡ one_date d → X
unlike {w} {s} {d} e =
    let q : ◌≡◌ {A = Answer Dated} (refused w) (accepted d) = ap (λ (r : SetAnswer). r.answer) e in
    let z : ◌≡◌ {A = ℕ} 0 1 = cc in
    absurd (omega arith)

module _ (B : ℕ) (xs ss : List ℕ) where
  -- an accepted set was judged slot by slot
  one-listed : {d : Dated} → judge_answer B xs ss ≡ one_date d → judge_from None (shown_in B xs ss) ≡ one_date d
  unfolding judge_answer
  one-listed {d} e = by (set_check B (length xs) (tables B xs) ss).number e
    where
      by : (k : ℕ) → if_zero k (judge_from None (shown_in B xs ss)) (refused_at (set_check B (length xs) (tables B xs) ss) 0) ≡ one_date d → judge_from None (shown_in B xs ss) ≡ one_date d
      by zero q = q
      by (suc k) q = unlike q

  -- 1. An accepted set has one date and one style revision: every named slot is used, its label reads, and carries them.
  pub accepted-set : {d : Dated} → judge_answer B xs ss ≡ one_date d → (s : ℕ) → Memᴰ s ss → Carries B xs d s
  accepted-set e s m = carries B xs s (all_shown B xs ss (one-agrees None (shown_in B xs ss) (one-listed e)) s m)

-- and a list of which each slot carries them is accepted, if it names any
pub set-accepted : (B : ℕ) (xs : List ℕ) (s : ℕ) (ss : List ℕ) {d : Dated} → ((t : ℕ) → Memᴰ t (s ∷ ss) → Carries B xs d t) → judge_answer B xs (s ∷ ss) ≡ one_date d
unfolding shown_in
set-accepted B xs s ss {d} g =
    let r = (g s (Memᴰ.head refl)).agrees.reads in
    let h : judge_from None (shown_in B xs (s ∷ ss)) ≡ one_date d = agrees-one (shown B xs s) (shown_in B xs ss) (shown-all B xs (s ∷ ss) (λ t m. (g t m).agrees)) in
    sym (judge-list B xs (s ∷ ss) (carried-size B xs s r) (ne_eqb (length (s ∷ ss)) 0 (λ z. omega arith)) (sym (judged-none tt (check B (length xs) (tables B xs)) (carried-check B xs s r))) (sym h))

-- 2. Any list whose slots are all named by an accepted list is accepted with the same answer, if it names any: so any other order, and any slot named again.
pub sub-set : (B : ℕ) (xs ss : List ℕ) (t : ℕ) (ts : List ℕ) {d : Dated} → judge_answer B xs ss ≡ one_date d → ((s : ℕ) → Memᴰ s (t ∷ ts) → Memᴰ s ss) → judge_answer B xs (t ∷ ts) ≡ one_date d
sub-set B xs ss t ts e sub = set-accepted B xs t ts (λ s m. accepted-set B xs ss e s (sub s m))

-- the tests before the slots do not look at the list but for its being empty
set_same : (B n : ℕ) (t : Tables) (ss ts : List ℕ) → eqb (length ss) 0 ≡ eqb (length ts) 0 → set_check B n t ss ≡ set_check B n t ts
unfolding set_check
set_same B n t ss ts e = ap (λ (z : Bool). or_else (when (not (good_size B)) (plain 1)) (or_else (when z (plain 38)) (check B n t))) e

filled : (before after : List ℕ) {s : ℕ} → Memᴰ s before → eqb (length (before ++ after)) 0 ≡ false
filled [] after m = absurd (Memᴰ.not-nil m)
filled (x ∷ before) after m = ne_eqb (length ((x ∷ before) ++ after)) 0 (λ z. omega arith)

-- and a slot that was named before can be left out of any list, accepted or refused: it is judged as one.
pub judged-as-one : (B : ℕ) (xs before after : List ℕ) (s : ℕ) → Memᴰ s before → judge_answer B xs (before ++ (s ∷ after)) ≡ judge_answer B xs (before ++ after)
unfolding judge_answer shown_in
judged-as-one B xs before after s m =
    let c : set_check B (length xs) (tables B xs) (before ++ (s ∷ after)) ≡ set_check B (length xs) (tables B xs) (before ++ after) =
    set_same B (length xs) (tables B xs) (before ++ (s ∷ after)) (before ++ after) (filled before (s ∷ after) m ∙ sym (filled before after m)) in
    let j : judge_from None (shown_in B xs (before ++ (s ∷ after))) ≡ judge_from None (shown_in B xs (before ++ after)) =
    ap (λ (l : List Shown). judge_from None l) (shown-append B xs before (s ∷ after))
    ∙ again None (shown_in B xs before) (shown_in B xs after) (shown B xs s) (mem-shown B xs before m)
    ∙ sym (ap (λ (l : List Shown). judge_from None l) (shown-append B xs before after)) in
    ap (λ (w : Why). if_zero w.number (judge_from None (shown_in B xs (before ++ (s ∷ after)))) (refused_at w 0)) c
    ∙ ap (λ (r : SetAnswer). if_zero (set_check B (length xs) (tables B xs) (before ++ after)).number r (refused_at (set_check B (length xs) (tables B xs) (before ++ after)) 0)) j

-- ---- a refused set

-- an empty list is refused by 1 or 38
set-empty : (B n : ℕ) (t : Tables) → (set_check B n t []).number ≡ 0 → ⊥
unfolding set_check
set-empty B n t h =
    let e : ◌≡◌ {A = ℕ} 38 0 = else-first (plain 38) (check B n t) (else-second (when (not (good_size B)) (plain 1)) (or_else (plain 38) (check B n t)) h) in
    omega arith

-- the first slot's date holds up to the first that fails
stopped : (B : ℕ) (xs : List ℕ) (t : ℕ) (ss : List ℕ) {s : ℕ} {w : Why} (d : Dated) → Agrees d (read_label_answer B xs t) → Stops d (shown_in B xs ss) s w → FirstBad B xs (t ∷ ss) s w
stopped B xs t ss {s} {w} d g k =
    let c = cut B xs ss k.before k.list in
    later t c.front c.back d
    (ap (λ (l : List ℕ). t ∷ l) c.list ∙ ap (λ (u : ℕ). t ∷ (c.front ++ (u ∷ c.back))) k.slot)
    (carries B xs t g)
    (λ u m. carries B xs u (all_shown B xs c.front (subst (λ (l : List Shown). AllAgree d l) (sym c.shows) k.agree) u m))
    (subst (λ (a : Answer Label). Fails d a w) (c.label ∙ ap (λ (u : ℕ). read_label_answer B xs u) k.slot) k.fails)

bad-of : (B : ℕ) (xs ss : List ℕ) {s : ℕ} {w : Why} → (set_check B (length xs) (tables B xs) ss).number ≡ 0 → judge_from None (shown_in B xs ss) ≡ refused_at w s → FirstBad B xs ss s w
unfolding shown_in
bad-of B xs [] z h = absurd (set-empty B (length xs) (tables B xs) z)
bad-of B xs (t ∷ ss) {s} {w} z h =
    ⊎_elim
    (λ p. at_once ss (ap (λ (u : ℕ). u ∷ ss) p.1) (ap (λ (u : ℕ). read_label_answer B xs u) (sym p.1) ∙ p.0))
    (λ p. stopped B xs t ss p.0 p.1 p.2)
    (first_stops (shown B xs t) (shown_in B xs ss) h)

-- 3. A set that is refused by 18, 23 or 34 to 37 names the first slot that fails or differs: every slot before it is fine and agrees with the first.
pub refused-set : (B : ℕ) (xs ss : List ℕ) {s : ℕ} {w : Why} → judge_answer B xs ss ≡ refused_at w s → 17 < w.number → w.number < 38 → FirstBad B xs ss s w
unfolding judge_answer
refused-set B xs ss {s} {w} e a b = by (set_check B (length xs) (tables B xs) ss) (set_check B (length xs) (tables B xs) ss).number refl (set-numbers B (length xs) (tables B xs) ss) (bad-of B xs ss) e
  where
    by : (u : Why) (k : ℕ) → u.number ≡ k → (u.number ≤ 17) ⊎ (u.number ≡ 38) → (u.number ≡ 0 → judge_from None (shown_in B xs ss) ≡ refused_at w s → FirstBad B xs ss s w)
        → if_zero k (judge_from None (shown_in B xs ss)) (refused_at u 0) ≡ refused_at w s → FirstBad B xs ss s w
    by u zero p n f q = f p q
    by u (suc k) p n f q =
        let h : ◌≡◌ {A = Answer Dated} (refused u) (refused w) = ap (λ (r : SetAnswer). r.answer) q in
        let v : u ≡ w = cc in
        let m = number-of v in
        absurd (⊎_elim (λ x. omega arith) (λ x. omega arith) n)

-- ---- a label that is written

label_eq : {y m k t h y' m' k' t' h' : ℕ} → y ≡ y' → m ≡ m' → k ≡ k' → t ≡ t' → h ≡ h'
    → ◌≡◌ {A = Label} (record { year = y; month = m; day = k; style = t; sheet = h }) (record { year = y'; month = m'; day = k'; style = t'; sheet = h' })
label_eq a b c d e = cc

-- 4a. The 13 bytes of a label with a date tell the label again.
pub label-back : (l : Label) → LabelHeld l → good_date l.month l.day ≡ true → label_of (label_bytes l) ≡ accepted l
unfolding label_bytes bytes num
label-back l h g =
    let v : eqb (num (label_bytes l) 3 2) 1 ≡ true = eq-eqb (num (label_bytes l) 3 2) 1 (le_bytes 2 1 (omega arith)) in
    let y : num (label_bytes l) 5 2 ≡ l.year = le_bytes 2 l.year h.year in
    let t : num (label_bytes l) 9 2 ≡ l.style = le_bytes 2 l.style h.style in
    let e : num (label_bytes l) 11 2 ≡ l.sheet = le_bytes 2 l.sheet h.sheet in
    sym (label-good (label_bytes l) (same_refl mark) v g) ∙ ap accepted (label_eq y refl refl t e)

module _ (B : ℕ) (xs : List ℕ) (s : ℕ) (l : Label) where
  -- 4b. A label write that is refused changes nothing.
  pub refused-write : {w : Why} → (write_label_outcome B xs s l).answer ≡ refused w → (write_label_outcome B xs s l).image ≡ xs
  unfolding write_label_outcome settle
  refused-write {w} e = ap (λ (o : Outcome (Answer Unit)). o.image) (settle-refused tt (write_check B (length xs) (tables B xs) s l) xs _ (judged-refused tt (write_check B (length xs) (tables B xs) s l) (sym e)).0)

  module _ (e : (write_label_outcome B xs s l).answer ≡ accepted tt) where
    write-none : (write_check B (length xs) (tables B xs) s l).number ≡ 0
    unfolding write_label_outcome settle
    write-none = judged-zero tt (write_check B (length xs) (tables B xs) s l) tt e

    pub written-used : (used_check B (length xs) (tables B xs) s).number ≡ 0
    unfolding write_check
    written-used = else-first (used_check B (length xs) (tables B xs) s) _ write-none

    pub written-date : good_date l.month l.day ≡ true
    unfolding write_check
    written-date = not-false _ (none-when (not (good_date l.month l.day)) (plain 36) tt (else-second (used_check B (length xs) (tables B xs) s) _ write-none))

    -- 4c. One that is accepted stores the 13 bytes at the partition's start.
    pub written-image : (write_label_outcome B xs s l).image ≡ sets xs (label_place B (tables B xs) s) (label_bytes l)
    unfolding write_label_outcome
    written-image = ap (λ (o : Outcome (Answer Unit)). o.image) (settle-accepted tt _ xs _ write-none)

    pub written-pays : (payload_check B (length xs) (tables B xs) s 0 (length (label_bytes l))).number ≡ 0
    written-pays = ap (λ (m : ℕ). (payload_check B (length xs) (tables B xs) s 0 m).number) (length_label l) ∙ number-of (never-24 B xs s) ∙ written-used

    -- 4d. It is the payload write of these bytes at place 0, which is accepted too: so demand 3 covers it.
    pub write-is-payload : payload_outcome B xs s 0 (label_bytes l) ≡ gives (accepted 13) (write_label_outcome B xs s l).image
    unfolding payload_at
    write-is-payload =
        settle-accepted (length (label_bytes l)) _ xs _ written-pays
        ∙ ap (λ (n : ℕ). gives (accepted n) (sets xs (label_place B (tables B xs) s) (label_bytes l))) (length_label l)
        ∙ ap (λ (i : List ℕ). gives (accepted 13) i) (sym written-image)

-- a label that the code holds fits: what owning it tells
pub label-held-of : (l : Label) (vs : List Val) → shadow ((row the_type).own_val l vs) → LabelHeld l
label-held-of l vs o =
    let f = o.1.1 in
    record { year = f.0.1; month = f.1.0.1; day = f.1.1.0.1; style = f.1.1.1.0.1; sheet = f.1.1.1.1.0.1 }
