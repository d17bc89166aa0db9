-- The laws of a set's judgement over the answers of its slots (`judge_from`), whatever gave these answers. No contract cites this file. Assumes nothing.
use Rattle.std.specs.Prelude.{Option, Some, None}
use mathlib.Core.Path.{◌≡◌, refl, sym, ap, ◌∙◌, subst}
use mathlib.Core.Logic.{◌⊎◌, inl, inr, ⊎_elim}
use mathlib.Core.Bool.{Bool, true, false}
use mathlib.Core.List.Memᴰ
use mathlib.Core.List.{List, [], ◌∷◌, ◌++◌, Memᴰ}
use Prim.Native.Nat.{ℕ}
use native.Mathlib.Omega.{arith}
use borrow.Author.Tests.{eq-eqb, eqb-true}
use lib.Dec.{eqb}
use Rattle.units.specs.declared.why.Why.{Why}
use Rattle.units.specs.Answer.{Answer, accepted, refused, refuse, plain, pick}
use Rattle.units.proofs.Laws.{and_both}
use Rattle.label.specs.declared.Label.{Label}
use Rattle.label.specs.declared.Dated.{Dated}
use Rattle.label.specs.Labels.{dated_of, same_dated}
use Rattle.label.specs.Judging.{Shown, SetAnswer, one_date, refused_at, step_answer, onward, judge_from}
use Rattle.label.specs.Sets.{Agrees, Fails, itself, differs}

-- ---- two dates

dated-eq : {y m k t y' m' k' t' : ℕ} → y ≡ y' → m ≡ m' → k ≡ k' → t ≡ t'
    → ◌≡◌ {A = Dated} (record { year = y; month = m; day = k; style = t }) (record { year = y'; month = m'; day = k'; style = t' })
dated-eq a b c d = cc

pub same-dated : (d e : Dated) → same_dated d e ≡ true → d ≡ e
unfolding same_dated
same-dated d e h =
    let a = and_both (eqb d.year e.year) _ h in
    let b = and_both (eqb d.month e.month) _ a.1 in
    let c = and_both (eqb d.day e.day) _ b.1 in
    dated-eq (eqb-true _ _ a.0) (eqb-true _ _ b.0) (eqb-true _ _ c.0) (eqb-true _ _ c.1)

pub dated-same : (d e : Dated) → e ≡ d → same_dated d e ≡ true
unfolding same_dated
dated-same d e h = rw (h, eq-eqb d.year d.year refl, eq-eqb d.month d.month refl, eq-eqb d.day d.day refl, eq-eqb d.style d.style refl)

-- ---- one slot

unlike : {A : Type 0} {v : A} {w : Why} {X : Type 0} → refused w ≡ accepted v → X
unlike {A} {v} {w} e = let z : ◌≡◌ {A = ℕ} 0 1 = cc in absurd (omega arith)

-- a step that is accepted gives the date of the label, and the first slot's where there is one
pub step-agrees : (a : Option Dated) (l : Answer Label) {d : Dated} → step_answer a l ≡ accepted d → Agrees d l
unfolding step_answer
step-agrees a (refused w) h = unlike h
step-agrees None (accepted x) h = record { label = x; reads = refl; dated = cc }
step-agrees (Some c) (accepted x) {d} h = by (same_dated c (dated_of x)) refl h
  where
    by : (t : Bool) → same_dated c (dated_of x) ≡ t → pick t (accepted c) (refuse 37) ≡ accepted d → Agrees d (accepted x)
    by true e q = let k : c ≡ d = cc in record { label = x; reads = refl; dated = sym (same-dated c (dated_of x) e) ∙ k }
    by false e q = unlike q

pub step_keeps : (l : Answer Label) {c d : Dated} → step_answer (Some c) l ≡ accepted d → c ≡ d
unfolding step_answer
step_keeps (refused w) h = unlike h
step_keeps (accepted x) {c} {d} h = by (same_dated c (dated_of x)) h
  where
    by : (t : Bool) → pick t (accepted c) (refuse 37) ≡ accepted d → c ≡ d
    by true q = cc
    by false q = unlike q

pub agrees-step : (l : Answer Label) {d : Dated} → Agrees d l → step_answer (Some d) l ≡ accepted d
unfolding step_answer
agrees-step l {d} g = rw (g.reads, dated-same d (dated_of g.label) g.dated)

pub agrees_first : (l : Answer Label) {d : Dated} → Agrees d l → step_answer None l ≡ accepted d
unfolding step_answer
agrees_first l g = rw g.reads (ap accepted g.dated)

-- a step that is refused: the label's own refusal, or 37 beside another date
pub first-fails : (l : Answer Label) {w : Why} → step_answer None l ≡ refused w → l ≡ refused w
unfolding step_answer
first-fails (refused v) {w} h = let k : v ≡ w = cc in ap refused k
first-fails (accepted x) h = unlike (sym h)

pub step-fails : (l : Answer Label) {d : Dated} {w : Why} → step_answer (Some d) l ≡ refused w → Fails d l w
unfolding step_answer
step-fails (refused v) {d} {w} h = let k : v ≡ w = cc in itself (ap refused k)
step-fails (accepted x) {d} {w} h = by (same_dated d (dated_of x)) refl h
  where
    by : (t : Bool) → same_dated d (dated_of x) ≡ t → pick t (accepted d) (refuse 37) ≡ refused w → Fails d (accepted x) w
    by true e q = unlike (sym q)
    by false e q = let k : w ≡ plain 37 = cc in differs x refl (λ p. let z : true ≡ false = sym (dated-same d (dated_of x) p) ∙ e in let y : ◌≡◌ {A = ℕ} 0 1 = cc in omega arith) k

-- ---- the list

-- every slot of a list of answers agrees on a date
abbrev pub AllAgree : Dated → List Shown → Type 0
AllAgree d rs = (x : Shown) → Memᴰ x rs → Agrees d x.label

no-date : {w : Why} {s : ℕ} {d : Dated} {X : Type 0} → refused_at w s ≡ one_date d → X
no-date {w} {s} {d} e = unlike (ap (λ (r : SetAnswer). r.answer) e)

one-date : {d e : Dated} → one_date d ≡ one_date e → d ≡ e
one-date {d} {e} h = let q : ◌≡◌ {A = Answer Dated} (accepted d) (accepted e) = ap (λ (r : SetAnswer). r.answer) h in cc

pub keeps : (rs : List Shown) {c d : Dated} → judge_from (Some c) rs ≡ one_date d → c ≡ d
unfolding judge_from
keeps [] h = one-date h
keeps (x ∷ rs) {c} {d} h = by (λ e k. keeps rs k) (step_answer (Some c) x.label) refl h
  where
    by : ((e : Dated) → judge_from (Some e) rs ≡ one_date d → e ≡ d) → (r : Answer Dated) → step_answer (Some c) x.label ≡ r → onward r x.slot (λ (e : Dated). judge_from (Some e) rs) ≡ one_date d → c ≡ d
    by rest (accepted e) q k = step_keeps x.label q ∙ rest e k
    by rest (refused w) q k = no-date k

pub one-agrees : (a : Option Dated) (rs : List Shown) {d : Dated} → judge_from a rs ≡ one_date d → AllAgree d rs
unfolding judge_from
one-agrees a [] h x m = absurd (Memᴰ.not-nil m)
one-agrees a (y ∷ rs) {d} h x m = by (λ e k n. one-agrees (Some e) rs k x n) (step_answer a y.label) refl h
  where
    by : ((e : Dated) → judge_from (Some e) rs ≡ one_date d → Memᴰ x rs → Agrees d x.label) → (r : Answer Dated) → step_answer a y.label ≡ r → onward r y.slot (λ (e : Dated). judge_from (Some e) rs) ≡ one_date d
        → Agrees d x.label
    by rest (refused w) q k = no-date k
    by rest (accepted e) q k =
        ⊎_elim
        (λ p. subst (λ (z : Shown). Agrees d z.label) (sym p) (step-agrees a y.label (q ∙ ap accepted (keeps rs k))))
        (λ n. rest e k n)
        (Memᴰ.cases_cons m)

pub agrees-rest : (rs : List Shown) {d : Dated} → AllAgree d rs → judge_from (Some d) rs ≡ one_date d
unfolding judge_from
agrees-rest [] g = refl
agrees-rest (x ∷ rs) {d} g = rw (agrees-step x.label (g x (Memᴰ.head refl))) (agrees-rest rs (λ y m. g y (Memᴰ.tail m)))

pub agrees-one : (x : Shown) (rs : List Shown) {d : Dated} → AllAgree d (x ∷ rs) → judge_from None (x ∷ rs) ≡ one_date d
unfolding judge_from
agrees-one x rs {d} g = rw (agrees_first x.label (g x (Memᴰ.head refl))) (agrees-rest rs (λ y m. g y (Memᴰ.tail m)))

-- ---- the first that fails

-- of a list held against a date: those before it agree, and it fails
pub record Stops (d : Dated) (rs : List Shown) (s : ℕ) (w : Why) : Type 0 where
  pub before : List Shown
  pub bad : Shown
  pub after : List Shown
  pub list : rs ≡ before ++ (bad ∷ after)
  pub agree : AllAgree d before
  pub slot : bad.slot ≡ s
  pub fails : Fails d bad.label w

refused-is : {v w : Why} {s t : ℕ} → refused_at v s ≡ refused_at w t → (v ≡ w) × (s ≡ t)
refused-is {v} {w} {s} {t} h =
    let q : ◌≡◌ {A = Answer Dated} (refused v) (refused w) = ap (λ (r : SetAnswer). r.answer) h in
    let k : v ≡ w = cc in
    (k, ap (λ (r : SetAnswer). r.slot) h)

one_more : {d : Dated} {rs : List Shown} {s : ℕ} {w : Why} (x : Shown) → Agrees d x.label → Stops d rs s w → Stops d (x ∷ rs) s w
one_more {d} x g t =
    record {
      before = x ∷ t.before;
      bad = t.bad;
      after = t.after;
      list = ap (λ (l : List Shown). x ∷ l) t.list;
      agree = λ y m. ⊎_elim (λ p. subst (λ (z : Shown). Agrees d z.label) (sym p) g) (λ n. t.agree y n) (Memᴰ.cases_cons m);
      slot = t.slot;
      fails = t.fails;
    }

pub stops : (rs : List Shown) {d : Dated} {s : ℕ} {w : Why} → judge_from (Some d) rs ≡ refused_at w s → Stops d rs s w
unfolding judge_from
stops [] h = no-date (sym h)
stops (x ∷ rs) {d} {s} {w} h = by (λ e k. stops rs k) (step_answer (Some d) x.label) refl h
  where
    by : ((e : Dated) → judge_from (Some e) rs ≡ refused_at w s → Stops e rs s w) → (r : Answer Dated) → step_answer (Some d) x.label ≡ r
        → onward r x.slot (λ (e : Dated). judge_from (Some e) rs) ≡ refused_at w s → Stops d (x ∷ rs) s w
    by rest (accepted e) q k =
        let p : d ≡ e = step_keeps x.label q in
        one_more x (step-agrees (Some d) x.label (q ∙ ap accepted (sym p))) (subst (λ (z : Dated). Stops z rs s w) (sym p) (rest e k))
    by rest (refused v) q k =
        let r = refused-is k in
        record { before = []; bad = x; after = rs; list = refl; agree = λ y m. absurd (Memᴰ.not-nil m); slot = r.1; fails = step-fails x.label (q ∙ ap refused r.0) }

-- of a whole list: its first slot fails by itself, or its date holds up to the first that fails
pub first_stops : (x : Shown) (rs : List Shown) {s : ℕ} {w : Why} → judge_from None (x ∷ rs) ≡ refused_at w s
    → ((x.label ≡ refused w) × (x.slot ≡ s)) ⊎ ((d : Dated) × Agrees d x.label × Stops d rs s w)
unfolding judge_from
first_stops x rs {s} {w} h = by (step_answer None x.label) refl h
  where
    by : (r : Answer Dated) → step_answer None x.label ≡ r → onward r x.slot (λ (e : Dated). judge_from (Some e) rs) ≡ refused_at w s
        → ((x.label ≡ refused w) × (x.slot ≡ s)) ⊎ ((d : Dated) × Agrees d x.label × Stops d rs s w)
    by (accepted e) q k = inr (e, step-agrees None x.label q, stops rs k)
    by (refused v) q k = let r = refused-is k in inl (first-fails x.label (q ∙ ap refused r.0), r.1)

-- ---- a slot that is named again

-- one that agrees is passed over
pub passed : (before after : List Shown) (x : Shown) {d : Dated} → Agrees d x.label → judge_from (Some d) (before ++ (x ∷ after)) ≡ judge_from (Some d) (before ++ after)
unfolding judge_from
passed [] after x g = rw (agrees-step x.label g)
passed (y ∷ before) after x {d} g = by (passed before after x g) (step_answer (Some d) y.label) refl
  where
    by : judge_from (Some d) (before ++ (x ∷ after)) ≡ judge_from (Some d) (before ++ after) → (r : Answer Dated) → step_answer (Some d) y.label ≡ r
        → onward r y.slot (λ (e : Dated). judge_from (Some e) (before ++ (x ∷ after))) ≡ onward r y.slot (λ (e : Dated). judge_from (Some e) (before ++ after))
    by rest (refused w) q = refl
    by rest (accepted e) q = subst (λ (c : Dated). judge_from (Some c) (before ++ (x ∷ after)) ≡ judge_from (Some c) (before ++ after)) (step_keeps y.label q) rest

-- so is one that was named before, whether the list is accepted or refused
pub again : (a : Option Dated) (before after : List Shown) (x : Shown) → Memᴰ x before → judge_from a (before ++ (x ∷ after)) ≡ judge_from a (before ++ after)
unfolding judge_from
again a [] after x m = absurd (Memᴰ.not-nil m)
again a (y ∷ before) after x m = by (λ e n. again (Some e) before after x n) (step_answer a y.label) refl
  where
    by : ((e : Dated) → Memᴰ x before → judge_from (Some e) (before ++ (x ∷ after)) ≡ judge_from (Some e) (before ++ after)) → (r : Answer Dated) → step_answer a y.label ≡ r
        → onward r y.slot (λ (e : Dated). judge_from (Some e) (before ++ (x ∷ after))) ≡ onward r y.slot (λ (e : Dated). judge_from (Some e) (before ++ after))
    by rest (refused w) q = refl
    by rest (accepted e) q =
        ⊎_elim
        (λ p. passed before after x (subst (λ (z : Shown). Agrees e z.label) (sym p) (step-agrees a y.label q)))
        (λ n. rest e n)
        (Memᴰ.cases_cons m)
