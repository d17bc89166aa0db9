-- The ways out of the calls on windows, one law for all that read and one for all that store: what the tests told, and what the whole image then gives. No contract cites this file.
-- Assumes nothing.
use mathlib.Core.Path.{◌≡◌, refl, sym, ap, ◌∙◌}
use mathlib.Core.Bool.{Bool, true, false, not, ◌&&◌}
use mathlib.Core.List.{List}
use Prim.Native.Nat.{ℕ, zero, suc, ◌*◌, ◌^◌, ◌≤◌, ◌<◌}
use native.Mathlib.Omega.{arith}
use borrow.Author.Tests.{eqb-true, eqb-false, le-leb, lt-leb}
use lib.Dec.{eqb, leb}
use lib.ListN.{length}
use Rattle.std.specs.Prelude.{Result, Ok, Err}
use Rattle.units.specs.declared.why.Why.{Why}
use Rattle.units.specs.declared.Reason.{Reason}
use Rattle.units.specs.declared.Refusal.TheVariants.{BadBlockSize, Overflow, WindowLength}
use Rattle.units.specs.Answer.{Answer, accepted, refused, Outcome, gives, plain, when, or_else, if_zero, judged, settle}
use Rattle.units.specs.Refusals.{why_at, reason_of}
use Rattle.units.specs.Meanings.{card_means, verdict_of}
use Rattle.units.specs.Places.{good_size}
use Rattle.units.proofs.Chains.{here, on, number-of, found, past, Bare, bare-when, bare-else, Named, named-is, named-when, named-else, verdict-judged, judged-none, judged-some, settle-accepted, settle-refused}
use Rattle.tables.specs.Lens.{Tables, tables, tables_at}
use Rattle.tables.specs.Check.{room_check}
use Rattle.tables.proofs.Orders.{by-test}
use Rattle.tables.proofs.Dropped.{bare-room}
use Rattle.checking.proofs.CheckWays.{named-room}
use Rattle.windows.specs.Windows.{head_long, tail_long, whole, window_tables, length_check, window_check, window_answer, in_windows, windowed_by, window_outcome, WindowEnds, window_why}
use Rattle.windows.proofs.Whole.{Fits, fits_by, length_whole, head-whole, tail-whole, tables-whole}

-- ---- the windows' own numbers

pub bare-length : (B h k : ℕ) → Bare (length_check B h k)
unfolding length_check
bare-length B h k = bare-when (not (eqb h (head_long B) && eqb k (tail_long B))) 32

pub named-length : (B h k : ℕ) → Named (length_check B h k)
unfolding length_check
named-length B h k = named-when (not (eqb h (head_long B) && eqb k (tail_long B))) _ (named-is WindowLength)

pub bare-window : (B N h k : ℕ) → Bare (window_check B N h k)
unfolding window_check
bare-window B N h k =
    bare-else (when (not (good_size B)) (plain 1)) _ (bare-when (not (good_size B)) 1)
    (bare-else (when (leb (2 ^ 64) (N * B)) (plain 3)) _ (bare-when (leb (2 ^ 64) (N * B)) 3)
    (bare-else (room_check B (N * B)) _ (bare-room B (N * B)) (bare-length B h k)))

pub named-window : (B N h k : ℕ) → Named (window_check B N h k)
unfolding window_check
named-window B N h k =
    named-else (when (not (good_size B)) (plain 1)) _ (named-when (not (good_size B)) _ (named-is BadBlockSize))
    (named-else (when (leb (2 ^ 64) (N * B)) (plain 3)) _ (named-when (leb (2 ^ 64) (N * B)) _ (named-is Overflow))
    (named-else (room_check B (N * B)) _ (named-room B (N * B)) (named-length B h k)))

-- ---- the tests of the windows in their order

pub length-fine : (B h k : ℕ) → eqb h (head_long B) && eqb k (tail_long B) ≡ true → ◌≡◌ {A = ℕ} 0 (length_check B h k).number
unfolding length_check
length-fine B h k e = rw e

pub length-wrong : (B h k : ℕ) → eqb h (head_long B) && eqb k (tail_long B) ≡ false → ◌≡◌ {A = ℕ} 32 (length_check B h k).number
unfolding length_check
length-wrong B h k e = rw e

-- of two tests the first number that is not 0
pub in_order : (w l : Why) {f m : ℕ} → f ≡ w.number → m ≡ l.number → if_zero f m f ≡ (or_else w l).number
unfolding or_else
in_order w l {m} p q = ap (λ (k : ℕ). if_zero k m k) p ∙ ap (λ (k : ℕ). if_zero w.number k w.number) q ∙ by w.number
  where
    by : (n : ℕ) → if_zero n l.number w.number ≡ (if_zero n l w).number
    by zero = refl
    by (suc n) = refl

module _ (B N h k : ℕ) {g : Bool} (e : g ≡ good_size B) where
  pub window-size : not g ≡ true → ◌≡◌ {A = ℕ} 1 (window_check B N h k).number
  unfolding window_check
  window-size q = number-of {f = plain 1} (here _ refl (ap not (sym e) ∙ q))

  module _ (q : not g ≡ false) where
    pub window-over : 2 ^ 64 ≤ N * B → ◌≡◌ {A = ℕ} 3 (window_check B N h k).number
    unfolding window_check
    window-over p = number-of {f = plain 3} (on (plain 1) (ap not (sym e) ∙ q) (here _ refl (le-leb (2 ^ 64) (N * B) p)))

    pub window-last : N * B < 2 ^ 64 → {r l : ℕ} → r ≡ (room_check B (N * B)).number → l ≡ (length_check B h k).number → if_zero r l r ≡ (window_check B N h k).number
    unfolding window_check
    window-last p w m = in_order (room_check B (N * B)) (length_check B h k) w m ∙ number-of (on (plain 1) (ap not (sym e) ∙ q) (on (plain 3) (lt-leb (2 ^ 64) (N * B) p) refl))

-- a refusal that has a name, as each kind of answer tells it
pub told-verdict : (w : Why) → Named w → {f : Why} → f ≡ w → (f.number ≡ 0 → ⊥) → card_means (verdict_of f) ≡ refused f
told-verdict w k {f} e d =
    let d' : w.number ≡ 0 → ⊥ = λ z. d (number-of e ∙ z) in
    ap (λ (x : Why). card_means (verdict_of x)) e ∙ verdict-judged w k ∙ judged-some tt w d' ∙ ap refused (sym e)

pub told-reason : (w : Why) → Named w → {f : Why} {r : Reason} → f ≡ w → (f.number ≡ 0 → ⊥) → r ≡ reason_of f → why_at r ≡ f
told-reason w k {f} {r} e d q = ap why_at q ∙ ap (λ (x : Why). why_at (reason_of x)) e ∙ k.name (λ z. d (number-of e ∙ z)) ∙ sym e

pub if-zero : {X : Type 0} (k : ℕ) (a b : X) → k ≡ 0 → if_zero k a b ≡ a
if-zero zero a b e = refl
if-zero (suc k) a b e = absurd (omega arith)

pub if-not : {X : Type 0} (k : ℕ) (a b : X) → (k ≡ 0 → ⊥) → if_zero k a b ≡ b
if-not zero a b d = absurd (d refl)
if-not (suc k) a b d = refl

-- a verdict that `?` passes, and one that it hands on
told : Result Unit Reason → ℕ
told (Ok x) = 0
told (Err r) = 1

reason_in : Reason → Result Unit Reason → Reason
reason_in s (Ok x) = s
reason_in s (Err r) = r

abbrev told_by : ℕ → Why → Result Unit Reason
told_by n f = if_zero {X = Result Unit Reason} n (Ok tt) (Err (reason_of f))

passed-at : (f : Why) (n : ℕ) → told_by 0 f ≡ told_by n f → n ≡ 0
unfolding told
passed-at f zero q = refl
passed-at f (suc n) q = let z : ◌≡◌ {A = ℕ} 0 1 = ap told q in absurd (omega arith)

pub verdict-passed : (f : Why) → Ok tt ≡ verdict_of f → f.number ≡ 0
unfolding verdict_of
verdict-passed f e = passed-at f f.number e

pub verdict-wrong : (f : Why) {r : Reason} → Err r ≡ verdict_of f → f.number ≡ 0 → ⊥
unfolding verdict_of told
verdict-wrong f {r} e z =
    let q : Err r ≡ Ok tt = e ∙ ap (λ (n : ℕ). if_zero n (Ok tt) (Err (reason_of f))) z in
    let y : ◌≡◌ {A = ℕ} 1 0 = ap told q in
    absurd (omega arith)

pub verdict-reason : (f : Why) {r : Reason} → Err r ≡ verdict_of f → r ≡ reason_of f
unfolding verdict_of reason_in
verdict-reason f {r} e = ap (reason_in r) (e ∙ if-not f.number (Ok tt) (Err (reason_of f)) (verdict-wrong f e))

else-assoc : (a b c : Why) → or_else (or_else a b) c ≡ or_else a (or_else b c)
unfolding or_else
else-assoc a b c = by a.number refl
  where
    by : (k : ℕ) → a.number ≡ k → or_else (if_zero k b a) c ≡ if_zero k (or_else b c) a
    by zero q = refl
    by (suc k) q = if-not a.number c a (λ z. omega arith)

-- ---- the calls

module _ (B N : ℕ) (head tail : List ℕ) where
  abbrev W : Why
  W = window_check B N (length head) (length tail)

  abbrev T : Tables
  T = window_tables B head tail

  pub named-why : (g : ℕ → Tables → Why) → ((n : ℕ) (t : Tables) → Named (g n t)) → Named (window_why B N head tail g)
  named-why g k = named-else W _ (named-window B N (length head) (length tail)) (k (N * B) T)

  -- the windows' number is 0, or it is what refuses
  pub by-window : {X : Type 0} → (W.number ≡ 0 → X) → ((W.number ≡ 0 → ⊥) → X) → X
  by-window f g = by-test (eqb W.number 0) (λ e. f (eqb-true _ _ e)) (λ e. g (eqb-false _ _ e))

  pub passed-why : (g : ℕ → Tables → Why) → W.number ≡ 0 → window_why B N head tail g ≡ g (N * B) T
  passed-why g z = sym (past {f = W} refl z refl)

  pub failed-why : (g : ℕ → Tables → Why) → (W.number ≡ 0 → ⊥) → window_why B N head tail g ≡ W
  failed-why g d = sym (found _ refl d)

  -- one test more, after those that found f
  module _ (g m : ℕ → Tables → Why) {f : Why} (e : f ≡ window_why B N head tail g) where
    pub then_found : (f.number ≡ 0 → ⊥) → f ≡ window_why B N head tail (λ (n : ℕ) (t : Tables). or_else (g n t) (m n t))
    then_found d = found (m (N * B) T) e d ∙ else-assoc W (g (N * B) T) (m (N * B) T)

    pub then-passed : f.number ≡ 0 → {r : Why} → r ≡ m (N * B) T → r ≡ window_why B N head tail (λ (n : ℕ) (t : Tables). or_else (g n t) (m n t))
    then-passed z q = past e z q ∙ else-assoc W (g (N * B) T) (m (N * B) T)

  -- where nothing refuses, the windows fit
  pub why-fits : (g : ℕ → Tables → Why) {f : Why} → f ≡ window_why B N head tail g → f.number ≡ 0 → Fits B N head tail
  why-fits g e z = by-window (fits_by B N head tail) (λ d. absurd (d (sym (number-of (failed-why g d)) ∙ sym (number-of e) ∙ z)))

  pub why-zero : (g : ℕ → Tables → Why) {f : Why} → f ≡ window_why B N head tail g → f.number ≡ 0 → (g (N * B) T).number ≡ 0
  why-zero g e z =
      by-window (λ w. sym (number-of (passed-why g w)) ∙ sym (number-of e) ∙ z) (λ d. absurd (d (sym (number-of (failed-why g d)) ∙ sym (number-of e) ∙ z)))

  pub window-zero : (g : ℕ → Tables → Why) {f : Why} → f ≡ window_why B N head tail g → f.number ≡ 0 → W.number ≡ 0
  window-zero g e z = by-window (λ w. w) (λ d. absurd (d (sym (number-of (failed-why g d)) ∙ sym (number-of e) ∙ z)))

  -- what hangs on the length and the tables, on the whole image and on the windows
  pub at-whole : {X : Type 0} (F : ℕ → Tables → X) → Fits B N head tail → F (length (whole B N head tail)) (tables B (whole B N head tail)) ≡ F (N * B) T
  at-whole F q =
      let l = length_whole B N q.room head tail q.head-long q.tail-long in
      ap (λ (n : ℕ). F n (tables_at B n (whole B N head tail))) l ∙ ap (F (N * B)) (tables-whole B N q.room head tail q.head-long q.tail-long)

  -- where nothing refuses, an answer is the whole image's, and so is what was found
  pub answer_at : (g : ℕ → Tables → Why) {f : Why} → f ≡ window_why B N head tail g → f.number ≡ 0 → {A : Type 0} (h : List ℕ → Answer A) → window_answer B N head tail h ≡ h (whole B N head tail)
  unfolding window_answer
  answer_at g e z h = if-zero W.number _ _ (window-zero g e z)

  pub found_at : (g : ℕ → Tables → Why) {f : Why} → f ≡ window_why B N head tail g → W.number ≡ 0 → f ≡ g (length (whole B N head tail)) (tables B (whole B N head tail))
  found_at g e z = e ∙ passed-why g z ∙ sym (at-whole g (fits_by B N head tail z))

  -- a call that reads
  module _ {A : Type 0} (g : ℕ → Tables → Why) (v : ℕ → Tables → A) {f : Why} (e : f ≡ window_why B N head tail g) where
    -- refused, and accepted
    pub asks-refused : (f.number ≡ 0 → ⊥) → refused f ≡ window_answer B N head tail (λ xs. judged (g (length xs) (tables B xs)) (v (length xs) (tables B xs)))
    unfolding window_answer
    asks-refused d =
        by-window
        (λ z.
        let h = e ∙ passed-why g z in
        ap refused h
        ∙ sym (judged-some (v (N * B) T) (g (N * B) T) (λ y. d (number-of h ∙ y)))
        ∙ sym (at-whole (λ n t. judged (g n t) (v n t)) (fits_by B N head tail z))
        ∙ sym (if-zero W.number _ _ z))
        (λ q. ap refused (e ∙ failed-why g q) ∙ sym (if-not W.number _ _ q))

    pub asks-given : f.number ≡ 0 → accepted (v (N * B) T) ≡ window_answer B N head tail (λ xs. judged (g (length xs) (tables B xs)) (v (length xs) (tables B xs)))
    unfolding window_answer
    asks-given y =
        let z = window-zero g e y in
        sym (judged-none (v (N * B) T) (g (N * B) T) (why-zero g e y))
        ∙ sym (at-whole (λ n t. judged (g n t) (v n t)) (fits_by B N head tail z))
        ∙ sym (if-zero W.number _ _ z)

  -- a verdict
  pub verdict-asked : (g : ℕ → Tables → Why) → ((n : ℕ) (t : Tables) → Named (g n t)) → {f : Why} → f ≡ window_why B N head tail g
      → card_means (verdict_of f) ≡ window_answer B N head tail (λ xs. judged (g (length xs) (tables B xs)) tt)
  verdict-asked g k {f} e =
      by-test (eqb f.number 0)
      (λ q.
      let z = eqb-true f.number 0 q in
      ap (λ (x : Why). card_means (verdict_of x)) e
      ∙ verdict-judged (window_why B N head tail g) (named-why g k)
      ∙ judged-none tt (window_why B N head tail g) (sym (number-of e) ∙ z)
      ∙ asks-given g (λ (n : ℕ) (t : Tables). tt) e z)
      (λ q. let d = eqb-false f.number 0 q in told-verdict (window_why B N head tail g) (named-why g k) e d ∙ asks-refused g (λ (n : ℕ) (t : Tables). tt) e d)

  -- a call that stores
  module _ {A : Type 0} (g : ℕ → Tables → Why) (v : ℕ → Tables → A) (new : List ℕ → List ℕ) {f : Why} (e : f ≡ window_why B N head tail g) where
    abbrev Call : List ℕ → Outcome (Answer A)
    Call xs = settle (g (length xs) (tables B xs)) (v (length xs) (tables B xs)) xs (new xs)

    pub stores-nothing : (f.number ≡ 0 → ⊥) → WindowEnds (window_outcome B N head tail Call) (refused f) head tail
    unfolding windowed_by
    stores-nothing d =
        by-window
        (λ z.
        let q = fits_by B N head tail z in
        let h = e ∙ passed-why g z in
        let k : g (length (whole B N head tail)) (tables B (whole B N head tail)) ≡ f = at-whole g q ∙ sym h in
        let o : Call (whole B N head tail) ≡ gives (refused f) (whole B N head tail) =
        settle-refused _ _ (whole B N head tail) _ (λ y. d (sym (number-of k) ∙ y)) ∙ ap (λ (w : Why). gives (refused w) (whole B N head tail)) k in
        let i : window_outcome B N head tail Call ≡ in_windows B (N * B) (gives (refused f) (whole B N head tail)) =
        if-zero W.number _ _ z ∙ ap (in_windows B (N * B)) o in
        rw i
        (record {
          answer = refl;
          front = sym (head-whole B N q.room head tail q.head-long q.tail-long);
          back = sym (tail-whole B N q.room head tail q.head-long q.tail-long);
        }))
        (λ q. rw (if-not W.number (in_windows B (N * B) (Call (whole B N head tail))) (record { answer = refused W; head = head; tail = tail }) q)
        (record { answer = ap refused (e ∙ failed-why g q); front = refl; back = refl }))

    pub stores_both : f.number ≡ 0 → {h t : List ℕ} → new (whole B N head tail) ≡ whole B N h t → length h ≡ head_long B → length t ≡ tail_long B
        → WindowEnds (window_outcome B N head tail Call) (accepted (v (N * B) T)) h t
    unfolding windowed_by
    stores_both y {h} {t} s lh lt =
        let z = window-zero g e y in
        let q = fits_by B N head tail z in
        let k : (g (length (whole B N head tail)) (tables B (whole B N head tail))).number ≡ 0 = number-of (at-whole g q) ∙ why-zero g e y in
        let o : Call (whole B N head tail) ≡ gives (accepted (v (N * B) T)) (whole B N h t) =
        settle-accepted _ _ (whole B N head tail) _ k
        ∙ ap (λ (x : A). gives (accepted x) (new (whole B N head tail))) (at-whole v q) ∙ ap (λ (l : List ℕ). gives (accepted (v (N * B) T)) l) s in
        let i : window_outcome B N head tail Call ≡ in_windows B (N * B) (gives (accepted (v (N * B) T)) (whole B N h t)) =
        if-zero W.number _ _ z ∙ ap (in_windows B (N * B)) o in
        rw i
        (record { answer = refl; front = sym (head-whole B N q.room h t lh lt); back = sym (tail-whole B N q.room h t lh lt) })
