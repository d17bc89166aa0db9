-- Where there is no room for two tables, every call refuses by the room's number, whatever the tables; where there is, images that agree have the same tables. So the answers are the same.
-- No contract cites this file. Assumes nothing.
use mathlib.Core.Path.{◌≡◌, refl, sym, ap, ◌∙◌, subst}
use mathlib.Core.List.{List}
use Prim.Native.Nat.{ℕ, zero, suc}
use native.Mathlib.Omega.{arith}
use borrow.Author.Tests.{eqb-true, eqb-false}
use lib.Dec.{eqb}
use lib.ListN.{length}
use Rattle.units.specs.declared.why.Why.{Why}
use Rattle.units.specs.Answer.{Answer, Outcome, or_else, if_zero, judged, settle}
use Rattle.units.proofs.Chains.{found, number-of, judged-some}
use Rattle.tables.specs.Lens.{Tables, tables_at}
use Rattle.tables.specs.Check.{room_check, check, slot_check}
use Rattle.tables.proofs.Orders.{by-test}
use Rattle.tables.proofs.Good.{room-ok}
use Rattle.listing.specs.Listing.{listing_check}
use Rattle.ground.specs.Ground.{Run}
use Rattle.ground.specs.Answers.{Rows, ground_check, settle_rows}
use Rattle.card.specs.Calls.{put_check, used_check, payload_check}
use Rattle.reader.specs.Reader.{reader_check, reader_slot_check, reader_row_check}
use Rattle.writers.specs.Agree.{Watched, AgreeOn, SameOn}
use Rattle.writers.proofs.Stores.{agree-tables}

-- ---- no room

module _ (B n : ℕ) where
  abbrev pub NoRoom : Type 0
  NoRoom = (room_check B n).number ≡ 0 → ⊥

  -- the refusal of the room comes first
  abbrev pub Late : (Tables → Why) → Type 0
  Late g = NoRoom → (t : Tables) → g t ≡ room_check B n

  then-late : {a : Why} (b : Why) → NoRoom → a ≡ room_check B n → or_else a b ≡ room_check B n
  then-late b q e = ap (λ (x : Why). or_else x b) e ∙ sym (found b refl q)

  pub late-check : Late (check B n)
  unfolding check
  late-check q t = sym (found _ refl q)

  pub late_slot : (s : ℕ) → Late (λ (t : Tables). slot_check B n t s)
  unfolding slot_check
  late_slot s q t = then-late _ q (late-check q t)

  pub late-put : (s : ℕ) (e : List ℕ) (reserved : ℕ) → Late (λ (t : Tables). put_check B n t s e reserved)
  unfolding put_check
  late-put s e reserved q t = then-late _ q (late-check q t)

  pub late-payload : (s p m : ℕ) → Late (λ (t : Tables). payload_check B n t s p m)
  unfolding payload_check used_check
  late-payload s p m q t = then-late _ q (then-late _ q (late_slot s q t))

  pub late-row : (m : ℕ) → Late (λ (t : Tables). listing_check B n t m)
  unfolding listing_check
  late-row m q t = then-late _ q (late-check q t)

  pub late-ground : (p q : ℕ) → Late (λ (t : Tables). ground_check B n t p q)
  unfolding ground_check
  late-ground p r q t = then-late _ q (late-check q t)

  pub late-reader : Late (reader_check B n)
  unfolding reader_check
  late-reader q t = sym (found _ refl q)

  pub late-reader-slot : (s : ℕ) → Late (λ (t : Tables). reader_slot_check B n t s)
  unfolding reader_slot_check
  late-reader-slot s q t = then-late _ q (late-reader q t)

  pub late-reader-row : (m : ℕ) → Late (λ (t : Tables). reader_row_check B n t m)
  unfolding reader_row_check
  late-reader-row m q t = then-late _ q (late-reader q t)

-- ---- what is made of a refusal, and of a value that a refusal hides

abbrev pub Blind : {A R : Type 0} → (Why → A → R) → Type 0
Blind {A} F = (w : Why) (v u : A) → (w.number ≡ 0 → ⊥) → F w v ≡ F w u

pub judged-blind : {A : Type 0} (w : Why) (v u : A) → (w.number ≡ 0 → ⊥) → judged w v ≡ judged w u
judged-blind w v u q = judged-some v w q ∙ sym (judged-some u w q)

second : {X : Type 0} (k : ℕ) (a b c : X) → (k ≡ 0 → ⊥) → if_zero k a c ≡ if_zero k b c
second zero a b c q = absurd (q refl)
second (suc k) a b c q = refl

pub ground-blind : (ss ls : List ℕ) → Blind (λ (w : Why) (rs : List Run). settle_rows w (judged w (length rs)) rs ss ls)
unfolding settle_rows
ground-blind ss ls w v u q = rows_eq (judged-blind w (length v) (length u) q) (second w.number _ _ ss q) (second w.number _ _ ls q)
  where
    rows_eq : {a b : Answer ℕ} {c d e f : List ℕ} → a ≡ b → c ≡ d → e ≡ f
        → ◌≡◌ {A = Rows (Answer ℕ)} (record { answer = a; starts = c; lengths = e }) (record { answer = b; starts = d; lengths = f })
    rows_eq x y z = cc

-- ---- what a call stores

pub settle-answer : {A : Type 0} (w : Why) (v : A) (old new : List ℕ) → (settle w v old new).answer ≡ judged w v
unfolding settle
settle-answer w v old new = refl

pub agree-settle : {W : ℕ → Type 0} {n : ℕ} {A C : Type 0} (w x : Why) (v : A) (u : C) {xs ys new new' : List ℕ} → w ≡ x → AgreeOn W n xs ys → (w.number ≡ 0 → AgreeOn W n new new')
    → AgreeOn W n (settle w v xs new).image (settle x u ys new').image
unfolding settle
agree-settle {W} {n} w x v u {xs} {ys} {new} {new'} e a h = by w.number x.number (number-of e) h
  where
    by : (k j : ℕ) → k ≡ j → (k ≡ 0 → AgreeOn W n new new') → AgreeOn W n (if_zero k new xs) (if_zero j new' ys)
    by zero zero q f = f refl
    by zero (suc j) q f = absurd (omega arith)
    by (suc k) zero q f = absurd (omega arith)
    by (suc k) (suc j) q f = a

-- by a test that does not look at the images
pub same-settle : {W : ℕ → Type 0} {n : ℕ} {A : Type 0} (w : Why) (v : A) {xs ys new new' : List ℕ} → AgreeOn W n xs ys → (w.number ≡ 0 → AgreeOn W n new new') → SameOn W n (settle w v xs new) (settle w v ys new')
same-settle w v a h = record { answer = settle-answer w v _ _ ∙ sym (settle-answer w v _ _); images = agree-settle w w v v refl a h }

module _ {W : ℕ → Type 0} {B n : ℕ} (sub : (i : ℕ) → Watched B n i → W i) {xs ys : List ℕ} (a : AgreeOn W n xs ys) where
  by-room : {X : Type 0} → ((room_check B n).number ≡ 0 → X) → (NoRoom B n → X) → X
  by-room f g = by-test (eqb (room_check B n).number 0) (λ e. f (eqb-true _ _ e)) (λ e. g (eqb-false _ _ e))

  one-tables : (room_check B n).number ≡ 0 → tables_at B n xs ≡ tables_at B n ys
  one-tables h = agree-tables (room-ok B n h) sub a

  pub one-check : (g : Tables → Why) → Late B n g → g (tables_at B n xs) ≡ g (tables_at B n ys)
  one-check g l = by-room (λ h. ap g (one-tables h)) (λ q. l q (tables_at B n xs) ∙ sym (l q (tables_at B n ys)))

  pub accepted-room : (g : Tables → Why) → Late B n g → (t : Tables) → (g t).number ≡ 0 → (room_check B n).number ≡ 0
  accepted-room g l t h = by-room (λ r. r) (λ q. sym (number-of (l q t)) ∙ h)

  pub one_answer : {A R : Type 0} (F : Why → A → R) → Blind F → (g : Tables → Why) (v : Tables → A) → Late B n g
      → F (g (tables_at B n xs)) (v (tables_at B n xs)) ≡ F (g (tables_at B n ys)) (v (tables_at B n ys))
  one_answer F f g v l =
      by-room (λ h. ap (λ (t : Tables). F (g t) (v t)) (one-tables h))
      (λ q.
      ap (λ (w : Why). F w (v (tables_at B n xs))) (l q (tables_at B n xs))
      ∙ f (room_check B n) (v (tables_at B n xs)) (v (tables_at B n ys)) q
      ∙ sym (ap (λ (w : Why). F w (v (tables_at B n ys))) (l q (tables_at B n ys))))

  -- a call that reads: its test and its value hang on the length and the tables
  pub reads : {A R : Type 0} (F : Why → A → R) → Blind F → (g : ℕ → Tables → Why) (v : ℕ → Tables → A) → Late B n (g n)
      → F (g (length xs) (tables_at B (length xs) xs)) (v (length xs) (tables_at B (length xs) xs)) ≡ F (g (length ys) (tables_at B (length ys) ys)) (v (length ys) (tables_at B (length ys) ys))
  reads F f g v l =
      ap (λ (m : ℕ). F (g m (tables_at B m xs)) (v m (tables_at B m xs))) a.left
      ∙ one_answer F f (g n) (v n) l
      ∙ sym (ap (λ (m : ℕ). F (g m (tables_at B m ys)) (v m (tables_at B m ys))) a.right)

  -- a call that stores what it makes of the tables
  pub stores : {A : Type 0} (g : Tables → Why) (v : Tables → A) (new : Tables → List ℕ → List ℕ) → Late B n g
      → ((room_check B n).number ≡ 0 → (t : Tables) → AgreeOn W n (new t xs) (new t ys))
      → SameOn W n (settle (g (tables_at B n xs)) (v (tables_at B n xs)) xs (new (tables_at B n xs) xs)) (settle (g (tables_at B n ys)) (v (tables_at B n ys)) ys (new (tables_at B n ys) ys))
  stores g v new l k =
      record {
        answer = settle-answer _ _ _ _ ∙ one_answer judged judged-blind g v l ∙ sym (settle-answer _ _ _ _);
        images = agree-settle _ _ _ _ (one-check g l) a (λ h. let r = accepted-room g l (tables_at B n xs) h in rw (one-tables r) (k r (tables_at B n ys)));
      }

  -- at the images' own lengths
  pub at-lengths : {A : Type 0} (o : ℕ → List ℕ → Outcome A) → SameOn W n (o n xs) (o n ys) → SameOn W n (o (length xs) xs) (o (length ys) ys)
  at-lengths o q =
      subst (λ (m : ℕ). SameOn W n (o m xs) (o (length ys) ys)) (sym a.left)
      (subst (λ (m : ℕ). SameOn W n (o n xs) (o m ys)) (sym a.right) q)
