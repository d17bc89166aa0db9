-- The laws of checks in their order (`specs/Answer`): what a chain gives at each way out of the code, what an accepted chain says of its checks, and that a chain's
-- refusal has a name. No contract cites this file. Assumes nothing.
use mathlib.Core.Path.{◌≡◌, refl, sym, ap, ◌∙◌}
use mathlib.Core.Bool.{Bool, true, false}
use mathlib.Core.List.{List, [], ◌∷◌}
use Prim.Native.Nat.{ℕ, zero, suc, ◌≤◌, ◌<◌}
use native.Mathlib.Omega.{arith}
use lib.Dec.{T, ltb, ltb→lt}
use lib.ListN.{length, get_or}
use borrow.Author.Tests.{lt-ltb, ltb-true}
use Rattle.units.specs.declared.Refusal.{Refusal}
use Rattle.units.specs.declared.Refusal.TheVariants.{EmptyList}
use Rattle.units.specs.declared.Reason.{Reason}
use Rattle.units.specs.declared.Place.{Place}
use Rattle.units.specs.declared.Place.TheVariants.{Nowhere}
use Rattle.std.specs.Prelude.{Result, Ok, Err}
use Rattle.units.specs.declared.why.Why.{Why}
use Rattle.units.specs.Answer.{Answer, accepted, refused, plain, fine, placed, within, dropped, when, if_zero, or_else, judged, settle, gives, pick}
use Rattle.units.specs.Refusals.{why, why_at, number, names, refusal_of, reason_of, later_refusal, reason-back}
use Rattle.units.specs.Meanings.{card_means, verdict_of, means}

-- ---- the ways out of the code

-- a test that holds, or does not
pub here : {t : Bool} {k : ℕ} {w : Why} (m : Why) → w.number ≡ suc k → t ≡ true → w ≡ or_else (when t w) m
unfolding or_else
here m n q = rw (q, n)

pub on : {t : Bool} (w : Why) {r : Why} {m : Why} → t ≡ false → r ≡ m → r ≡ or_else (when t w) m
unfolding or_else
on w q h = rw q h

pub last : {t : Bool} (w : Why) → t ≡ true → w ≡ when t w
last w q = rw q

pub none : {t : Bool} (w : Why) → t ≡ false → fine ≡ when t w
none w q = rw q

-- a number that is not 0, or is
some : {X : Type 0} (k : ℕ) (a b : X) → (k ≡ 0 → ⊥) → b ≡ if_zero k a b
some zero a b d = absurd (d refl)
some (suc k) a b d = refl

pub number-of : {f a : Why} → f ≡ a → f.number ≡ a.number
number-of e = ap (λ (w : Why). w.number) e

-- what a part found refuses; where it found nothing the next part gives the answer
pub found : {f a : Why} (m : Why) → f ≡ a → (f.number ≡ 0 → ⊥) → f ≡ or_else a m
unfolding or_else
found {f} {a} m e d = e ∙ some a.number m a (λ z. d (number-of e ∙ z))

pub past : {f a r m : Why} → f ≡ a → f.number ≡ 0 → r ≡ m → r ≡ or_else a m
unfolding or_else
past {f} {a} {r} {m} e z q = q ∙ ap (λ (k : ℕ). if_zero k m a) (sym z ∙ number-of e)

-- ---- an accepted chain

pub else-none : (a b : Why) → a.number ≡ 0 → b.number ≡ 0 → (or_else a b).number ≡ 0
unfolding or_else
else-none a b p q = ap (λ (k : ℕ). (if_zero k b a).number) p ∙ q

first-zero : (k : ℕ) (a b : Why) → a.number ≡ k → (if_zero k b a).number ≡ 0 → k ≡ 0
first-zero zero a b e h = refl
first-zero (suc k) a b e h = sym e ∙ h

pub else-first : (a b : Why) → (or_else a b).number ≡ 0 → a.number ≡ 0
unfolding or_else
else-first a b h = first-zero a.number a b refl h

pub else-second : (a b : Why) → (or_else a b).number ≡ 0 → b.number ≡ 0
unfolding or_else
else-second a b h = sym (ap (λ (k : ℕ). (if_zero k b a).number) (else-first a b h)) ∙ h

pub when-none : (t : Bool) (w : Why) → t ≡ false → (when t w).number ≡ 0
when-none t w e = ap (λ (b : Bool). (when b w).number) e

pub none-when : (t : Bool) (w : Why) → T (ltb 0 w.number) → (when t w).number ≡ 0 → t ≡ false
none-when true w h e = absurd (omega (arith, ltb→lt 0 w.number h))
none-when false w h e = refl

-- ---- a refusal that names nothing, by its number alone, and the place that it is found at

pub record Bare (w : Why) : Type 0 where
  pub bare : w ≡ plain w.number

pub bare-when : (t : Bool) (n : ℕ) → Bare (when t (plain n))
bare-when true n = record { bare = refl }
bare-when false n = record { bare = refl }

pub bare-else : (a b : Why) → Bare a → Bare b → Bare (or_else a b)
unfolding or_else
bare-else a b p q = by a.number
  where
    by : (k : ℕ) → Bare (if_zero k b a)
    by zero = q
    by (suc k) = p

-- the code has the number k of such a part, and says the place with it
pub found_at : (p : Place) {k : ℕ} (a m : Why) → Bare a → k ≡ a.number → (k ≡ 0 → ⊥) → placed k p ≡ or_else (within p a) m
unfolding or_else within
found_at p {k} a m b e d = rw (b.bare, ← e) (by k d)
  where
    by : (n : ℕ) → (n ≡ 0 → ⊥) → placed n p ≡ if_zero (if_zero n fine (placed n p)).number m (if_zero n fine (placed n p))
    by zero z = absurd (z refl)
    by (suc n) z = refl

pub past-at : (p : Place) {r m : Why} (a : Why) → a.number ≡ 0 → r ≡ m → r ≡ or_else (within p a) m
unfolding or_else within
past-at p a z q = rw z q

pub found-bare : {k : ℕ} (a m : Why) → Bare a → k ≡ a.number → (k ≡ 0 → ⊥) → plain k ≡ or_else a m
unfolding or_else
found-bare {k} a m b e d = rw (b.bare, ← e) (some k m (plain k) d)

pub within_none : (p : Place) (w : Why) → w.number ≡ 0 → (within p w).number ≡ 0
unfolding within
within_none p w z = rw z

pub none_within : (p : Place) (w : Why) → (within p w).number ≡ 0 → w.number ≡ 0
unfolding within
none_within p w h = by w.number refl h
  where
    by : (k : ℕ) → w.number ≡ k → (if_zero k fine (record { number = w.number; slot = w.slot; place = p })).number ≡ 0 → w.number ≡ 0
    by zero e q = e
    by (suc k) e q = q

-- ---- dropping the place

pub dropped-else : (a b : Why) → dropped (or_else a b) ≡ or_else (dropped a) (dropped b)
unfolding or_else
dropped-else a b = by a.number
  where
    by : (k : ℕ) → dropped (if_zero k b a) ≡ if_zero k (dropped b) (dropped a)
    by zero = refl
    by (suc k) = refl

pub dropped-when : (t : Bool) (w : Why) → dropped (when t w) ≡ when t (dropped w)
dropped-when true w = refl
dropped-when false w = refl

pub dropped-bare : (w : Why) → Bare w → dropped w ≡ w
dropped-bare w b = ap dropped b.bare ∙ sym b.bare

pub dropped-within : (p : Place) (w : Why) → Bare w → dropped (within p w) ≡ w
unfolding within
dropped-within p w b = rw b.bare (by w.number)
  where
    by : (k : ℕ) → dropped (if_zero k fine (placed k p)) ≡ plain k
    by zero = refl
    by (suc k) = refl

-- ---- the name of a chain's refusal

-- a refusal as a value that has a name, or none
pub record Named (w : Why) : Type 0 where
  pub name : (w.number ≡ 0 → ⊥) → why_at (reason_of w) ≡ w

pub named-at : (r : Refusal) (p : Place) → Named (record { number = number r; slot = (why r).slot; place = p })
named-at r p = record { name = λ d. ap why_at (reason-back (record { what = r; place = p })) }

pub named-is : (r : Refusal) → Named (why r)
named-is r = record { name = λ d. ap why_at (reason-back (record { what = r; place = Nowhere })) }

pub named-when : (t : Bool) (w : Why) → Named w → Named (when t w)
named-when true w n = n
named-when false w n = record { name = λ d. absurd (d refl) }

pub named-else : (a b : Why) → Named a → Named b → Named (or_else a b)
unfolding or_else
named-else a b p q = by a.number
  where
    by : (k : ℕ) → Named (if_zero k b a)
    by zero = q
    by (suc k) = p

pub named-within : (p : Place) (w : Why) → Named w → Named (within p w)
unfolding within reason_of refusal_of
named-within p w n = by w.number refl
  where
    by : (k : ℕ) → w.number ≡ k → Named (if_zero k fine (record { number = w.number; slot = w.slot; place = p }))
    by zero e = record { name = λ d. absurd (d refl) }
    by (suc k) e = record { name = λ d. ap (λ (v : Why). record { number = v.number; slot = v.slot; place = p }) (n.name d) }

-- the verdict of such a refusal means it
pub verdict-judged : (w : Why) → Named w → card_means (verdict_of w) ≡ judged w tt
unfolding verdict_of judged
verdict-judged w n = by w.number (reason_of w) n.name
  where
    by : (k : ℕ) (r : Reason) → ((k ≡ 0 → ⊥) → why_at r ≡ w) → card_means (if_zero {X = Result Unit Reason} k (Ok tt) (Err r)) ≡ if_zero k (accepted tt) (refused w)
    by zero r e = refl
    by (suc k) r e = ap refused (e (λ z. omega arith))

-- ---- numbers by name, as a match of code comes to them

past_end : {A : Type 0} (xs : List A) (n : ℕ) (d : A) → length xs ≤ n → d ≡ get_or xs n d
past_end [] n d h = refl
past_end (x ∷ xs) zero d h = absurd (omega arith)
past_end (x ∷ xs) (suc n) d h = past_end xs n d (omega arith)

pub past-later : (w : Why) → (24 < w.number → 37 < w.number) → EmptyList ≡ later_refusal w
unfolding refusal_of
past-later w p = by (ltb 24 w.number) refl
  where
    by : (t : Bool) → ltb 24 w.number ≡ t → EmptyList ≡ pick t (get_or (names w.slot) w.number EmptyList) EmptyList
    by true e = past_end (names w.slot) w.number EmptyList (let far : 37 < w.number = p (ltb-true 24 w.number e) in omega arith)
    by false e = refl

pub later-names : (w : Why) → (0 < w.number → 24 < w.number) → later_refusal w ≡ refusal_of w
unfolding refusal_of
later-names w p = by w.number p
  where
    by : (n : ℕ) → (0 < n → 24 < n) → pick (ltb 24 n) (get_or (names w.slot) n EmptyList) EmptyList ≡ get_or (names w.slot) n EmptyList
    by zero q = refl
    by (suc n) q = ap (λ (t : Bool). pick t (get_or (names w.slot) (suc n) EmptyList) EmptyList) (lt-ltb 24 (suc n) (q (omega arith)))

pub verdict-fine : (w : Why) → w.number ≡ 0 → Ok tt ≡ verdict_of w
unfolding verdict_of
verdict-fine w e = rw e

pub verdict-refused : (w : Why) {r : Reason} → (w.number ≡ 0 → ⊥) → r ≡ reason_of w → Err r ≡ verdict_of w
unfolding verdict_of
verdict-refused w d e = ap Err e ∙ some w.number (Ok tt) (Err (reason_of w)) d

-- ---- the ends of a call

module _ {A : Type 0} (v : A) where
  pub judged-none : (w : Why) → w.number ≡ 0 → judged w v ≡ accepted v
  unfolding judged
  judged-none w h = rw h

  pub judged-some : (w : Why) → (w.number ≡ 0 → ⊥) → judged w v ≡ refused w
  unfolding judged
  judged-some w d = sym (some w.number (accepted v) (refused w) d)

  pub judged-zero : (w : Why) (x : A) → judged w v ≡ accepted x → w.number ≡ 0
  unfolding judged
  judged-zero w x h = by w.number refl h
    where
      by : (k : ℕ) → w.number ≡ k → if_zero k (accepted v) (refused w) ≡ accepted x → w.number ≡ 0
      by zero e q = e
      by (suc k) e q = let z : ◌≡◌ {A = ℕ} 0 1 = cc in absurd (omega arith)

  -- nothing refuses: the new slice
  pub settle-accepted : (w : Why) (old new : List ℕ) → w.number ≡ 0 → settle w v old new ≡ gives (accepted v) new
  unfolding settle judged
  settle-accepted w old new h = rw h

  -- a refusal changes nothing
  pub settle-refused : (w : Why) (old new : List ℕ) → (w.number ≡ 0 → ⊥) → settle w v old new ≡ gives (refused w) old
  unfolding settle
  settle-refused w old new d =
      ap (λ (a : Answer A). gives a (if_zero w.number new old)) (judged-some w d)
      ∙ ap (λ (l : List ℕ). gives (refused w) l) (sym (some w.number new old d))
