-- Both ways out of handing over a text, digits that are stored one by one, and numbers in a range. Assumes nothing.
use mathlib.Core.Path.{◌≡◌, refl, sym, ◌∙◌}
use mathlib.Core.Bool.{true, false}
use mathlib.Core.List.{List, [], ◌∷◌, ◌++◌}
use mathlib.Core.Logic.{inr}
use Prim.Native.Nat.{ℕ, zero, suc, ◌+◌, ◌-◌, ◌/◌, ◌%◌, ◌≤◌, ◌<◌}
use native.Mathlib.Omega.{arith}
use lib.Dec.{leb}
use borrow.Author.Tests.{lt-ltb, le-ltb, le-leb, lt-leb, leb-true}
use native.Mathlib.Nat.{zero-add}
use lib.ListN.{length, set, drop, length-append}
use Rattle.std.proofs.lemmas.List.Edits.{sets-eq}
use lib.Seq.{sets}
use Rattle.units.specs.Answer.{accepted, refuse, Ends, ends}
use Rattle.units.proofs.Laws.{and_both}
use Rattle.units.proofs.Lists.{sets-comm, sets_then, and_then}
use Rattle.text.specs.Digits.{digit_of, digits}
use Rattle.text.specs.Ranges.{between}
use Rattle.text.specs.Texts.{text_stored}

pub text-short : (out words : List ℕ) → length out ≤ length words → Ends (text_stored out words) (refuse 2) out
unfolding text_stored
text-short out words h = ends (rw (le-ltb _ _ h))

-- a text copied over the first bytes
pub put_first : (out words : List ℕ) → length words ≤ length out → words ++ drop (length words) out ≡ sets out 0 words
put_first out words h = sym (simp zero-add at (sets-eq {A = ℕ} words out 0 (omega arith)))

pub text-stored : (out words : List ℕ) → length words < length out → Ends (text_stored out words) (accepted (length words)) (set (words ++ drop (length words) out) (length words) 0)
unfolding text_stored
text-stored out words h =
    ends (rw (lt-ltb _ _ h, and_then out 0 words (length words) (0 ∷ []) (omega arith) (put_first out words (omega arith)) refl))

pub length_digits : (base n x : ℕ) → length (digits base n x) ≡ n
unfolding digits
length_digits base zero x = refl
length_digits base (suc n) x = rw (length-append (digits base n (x / base)) (digit_of (x % base) ∷ [])) (omega (arith, length_digits base n (x / base)))

-- the last digit is stored before those in front of it
pub digit-first : (s : List ℕ) (at base i v : ℕ) → 0 < i → sets (set s (at + (i - 1)) (digit_of (v % base))) at (digits base (i - 1) (v / base)) ≡ sets s at (digits base i v)
unfolding digits
digit-first s at base zero v h = absurd (omega (arith, h))
digit-first s at base (suc j) v h =
    let zs = digits base j (v / base) in
    let ds = digit_of (v % base) ∷ [] in
    let e : length zs ≡ j = length_digits base j (v / base) in
    let k : suc j - 1 ≡ j = omega arith in
    rw k (sets-comm s (at + j) ds at zs (inr (omega arith)) ∙ sets_then s at zs (at + j) ds (omega arith))

pub no-digits : (s : List ℕ) (at base v : ℕ) → sets s at (digits base 0 v) ≡ s
unfolding digits
no-digits s at base v = refl

-- ---- ranges

pub between-true : (a x b : ℕ) → between a x b ≡ true → (a ≤ x) × (x ≤ b)
unfolding between
between-true a x b e =
    let p = and_both (leb a x) (leb x b) e in
    (leb-true a x p.0, leb-true x b p.1)

pub in_between : (a x b : ℕ) → a ≤ x → x ≤ b → true ≡ between a x b
unfolding between
in_between a x b h k = rw (le-leb a x h, le-leb x b k)

pub below : (a x b : ℕ) → x < a → false ≡ between a x b
unfolding between
below a x b h = rw (lt-leb a x h)

pub above : (a x b : ℕ) → a ≤ x → b < x → false ≡ between a x b
unfolding between
above a x b h k = rw (le-leb a x h, lt-leb x b k)
