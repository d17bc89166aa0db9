-- What is told reads back: the text of a GUID is read as that GUID. Assumes nothing.
use mathlib.Core.Path.{◌≡◌, refl, ◌∙◌}
use mathlib.Core.Bool.{Bool, true, false}
use mathlib.Core.List.{List, [], ◌∷◌, ◌++◌}
use Prim.Native.Nat.{ℕ, zero, suc, ◌+◌, ◌*◌, ◌/◌, ◌%◌, ◌^◌, ◌<◌}
use native.Mathlib.Nat.{pow-suc, mul_assoc}
use native.Mathlib.Omega.{arith}
use lib.Dec.{ltb}
use borrow.Author.Tests.{ltb-true, ltb-false, lt-ltb}
use Rattle.units.specs.declared.Guid.{Guid}
use Rattle.units.specs.Held.{GuidHeld}
use Rattle.text.specs.Digits.{digit_of, digits}
use Rattle.text.proofs.Laws.{in_between, above}
use Rattle.guid_text.specs.Hex.{hex_digit_value, hex_after}
use Rattle.guid_text.specs.GuidTexts.{big, text_of_guid, dash_place, right_at, wrong_from, hex_in, tail_in, guid_in, guid_of_text}
use Rattle.guid_text.proofs.Laws.{length-text}

-- ---- one digit

-- a digit that was written is read as its value
digit-below : (v : ℕ) → v < 16 → hex_digit_value (digit_of v) ≡ v
unfolding hex_digit_value digit_of
digit-below v h = go (ltb v 10) refl
  where
    go : (t : Bool) → ltb v 10 ≡ t → hex_digit_value (digit_of v) ≡ v
    go true e = let l = ltb-true v 10 e in rw (e, ← in_between 48 (48 + v) 57 (omega arith) (omega arith)) (omega arith)
    go false e =
        let g = ltb-false v 10 e in
        rw (
          e,
          ← above 48 (87 + v) 57 (omega arith) (omega arith),
          ← above 65 (87 + v) 70 (omega arith) (omega arith),
          ← in_between 97 (87 + v) 102 (omega arith) (omega arith),
        ) (omega arith)

digit-back : (y : ℕ) → hex_digit_value (digit_of (y % 16)) ≡ y % 16
digit-back y = digit-below (y % 16) (omega arith)

digit-right : (y : ℕ) → ltb (hex_digit_value (digit_of (y % 16))) 16 ≡ true
digit-right y = rw (digit-back y) (lt-ltb (y % 16) 16 (omega arith))

-- ---- several digits

hex-snoc : (v : ℕ) (xs : List ℕ) (c : ℕ) → hex_after v (xs ++ (c ∷ [])) ≡ hex_after v xs * 16 + hex_digit_value c % 16
unfolding hex_after
hex-snoc v [] c = refl
hex-snoc v (x ∷ xs) c = hex-snoc (v * 16 + hex_digit_value x % 16) xs c

-- digits that were written are read as their number
hex-back : (n x v : ℕ) → x < 16 ^ n → hex_after v (digits 16 n x) ≡ v * 16 ^ n + x
unfolding hex_after digits
hex-back zero x v h = omega (arith, h)
hex-back (suc n) x v h =
    let p : 16 ^ suc n ≡ 16 ^ n * 16 = pow-suc 16 n in
    let l : x / 16 < 16 ^ n = omega (arith, h, p) in
    let e = hex-back n (x / 16) v l in
    hex-snoc v (digits 16 n (x / 16)) (digit_of (x % 16)) ∙ rw (digit-back x, p, ← mul_assoc v (16 ^ n) 16) (omega (arith, e))

-- two digits are a byte
hex-two : (y : ℕ) → hex_after 0 (digit_of (y / 16 % 16) ∷ digit_of (y % 16) ∷ []) ≡ y % 256
unfolding hex_after
hex-two y = rw (digit-back (y / 16), digit-back y) (omega arith)

-- ---- the whole text

all_right : (g : Guid) → wrong_from (text_of_guid g) 0 36 ≡ 36
unfolding wrong_from right_at dash_place text_of_guid digits
all_right g = simp digit-right

-- the three numbers
low-back : (g : Guid) → GuidHeld g → hex_in (text_of_guid g) 0 8 ≡ g.time_low
unfolding text_of_guid digits
low-back g f = hex-back 8 g.time_low 0 f.fields.low ∙ omega arith

mid_back : (g : Guid) → GuidHeld g → hex_in (text_of_guid g) 9 4 ≡ g.time_mid
unfolding text_of_guid digits
mid_back g f = hex-back 4 g.time_mid 0 f.fields.mid ∙ omega arith

high-back : (g : Guid) → GuidHeld g → hex_in (text_of_guid g) 14 4 ≡ g.time_high
unfolding text_of_guid digits
high-back g f = hex-back 4 g.time_high 0 f.fields.high ∙ omega arith

-- the eight bytes
tail-back : (g : Guid) → GuidHeld g → tail_in (text_of_guid g) ≡ g.tail
unfolding tail_in text_of_guid digits big
tail-back g f =
    let t = g.tail in
    let c = (0 * 256 + t.0) * 256 + t.1 in
    let n = (((((0 * 256 + t.2) * 256 + t.3) * 256 + t.4) * 256 + t.5) * 256 + t.6) * 256 + t.7 in
    let e0 : hex_in (text_of_guid g) 19 2 ≡ t.0 = hex-two (c / 16 / 16) ∙ omega (arith, f.tail 0, f.tail 1) in
    let e1 : hex_in (text_of_guid g) 21 2 ≡ t.1 = hex-two c ∙ omega (arith, f.tail 1) in
    let e2 : hex_in (text_of_guid g) 24 2 ≡ t.2 = hex-two (n / 16 / 16 / 16 / 16 / 16 / 16 / 16 / 16 / 16 / 16) ∙ omega (arith, f.tail 2, f.tail 3, f.tail 4, f.tail 5, f.tail 6, f.tail 7) in
    let e3 : hex_in (text_of_guid g) 26 2 ≡ t.3 = hex-two (n / 16 / 16 / 16 / 16 / 16 / 16 / 16 / 16) ∙ omega (arith, f.tail 3, f.tail 4, f.tail 5, f.tail 6, f.tail 7) in
    let e4 : hex_in (text_of_guid g) 28 2 ≡ t.4 = hex-two (n / 16 / 16 / 16 / 16 / 16 / 16) ∙ omega (arith, f.tail 4, f.tail 5, f.tail 6, f.tail 7) in
    let e5 : hex_in (text_of_guid g) 30 2 ≡ t.5 = hex-two (n / 16 / 16 / 16 / 16) ∙ omega (arith, f.tail 5, f.tail 6, f.tail 7) in
    let e6 : hex_in (text_of_guid g) 32 2 ≡ t.6 = hex-two (n / 16 / 16) ∙ omega (arith, f.tail 6, f.tail 7) in
    let e7 : hex_in (text_of_guid g) 34 2 ≡ t.7 = hex-two n ∙ omega (arith, f.tail 7) in
    rw (e0, e1, e2, e3, e4, e5, e6, e7)

guid-in-back : (g : Guid) → GuidHeld g → guid_in (text_of_guid g) ≡ g
unfolding guid_in
guid-in-back g f = rw (low-back g f, mid_back g f, high-back g f, tail-back g f)

-- the text of a GUID is read as that GUID
pub guid-back : (g : Guid) → GuidHeld g → guid_of_text (text_of_guid g) ≡ record { number = 0; at = 0; guid = g }
unfolding guid_of_text
guid-back g f = rw (all_right g, length-text g, guid-in-back g f)
