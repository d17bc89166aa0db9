-- Laws of hexadecimal digits and of a GUID's text. Assumes nothing.
use mathlib.Core.Path.{◌≡◌, refl, sym, ◌∙◌}
use mathlib.Core.Bool.{Bool, true, false}
use mathlib.Core.List.{List, [], ◌∷◌}
use Prim.Native.Nat.{ℕ, suc, ◌+◌, ◌*◌, ◌-◌, ◌%◌, ◌^◌, ◌≤◌, ◌<◌}
use native.Mathlib.Nat.{pow-suc, pow-le-pow_right}
use native.Mathlib.Omega.{arith}
use lib.ListN.{length, get_or, set, length-append, get_or-eq_default}
use lib.Seq.{sets}
use Rattle.units.specs.declared.Guid.{Guid}
use Rattle.units.specs.Answer.{pick}
use Rattle.units.specs.Bytes.{part}
use Rattle.units.proofs.Lists.{and_then, sets-all, part_step}
use Rattle.text.specs.Digits.{digits}
use Rattle.text.proofs.Laws.{length_digits}
use Rattle.text.specs.Ranges.{between}
use Rattle.guid_text.specs.Hex.{hex_digit_value, hex_after}
use Rattle.guid_text.specs.GuidTexts.{dash, group, clock_of, node_of, text_of_guid, dash_place, right_at, wrong_from}

-- ---- a group of digits

pub group-stored : (s : List ℕ) (at n x : ℕ) {s₁ : List ℕ} → s₁ ≡ sets s at (digits 16 n x) → set s₁ (at + n) dash ≡ sets s at (group n x)
group-stored s at n x e = and_then s at (digits 16 n x) (at + n) (dash ∷ []) (omega (arith, length_digits 16 n x)) e refl

pub ruleset groups = (group-stored)

-- ---- digits that are read

-- what seven digits or fewer stand for has room for one more
pub below-8 : (i : ℕ) → i < 8 → 16 ^ i ≤ 16 ^ 7
below-8 i h =
    let l : i ≤ 7 = omega arith in
    pow-le-pow_right (omega arith) l

pub one-power-more : (i : ℕ) → 16 ^ (i + 1) ≡ 16 ^ i * 16
one-power-more i =
    let e : i + 1 ≡ suc i = omega arith in
    rw e (pow-suc 16 i)

-- one digit more
pub hex-more : (text : List ℕ) (at i n v : ℕ) → i < n → at + n ≤ length text
    → hex_after (v * 16 + hex_digit_value (get_or text (at + i) 0) % 16) (part text (at + (i + 1)) (n - (i + 1))) ≡ hex_after v (part text (at + i) (n - i))
unfolding hex_after
hex-more text at i n v h k = rw (part_step text at i n h k)

pub hex-none : (text : List ℕ) (at i n v : ℕ) → i ≡ n → hex_after v (part text (at + i) (n - i)) ≡ v
unfolding hex_after
hex-none text at i n v e = let z : n - i ≡ 0 = omega (arith, e) in rw z

-- ---- the places of a text

both_false : (t : Bool) → pick t false false ≡ false
both_false true = refl
both_false false = refl

-- behind the end there is neither a dash nor a digit
pub right-past : (text : List ℕ) (i : ℕ) → length text ≤ i → right_at text i ≡ false
unfolding right_at hex_digit_value between
right-past text i h = rw (get_or-eq_default text 0 h) (both_false (dash_place i))

-- with one place fewer before it
next-place : (i : ℕ) → i < 36 → 36 - i ≡ suc (36 - (i + 1))
next-place i h = omega arith

pub goes_on : (text : List ℕ) (i : ℕ) → i < 36 → right_at text i ≡ true → wrong_from text (i + 1) (36 - (i + 1)) ≡ wrong_from text i (36 - i)
unfolding wrong_from
goes_on text i h e = rw (next-place i h, e)

pub stops-here : (text : List ℕ) (i : ℕ) → i < 36 → right_at text i ≡ false → wrong_from text i (36 - i) ≡ i
unfolding wrong_from
stops-here text i h e = rw (next-place i h, e)

pub all_right : (text : List ℕ) (i : ℕ) → 36 ≤ i → wrong_from text i (36 - i) ≡ i
unfolding wrong_from
all_right text i h = let z : 36 - i ≡ 0 = omega arith in rw z

pub ruleset places = (right-past)

-- ---- the whole text

length-group : (n x : ℕ) → length (group n x) ≡ n + 1
length-group n x = length-append (digits 16 n x) (dash ∷ []) ∙ rw (length_digits 16 n x)

pub length-text : (g : Guid) → length (text_of_guid g) ≡ 36
unfolding text_of_guid
length-text g = simp (length-append, length_digits)

-- five groups stored one behind the other are the text
pub text-made : (g : Guid) (s₀ s₁ s₂ s₃ s₄ s₅ : List ℕ) → length s₀ ≡ 36 → s₁ ≡ sets s₀ 0 (group 8 g.time_low) → s₂ ≡ sets s₁ 9 (group 4 g.time_mid)
    → s₃ ≡ sets s₂ 14 (group 4 g.time_high) → s₄ ≡ sets s₃ 19 (group 4 (clock_of g.tail)) → s₅ ≡ sets s₄ 24 (digits 16 12 (node_of g.tail)) → s₅ ≡ text_of_guid g
unfolding text_of_guid
text-made g s₀ s₁ s₂ s₃ s₄ s₅ h e₁ e₂ e₃ e₄ e₅ =
    let f₄ = and_then s₃ 19 (group 4 (clock_of g.tail)) 24 _ (rw (length-group 4 (clock_of g.tail))) e₄ e₅ in
    let f₃ = and_then s₂ 14 (group 4 g.time_high) 19 _ (rw (length-group 4 g.time_high)) e₃ f₄ in
    let f₂ = and_then s₁ 9 (group 4 g.time_mid) 14 _ (rw (length-group 4 g.time_mid)) e₂ f₃ in
    let f₁ = and_then s₀ 0 (group 8 g.time_low) 9 _ (rw (length-group 8 g.time_low)) e₁ f₂ in
    f₁ ∙ sets-all s₀ (text_of_guid g) (h ∙ sym (length-text g))
