-- What a `Display` writes item by item, and numbers in hexadecimal digits with zeros in front, as `{:02x}` and its like write them.
use Rattle.std.proofs.Common.{◌≡◌, ℕ, zero, suc, ◌+◌, ◌-◌, ◌/◌, ◌%◌, ◌^◌, ◌<◌, ◌≤◌, List, [], ◌∷◌, ◌++◌, length, get_or, take, replicate, flat_map, false, refl, sym, ap, ◌∙◌, arith, append_assoc, append-nil, length-append, subst, inl, inr, Some, IsOk, Option, Result}
use Rattle.std.proofs.lemmas.Bool.{cases_lt}
use Rattle.std.proofs.lemmas.List.{take_more}
use Rattle.std.proofs.lemmas.List.Concat.{flat_map-append}
use Rattle.std.proofs.Output.{has_written_append, has_written_of_eq}
use Rattle.std.proofs.DigitsParse.{digits_onto-nil, digits_onto_last, digits_onto_step}
use Rattle.std.specs.declared.fmt.Formatter.{Formatter}
use Rattle.std.specs.declared.fmt.Error.{Error}
use Rattle.std.specs.Fmt.{HasWritten, DisplaysOnOk, styled_digits_output, digits_output, radix_digits, padded_integral, char_count, format_spec, digits, digits_onto, digit_glyph}
use Rattle.io.specs.Digits.{last_digits}

-- one item more
pub displayed-next : {A W : Type 0} (took : W → List ℕ → W → Type 0) (text : A → List ℕ) (xs : List A) (i : ℕ) (d : A)
    (f g h : Formatter W) (r : Result (Unit {0}) Error) (o : Option (List ℕ))
    → i < length xs → HasWritten took f (flat_map text (take i xs)) g → DisplaysOnOk took g r o h → IsOk r → o ≡ Some (text (get_or xs i d))
    → HasWritten took f (flat_map text (take (i + 1) xs)) h
displayed-next took text xs i d f g h r o within before writes ok is =
    let x = get_or xs i d in
    let next = ap (flat_map text) (take_more xs i d within) ∙ flat_map-append text (take i xs) (x ∷ [])
    ∙ ap (λ l. flat_map text (take i xs) ++ l) (append-nil (text x)) in
    let one = subst (λ (p : Option (List ℕ)). DisplaysOnOk took g r p h) is writes before.plain ok in
    has_written_of_eq took f _ _ h (sym next) (has_written_append took f _ g _ h before one)

-- k zeros
abbrev zeros : ℕ → List ℕ
zeros k = replicate k 48

zeros-behind : (k : ℕ) → zeros k ++ zeros 1 ≡ zeros (suc k)
zeros-behind zero = refl
zeros-behind (suc k) = ap (λ l. 48 ∷ l) (zeros-behind k)

digits-of-zero : (k : ℕ) → last_digits 16 k 0 ≡ zeros k
digits-of-zero zero = refl
digits-of-zero (suc k) = ap (λ l. l ++ zeros 1) (digits-of-zero k) ∙ zeros-behind k

-- the digits of a number below 16 ^ (k + 1), which are its last k + 1 once zeros stand in front
abbrev Spelled : ℕ → ℕ → ℕ → List ℕ → Type 0
Spelled k j n acc = (ds : List ℕ) × (digits_onto j 16 false n acc ≡ ds ++ acc) × (length ds ≤ suc k)
    × (zeros (suc k - length ds) ++ ds ≡ last_digits 16 (suc k) n)

spelled-more : (k j n : ℕ) (acc : List ℕ) → 16 ≤ n → suc k ≤ j → Spelled k (j - 1) (n / 16) (digit_glyph false (n % 16) ∷ acc)
    → Spelled (suc k) j n acc
spelled-more k j n acc long room (ds, are, fit, with_zeros) =
    let last = digit_glyph false (n % 16) ∷ [] in
    let more : suc (suc k) - length (ds ++ last) ≡ suc k - length ds = omega (arith, length-append ds last) in (
      ds ++ last,
      digits_onto_step 16 false n acc j (omega arith) (omega arith) ∙ are ∙ sym (append_assoc ds last acc),
      omega (arith, length-append ds last),
      ap (λ m. zeros m ++ (ds ++ last)) more ∙ sym (append_assoc (zeros (suc k - length ds)) ds last) ∙ ap (λ l. l ++ last) with_zeros,
    )

spelled : (k j n : ℕ) (acc : List ℕ) → suc k ≤ j → n < 16 ^ suc k → Spelled k j n acc
spelled zero j n acc room small = (digit_glyph false (n % 16) ∷ [], digits_onto_last 16 false n acc j (omega arith) (omega arith), omega arith, refl)
spelled (suc k) j n acc room small =
    let last = digit_glyph false (n % 16) ∷ [] in
    elim (cases_lt n 16) [
      | inl short ↦
          let none : n / 16 ≡ 0 = omega arith in
          let front : suc (suc k) - 1 ≡ suc k = omega arith in
          let are = ap (λ m. zeros m ++ last) front ∙ ap (λ l. l ++ last) (sym (digits-of-zero (suc k)) ∙ ap (last_digits 16 (suc k)) (sym none)) in
          (last, digits_onto_last 16 false n acc j (omega arith) none, omega arith, are)
      | inr long ↦ spelled-more k j n acc long (omega arith) (spelled k (j - 1) (n / 16) (last ++ acc) (omega arith) (omega arith))
    ]

padded-from-spelled : (k n : ℕ) → Spelled k 64 n []
    → padded_integral (format_spec 32 0 4 (suc k) (2 ^ 64 - 1)) false [] (digits 16 false n) ≡ last_digits 16 (suc k) n
unfolding padded_integral char_count
padded-from-spelled k n (ds, are, fit, with_zeros) =
    let is : digits 16 false n ≡ ds = rw (← digits_onto-nil 16 false n, are) (append-nil ds) in
    let room : suc k - length ds - 0 - 0 ≡ suc k - length ds = omega arith in
    rw is (ap (λ m. zeros m ++ (ds ++ [])) room ∙ ap (λ l. zeros (suc k - length ds) ++ l) (append-nil ds) ∙ with_zeros)

-- a number with zeros in front up to a width
hex-padded : (k n : ℕ) → k < 64 → n < 16 ^ suc k
    → padded_integral (format_spec 32 0 4 (suc k) (2 ^ 64 - 1)) false [] (digits 16 false n) ≡ last_digits 16 (suc k) n
hex-padded k n room small = padded-from-spelled k n (spelled k 64 n [] (omega arith) small)

-- what `{:02x}` writes, and its like of another width
pub hex-shown : (d : _) (s : _) (k n : ℕ) → digits_output d ≡ Some (radix_digits 16 false n) → s ≡ format_spec 32 0 4 (suc k) (2 ^ 64 - 1)
    → k < 64 → n < 16 ^ suc k → styled_digits_output d s ≡ Some (last_digits 16 (suc k) n)
hex-shown d s k n is laid room small = rw (is, laid) (ap Some (hex-padded k n room small))
