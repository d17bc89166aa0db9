-- The laws of flags: splitting 64 bits and joining them undo each other, and what is joined fits 64 bits. No contract cites this file. Assumes nothing.
use mathlib.Core.Path.{◌≡◌, refl, sym, ap, ◌∙◌}
use mathlib.Core.Bool.{Bool, true, false}
use mathlib.Core.List.{List}
use Prim.Native.Nat.{ℕ, zero, suc, ◌+◌, ◌*◌, ◌/◌, ◌%◌, ◌^◌, ◌<◌}
use native.Mathlib.Nat.{div-one, div-add-mod', div-div-eq-div-mul}
use native.Mathlib.Omega.{arith}
use lib.Dec.{eqb}
use borrow.Author.Tests.{lt-leb}
use denote.Shadow.{shadow}
use denote.Struct.Declared.{row}
use mir.Val.{Val}
use Rattle.units.specs.Answer.{accepted}
use Rattle.partition.specs.declared.Flags.{Flags}
use Rattle.partition.specs.Flags.{bit, bit_at, flags_of, joined, Joins, bits_of, unreserved}
use Rattle.partition.specs.Held.{FitFlags}
use Rattle.partition.specs.contracts.Flags.{the_type}

-- a digit is the bit of its test
bit-back : (d : ℕ) → d < 2 → bit (eqb d 1) ≡ d
bit-back zero h = refl
bit-back (suc zero) h = refl
bit-back (suc (suc d)) h = absurd (omega arith)

-- and the test of a bit is the yes/no
test_back : (b : Bool) → eqb (bit b) 1 ≡ b
test_back true = refl
test_back false = refl

bit-fits : (b : Bool) → bit b < 2
bit-fits true = omega arith
bit-fits false = omega arith

-- ---- 64 bits split and joined

one : (n : ℕ) → n % 2 + 2 * (n / 2) ≡ n
one n = omega arith

-- three digits, and what is above them
digits : (n : ℕ) → n % 2 + 2 * (n / 2 % 2) + 4 * (n / 4 % 2) + 8 * (n / 8) ≡ n
digits n =
    let b : n / 2 % 2 + 2 * (n / 4) ≡ n / 2 = rw (div-div-eq-div-mul n 2 2) at (one (n / 2)) in
    let c : n / 4 % 2 + 2 * (n / 8) ≡ n / 4 = rw (div-div-eq-div-mul n 4 2) at (one (n / 4)) in
    join (n % 2) (n / 2 % 2) (n / 4 % 2) (n / 2) (n / 4) (n / 8) n (one n) b c
  where
    join : (x y z h q e n : ℕ) → x + 2 * h ≡ n → y + 2 * q ≡ h → z + 2 * e ≡ q → x + 2 * y + 4 * z + 8 * e ≡ n
    join x y z h q e n a b c = omega arith

-- the two parts above the digits
upper : (n : ℕ) → 8 * (n / 8 % 2 ^ 45) + 2 ^ 48 * (n / 2 ^ 48) ≡ 8 * (n / 8)
upper n = rw (← div-div-eq-div-mul n 8 (2 ^ 45)) (omega (arith, div-add-mod' (n / 8) (2 ^ 45)))

-- reading then writing gives the same bits, whatever they are
pub join-split : (n : ℕ) → joined (flags_of n) ≡ n
unfolding flags_of joined
join-split n =
    let a : bit (bit_at n 0) ≡ n / 1 % 2 = bit-back (n / 1 % 2) (omega arith) in
    let b : bit (bit_at n 1) ≡ n / 2 % 2 = bit-back (n / 2 % 2) (omega arith) in
    let c : bit (bit_at n 2) ≡ n / 4 % 2 = bit-back (n / 4 % 2) (omega arith) in
    rw (a, b, c, div-one n) (omega (arith, digits n, upper n))

pub flags-join : (n : ℕ) → Joins (flags_of n)
unfolding flags_of
flags-join n = omega arith

-- so 28 is never given for what was read
pub bits-again : (n : ℕ) → bits_of (flags_of n) ≡ accepted n
unfolding bits_of
bits-again n = rw (lt-leb (2 ^ 45) (flags_of n).reserved (flags-join n)) (ap accepted (join-split n))

-- ---- and back

flags-eq : {r r' o o' : ℕ} {a b c a' b' c' : Bool} → r ≡ r' → o ≡ o' → a ≡ a' → b ≡ b' → c ≡ c'
    → ◌≡◌ {A = Flags}
    (record { reserved = r; owner = o; required = a; no_block_io = b; legacy_bootable = c })
    (record { reserved = r'; owner = o'; required = a'; no_block_io = b'; legacy_bootable = c' })
flags-eq p q r s t = cc

-- flags whose reserved part has its place come back from their bits
pub split-join : (f : Flags) → Joins f → flags_of (joined f) ≡ f
unfolding flags_of joined
split-join f h =
    pieces (bit f.required) (bit f.no_block_io) (bit f.legacy_bootable) f.reserved f.owner (bit-fits f.required) (bit-fits f.no_block_io) (bit-fits f.legacy_bootable) h
    (λ p q r s t.
    flags-eq s t
    (ap (λ (d : ℕ). eqb d 1) p ∙ test_back f.required)
    (ap (λ (d : ℕ). eqb d 1) q ∙ test_back f.no_block_io)
    (ap (λ (d : ℕ). eqb d 1) r ∙ test_back f.legacy_bootable))
  where
    pieces : {X : Type 0} (a b c r o : ℕ) → a < 2 → b < 2 → c < 2 → r < 2 ^ 45
        → (let n : ℕ = a + 2 * b + 4 * c + 2 ^ 3 * r + 2 ^ 48 * o in n / 2 ^ 0 % 2 ≡ a → n / 2 ^ 1 % 2 ≡ b → n / 2 ^ 2 % 2 ≡ c → n / 2 ^ 3 % 2 ^ 45 ≡ r → n / 2 ^ 48 ≡ o → X)
        → X
    pieces a b c r o x y z h k =
        let n : ℕ = a + 2 * b + 4 * c + 2 ^ 3 * r + 2 ^ 48 * o in
        let e1 : n / 1 ≡ n = div-one n in
        let e2 : n / 2 ≡ b + 2 * c + 4 * r + 2 ^ 47 * o = omega arith in
        let e4 : n / 4 ≡ c + 2 * r + 2 ^ 46 * o = omega arith in
        let e8 : n / 8 ≡ r + 2 ^ 45 * o = omega arith in
        k (rw e1 (omega arith)) (rw e2 (omega arith)) (rw e4 (omega arith)) (rw e8 (omega arith)) (omega arith)

-- ---- bounds

-- flags that the code holds fit: what owning them tells
pub fit-flags-of : (f : Flags) (vs : List Val) → shadow ((row the_type).own_val f vs) → FitFlags f
fit-flags-of f vs o = let g = o.1.1 in record { reserved = g.0.1; owner = g.1.0.1 }

-- joined flags are 64 bits
pub joined-fits : (f : Flags) → Joins f → f.owner < 2 ^ 16 → joined f < 2 ^ 64
unfolding joined
joined-fits f h k = below (bit f.required) (bit f.no_block_io) (bit f.legacy_bootable) f.reserved f.owner (bit-fits f.required) (bit-fits f.no_block_io) (bit-fits f.legacy_bootable) h k
  where
    below : (a b c r o : ℕ) → a < 2 → b < 2 → c < 2 → r < 2 ^ 45 → o < 2 ^ 16 → a + 2 * b + 4 * c + 2 ^ 3 * r + 2 ^ 48 * o < 2 ^ 64
    below a b c r o x y z h k = omega arith

-- ---- flags with no reserved bit

-- they are the flags where these have none
pub none-reserved : (f : Flags) → f.reserved ≡ 0 → unreserved f ≡ f
none-reserved f e = flags-eq (sym e) refl refl refl refl
