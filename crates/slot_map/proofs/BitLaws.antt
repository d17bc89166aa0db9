-- The laws of words as lists of booleans (`specs/Bits`): a bit set and cleared, the first false by trailing zeros, the trues by ones, and two words one after the other.
-- No contract cites this file. Assumes nothing.
use mathlib.Core.Path.{◌≡◌, refl, sym, ap, ◌∙◌}
use mathlib.Core.Logic.{◌⊎◌, inl, inr, ⊎_elim}
use mathlib.Core.Bool.{Bool, true, false}
use Prim.Native.Nat.{ℕ, zero, suc, ◌+◌, ◌*◌, ◌-◌, ◌/◌, ◌%◌, ◌^◌, ◌≤◌, ◌<◌, max, min}
use mathlib.Core.List.{List, [], ◌∷◌, ◌++◌, append_assoc}
use lib.Seq.{set-append_left, set_at, take-suc, length-take-le}
use native.Mathlib.Nat.{zero-add, suc-add, pow-suc}
use native.Mathlib.Omega.{arith}
use lib.ListN.{length, take, get_or, set, replicate, replicate-append-replicate}
use lib.Dec.{eqb}
use lib.Bits.{bit_and, bit_or, and_step, or_step, or_zero_r}
use lib.Count.{count_trailing_zeros, ones, ones_in, ones_step, under}
use lib.Pow.{pow_pos, pow-lt, shl_exact}
use Rattle.slot_map.specs.Bits.{bits_of, first_false, count_true}

pub parity : (x : ℕ) → (x % 2 ≡ 0) ⊎ (x % 2 ≡ 1)
parity x = go (x % 2) (omega arith)
  where
    go : (r : ℕ) → r < 2 → (r ≡ 0) ⊎ (r ≡ 1)
    go zero h = inl refl
    go (suc zero) h = inr refl
    go (suc (suc r)) h = absurd (omega arith)

pub length-bits : (n x : ℕ) → length (bits_of n x) ≡ n
unfolding bits_of
length-bits zero x = refl
length-bits (suc n) x = ap suc (length-bits n (x / 2))

-- one digit of a or of b
or-half : (a b : ℕ) → bit_or a b / 2 ≡ bit_or (a / 2) (b / 2)
or-half a b = let m : max (a % 2) (b % 2) < 2 = omega arith in omega (arith, or_step a b)

or-odd : (a b : ℕ) → bit_or a b % 2 ≡ max (a % 2) (b % 2)
or-odd a b = let m : max (a % 2) (b % 2) < 2 = omega arith in omega (arith, or_step a b)

and-half : (a b : ℕ) → bit_and a b / 2 ≡ bit_and (a / 2) (b / 2)
and-half a b = let m : min (a % 2) (b % 2) < 2 = omega arith in omega (arith, and_step a b)

and-odd : (a b : ℕ) → bit_and a b % 2 ≡ min (a % 2) (b % 2)
and-odd a b = let m : min (a % 2) (b % 2) < 2 = omega arith in omega (arith, and_step a b)

-- a bit is set
pub or_set : (n x k : ℕ) → k < n → bits_of n (bit_or x (2 ^ k)) ≡ set (bits_of n x) k true
unfolding bits_of
or_set zero x k h = absurd (omega arith)
or_set (suc n) x zero h =
    let e : bit_or x 1 / 2 ≡ x / 2 = or-half x 1 ∙ or_zero_r (x / 2) in
    let o : bit_or x 1 % 2 ≡ 1 = omega (arith, or-odd x 1) in
    rw (e, o)
or_set (suc n) x (suc k) h =
    let p : 2 ^ suc k ≡ 2 ^ k * 2 = pow-suc 2 k in
    let e : bit_or x (2 ^ suc k) / 2 ≡ bit_or (x / 2) (2 ^ k) = or-half x (2 ^ suc k) ∙ ap (λ (y : ℕ). bit_or (x / 2) y) (omega arith) in
    let o : bit_or x (2 ^ suc k) % 2 ≡ x % 2 = omega (arith, or-odd x (2 ^ suc k)) in
    rw (e, o, or_set n (x / 2) k (omega arith))

-- all bits are kept
pub and-all : (n x : ℕ) → bits_of n (bit_and x (2 ^ n - 1)) ≡ bits_of n x
unfolding bits_of
and-all zero x = refl
and-all (suc n) x =
    let p : 2 ^ suc n ≡ 2 ^ n * 2 = pow-suc 2 n in
    let q : 0 < 2 ^ n = pow_pos n in
    let e : bit_and x (2 ^ suc n - 1) / 2 ≡ bit_and (x / 2) (2 ^ n - 1) = and-half x (2 ^ suc n - 1) ∙ ap (λ (y : ℕ). bit_and (x / 2) y) (omega arith) in
    let o : bit_and x (2 ^ suc n - 1) % 2 ≡ x % 2 = omega (arith, and-odd x (2 ^ suc n - 1)) in
    rw (e, o, and-all n (x / 2))

-- a bit is cleared
pub and-clear : (n x k : ℕ) → k < n → bits_of n (bit_and x ((2 ^ n - 1) - 2 ^ k)) ≡ set (bits_of n x) k false
unfolding bits_of
and-clear zero x k h = absurd (omega arith)
and-clear (suc n) x zero h =
    let p : 2 ^ suc n ≡ 2 ^ n * 2 = pow-suc 2 n in
    let q : 0 < 2 ^ n = pow_pos n in
    let y = (2 ^ suc n - 1) - 1 in
    let e : bit_and x y / 2 ≡ bit_and (x / 2) (2 ^ n - 1) = and-half x y ∙ ap (λ (z : ℕ). bit_and (x / 2) z) (omega arith) in
    let o : bit_and x y % 2 ≡ 0 = omega (arith, and-odd x y) in
    rw (e, o, and-all n (x / 2))
and-clear (suc n) x (suc k) h =
    let p : 2 ^ suc n ≡ 2 ^ n * 2 = pow-suc 2 n in
    let p2 : 2 ^ suc k ≡ 2 ^ k * 2 = pow-suc 2 k in
    let q : 2 ^ k < 2 ^ n = pow-lt (omega arith) in
    let y = (2 ^ suc n - 1) - 2 ^ suc k in
    let e : bit_and x y / 2 ≡ bit_and (x / 2) ((2 ^ n - 1) - 2 ^ k) = and-half x y ∙ ap (λ (z : ℕ). bit_and (x / 2) z) (omega arith) in
    let o : bit_and x y % 2 ≡ x % 2 = omega (arith, and-odd x y) in
    rw (e, o, and-clear n (x / 2) k (omega arith))

-- the lowest clear bit is the first false
pub trailing-first : (n x : ℕ) → x < 2 ^ n → count_trailing_zeros n ((2 ^ n - 1) - x) ≡ first_false (bits_of n x)
unfolding bits_of count_trailing_zeros first_false
trailing-first zero x h = refl
trailing-first (suc n) x h =
    let p : 2 ^ suc n ≡ 2 ^ n * 2 = pow-suc 2 n in
    let y = (2 ^ suc n - 1) - x in
    let e : y / 2 ≡ (2 ^ n - 1) - x / 2 = omega arith in
    let r : count_trailing_zeros n ((2 ^ n - 1) - x / 2) ≡ first_false (bits_of n (x / 2)) = trailing-first n (x / 2) (omega arith) in
    ⊎_elim
    (λ z.
    let o : y % 2 ≡ 1 = omega arith in
    ap (λ (b : ℕ). under b (count_trailing_zeros n (y / 2))) o ∙ sym (ap (λ (b : ℕ). first_false (eqb b 1 ∷ bits_of n (x / 2))) z))
    (λ z.
    let o : y % 2 ≡ 0 = omega arith in
    ap (λ (b : ℕ). under b (count_trailing_zeros n (y / 2))) o ∙ ap suc (ap (λ (m : ℕ). count_trailing_zeros n m) e ∙ r)
    ∙ sym (ap (λ (b : ℕ). first_false (eqb b 1 ∷ bits_of n (x / 2))) z))
    (parity x)

ones-zero : ones 0 ≡ 0
unfolding ones ones_in
ones-zero = refl

-- the set bits are the trues
pub ones-count : (n x : ℕ) → x < 2 ^ n → ones x ≡ count_true (bits_of n x)
unfolding bits_of count_true
ones-count zero x h = let z : x ≡ 0 = omega arith in ap ones z ∙ ones-zero
ones-count (suc n) x h =
    let p : 2 ^ suc n ≡ 2 ^ n * 2 = pow-suc 2 n in
    let r : ones (x / 2) ≡ count_true (bits_of n (x / 2)) = ones-count n (x / 2) (omega arith) in
    ⊎_elim
    (λ z. rw z (omega (arith, ones_step x)))
    (λ z. rw z (omega (arith, ones_step x)))
    (parity x)

-- ---- two words

pub first-in : (a b : List Bool) → first_false a < length a → first_false (a ++ b) ≡ first_false a
unfolding first_false
first-in [] b h = absurd (omega arith)
first-in (true ∷ a) b h = ap suc (first-in a b (omega arith))
first-in (false ∷ a) b h = refl

pub first_past : (a b : List Bool) → length a ≤ first_false a → first_false (a ++ b) ≡ length a + first_false b
unfolding first_false
first_past [] b h = omega arith
first_past (true ∷ a) b h = omega (arith, first_past a b (omega arith))
first_past (false ∷ a) b h = absurd (omega arith)

pub count-append : (a b : List Bool) → count_true (a ++ b) ≡ count_true a + count_true b
unfolding count_true
count-append [] b = omega arith
count-append (true ∷ a) b = omega (arith, count-append a b)
count-append (false ∷ a) b = count-append a b

pub set_past : (p q : List Bool) (j : ℕ) (v : Bool) → set (p ++ q) (length p + j) v ≡ p ++ set q j v
set_past [] q j v = rw zero-add
set_past (x ∷ p) q j v = rw suc-add (ap (λ (l : List Bool). x ∷ l) (set_past p q j v))

-- 1 << k
pub one_shl : (k : ℕ) → k < 64 → (1 * 2 ^ k) % 2 ^ 64 ≡ 2 ^ k
one_shl k h = shl_exact 1 k 64 (omega arith) (omega arith) ∙ omega arith

pub set-low : (a b k : ℕ) (v : Bool) → k < 64 → set (bits_of 64 a ++ bits_of 64 b) k v ≡ set (bits_of 64 a) k v ++ bits_of 64 b
set-low a b k v h = set-append_left (bits_of 64 a) (bits_of 64 b) k v (omega (arith, length-bits 64 a))

pub set-high : (a b k : ℕ) (v : Bool) → 64 ≤ k → set (bits_of 64 a ++ bits_of 64 b) k v ≡ bits_of 64 a ++ set (bits_of 64 b) (k - 64) v
set-high a b k v h =
    let e : k ≡ length (bits_of 64 a) + (k - 64) = omega (arith, length-bits 64 a) in
    ap (λ (j : ℕ). set (bits_of 64 a ++ bits_of 64 b) j v) e ∙ set_past (bits_of 64 a) (bits_of 64 b) (k - 64) v

-- ---- a row of flags, one after the other

pub flags-more : (fs : List Bool) (i n : ℕ) → i < n → length fs ≡ n
    → set (take i fs ++ replicate (n - i) false) i (get_or fs i false) ≡ take (i + 1) fs ++ replicate (n - (i + 1)) false
flags-more fs i n h l =
    let a : n - i ≡ suc (n - (i + 1)) = omega arith in
    let b : i + 1 ≡ suc i = omega arith in
    let k : i < length fs = omega arith in
    let R : List Bool = replicate (n - (i + 1)) false in
    ap (λ (m : ℕ). set (take i fs ++ replicate m false) i (get_or fs i false)) a
    ∙ set_at (take i fs) false R (get_or fs i false) i (length-take-le i fs (omega arith))
    ∙ sym (append_assoc (take i fs) (get_or fs i false ∷ []) R)
    ∙ ap (λ (t : List Bool). t ++ R) (sym (take-suc fs i false k) ∙ ap (λ (j : ℕ). take j fs) (sym b))

pub bits_none : (n : ℕ) → bits_of n 0 ≡ replicate n false
unfolding bits_of
bits_none zero = refl
bits_none (suc n) = ap (λ (l : List Bool). false ∷ l) (bits_none n)

pub map-none : bits_of 64 0 ++ bits_of 64 0 ≡ replicate 128 false
map-none = rw bits_none (replicate-append-replicate 64 64 false)
