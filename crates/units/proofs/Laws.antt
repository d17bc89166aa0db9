-- The laws of the numbers in bytes of `specs/Bytes.antt`, and of the tests that the code makes. No contract cites this file. Assumes nothing.
use mathlib.Core.Path.{◌≡◌, refl, sym, ap, ◌∙◌}
use mathlib.Core.Logic.{◌⊎◌, inl, inr, ⊎_elim}
use mathlib.Core.Bool.{Bool, true, false, not, ◌&&◌, ◌||◌}
use mathlib.Core.List.{List, [], ◌∷◌, ◌++◌, append-nil, append_assoc}
use Prim.Native.Nat.{ℕ, zero, suc, ◌+◌, ◌*◌, ◌-◌, ◌/◌, ◌%◌, ◌^◌, ◌≤◌, ◌<◌}
use native.Mathlib.Nat.{eq-zero-or-pos, lt_of_not-le, pow-suc, div-lt_iff_lt-mul, le-div_iff_mul-le, mul-le-mul}
use native.Mathlib.Decide.{dec_le}
use native.Mathlib.Omega.{arith}
use lib.Bits.{bit_or, bit_xor, or_add_and, and_le_l, and_le_r, xor_add_and, xor_self}
use lib.Dec.{eqb, leb}
use lib.ListN.{length, take, drop, get_or, set, replicate, drop_of_length-le}
use lib.Seq.{drop-cons, drop-drop, sets, take_all, take_at, drop_at, get_or-drop}
use borrow.Author.Tests.{lt-ltb, le-ltb, le-leb, lt-leb, eq-eqb, ne_eqb, leb-true, eqb-true, not-false}
use Rattle.std.specs.List.{fold, zip}
use Rattle.std.proofs.lemmas.List.{take_more_set}
use Rattle.units.specs.declared.BytePlace.{BytePlace}
use Rattle.units.specs.declared.why.Why.{Why}
use Rattle.units.specs.Answer.{Answer, accepted, refused, refuse, plain, pick}
use Rattle.units.specs.Bytes.{part, le, num, bytes, total, laid, same, all_zero}
use Rattle.units.specs.Places.{good_size, inside, place_of}
use Rattle.units.specs.Held.{Small}
use Rattle.units.proofs.Lists.{length_part, part-part, part_out, part_same, sets_then, and_then}

-- ---- tests

-- what a comparison in the code says of the same comparison in a definition
pub ruleset tests = (lt-ltb, le-ltb, le-leb, lt-leb, eq-eqb, ne_eqb)

-- what holds of both picks holds of the pick; each side may use what the test says
pub by-pick {ℓ ℓ'} : {X : Type ℓ} (P : X → Type ℓ') (t : Bool) (a b : X) → (t ≡ true → P a) → (t ≡ false → P b) → P (pick t a b)
by-pick P true a b f g = f refl
by-pick P false a b f g = g refl

-- a number is zero or is not
zero_or {ℓ} : {X : Type ℓ} (n : ℕ) → (n ≡ 0 → X) → ((n ≡ 0 → ⊥) → X) → X
zero_or n f g = ⊎_elim f (λ p. g (λ e. omega arith)) (eq-zero-or-pos n)

-- one order or the other
split {ℓ} : {X : Type ℓ} (a b : ℕ) → (a ≤ b → X) → (b < a → X) → X
split a b f g = elim (dec_le a b) [ yes h ↦ f h | no h ↦ g (lt_of_not-le h) ]

-- the end of a range against a length, and its start against what the length leaves
pub inside-start : (at n len : ℕ) → n ≤ len → leb at (len - n) ≡ leb (at + n) len
inside-start at n len h =
    split (at + n) len
    (λ p. le-leb at (len - n) (omega arith) ∙ sym (le-leb (at + n) len p))
    (λ p. lt-leb at (len - n) (omega arith) ∙ sym (lt-leb (at + n) len p))

-- what is past the test `!is_inside(..)`
pub inside-yes : {r : Bool} (len at n : ℕ) → r ≡ inside len at n → not r ≡ false → at + n ≤ len
unfolding inside
inside-yes {r} len at n e f = leb-true (at + n) len (sym e ∙ not-false r f)

or-true : (p q : Bool) → (p || q) ≡ true → (p ≡ true) ⊎ (q ≡ true)
or-true true q e = inl refl
or-true false q e = inr e

-- the two block sizes
pub good-size : (b : ℕ) → good_size b ≡ true → (b ≡ 512) ⊎ (b ≡ 4096)
unfolding good_size
good-size b e = ⊎_elim (λ p. inl (eqb-true b 512 p)) (λ p. inr (eqb-true b 4096 p)) (or-true (eqb b 512) (eqb b 4096) e)

-- they are from 512 to 4,096
pub size-range : (b : ℕ) → good_size b ≡ true → (512 ≤ b) × (b ≤ 4096)
size-range b e = ⊎_elim (λ p. (omega arith, omega arith)) (λ p. (omega arith, omega arith)) (good-size b e)

-- the same past the test `!good_block_size(..)`
pub size-past : {r : Bool} (b : ℕ) → r ≡ good_size b → not r ≡ false → (512 ≤ b) × (b ≤ 4096)
size-past {r} b e f = size-range b (sym e ∙ not-false r f)

pub size-yes : {r : Bool} (b : ℕ) → r ≡ good_size b → not r ≡ false → 0 < b
size-yes b e f = let p = size-past b e f in omega arith

-- one test and its refusal: what the answer tells
module _ {A : Type 0} (t : Bool) (k : ℕ) (v : A) where
  pub pick-refused : {w : Why} → pick t (refuse k) (accepted v) ≡ refused w → (t ≡ true) × (plain k ≡ w)
  pick-refused {w} e = go t refl e
    where
      go : (u : Bool) → t ≡ u → pick {X = Answer A} u (refuse k) (accepted v) ≡ refused w → (t ≡ true) × (plain k ≡ w)
      go true p q = (p, cc)
      go false p q = absurd (let z : ◌≡◌ {A = ℕ} 0 1 = cc in omega arith)

  pub pick-accepted : {x : A} → pick t (refuse k) (accepted v) ≡ accepted x → (t ≡ false) × (v ≡ x)
  pick-accepted {x} e = go t refl e
    where
      go : (u : Bool) → t ≡ u → pick {X = Answer A} u (refuse k) (accepted v) ≡ accepted x → (t ≡ false) × (v ≡ x)
      go true p q = absurd (let z : ◌≡◌ {A = ℕ} 0 1 = cc in omega arith)
      go false p q = (p, cc)

-- with a good block size, a place tells whether the product passes 64 bits
module _ (lba b : ℕ) (good : good_size b ≡ true) where
  by_product : place_of lba b ≡ pick (leb (2 ^ 64) (lba * b)) (refuse 3) (accepted (record { 0 = lba * b }))
  unfolding place_of
  by_product = rw good

  pub place-over : {w : Why} → place_of lba b ≡ refused w → (leb (2 ^ 64) (lba * b) ≡ true) × (plain 3 ≡ w)
  place-over e = pick-refused (leb (2 ^ 64) (lba * b)) 3 (record { 0 = lba * b }) (sym by_product ∙ e)

  pub place-fits : {p : BytePlace} → place_of lba b ≡ accepted p → (leb (2 ^ 64) (lba * b) ≡ false) × (record { 0 = lba * b } ≡ p)
  place-fits e = pick-accepted (leb (2 ^ 64) (lba * b)) 3 (record { 0 = lba * b }) (sym by_product ∙ e)

-- the product of two numbers of 32 bits fits 64
pub product-32 : (n m : ℕ) → n < 2 ^ 32 → m < 2 ^ 32 → n * m < 2 ^ 64
product-32 n m h k =
    let p : n ≤ 2 ^ 32 - 1 = omega arith in
    let q : m ≤ 2 ^ 32 - 1 = omega arith in
    omega (arith, mul-le-mul p q)

-- a product that fits 64 bits, and one that does not
pub product : (n m : ℕ) → 0 < m → n ≤ (2 ^ 64 - 1) / m → n * m < 2 ^ 64
product n m h k = omega (arith, (le-div_iff_mul-le {k = m} {x = n} {y = 2 ^ 64 - 1} h).0 k)

pub product-not : (n m : ℕ) → 0 < m → (2 ^ 64 - 1) / m < n → 2 ^ 64 ≤ n * m
product-not n m h k = omega (arith, (div-lt_iff_lt-mul {k = m} {x = 2 ^ 64 - 1} {y = n} h).0 k)

-- ---- numbers

pub length-bytes : (n x : ℕ) → length (bytes n x) ≡ n
unfolding bytes
length-bytes zero x = refl
length-bytes (suc n) x = ap suc (length-bytes n (x / 256))

-- a number stored in n bytes, and then what stands behind it, as one store
pub field_then : (s : List ℕ) (at n x : ℕ) {s₁ : List ℕ} (j : ℕ) (ws : List ℕ) {s₂ : List ℕ}
    → at + n ≡ j → s₁ ≡ sets s at (bytes n x) → s₂ ≡ sets s₁ j ws → s₂ ≡ sets s at (bytes n x ++ ws)
field_then s at n x j ws h e f = and_then s at (bytes n x) j ws (simp length-bytes h) e f

-- a place stored to with the next byte: the places before it, and then the bytes that are left, are all
pub byte_stored : (l : List ℕ) (i n v : ℕ) (all : List ℕ) → i < length l → i < n
    → take i l ++ bytes (n - i) v ≡ all → take (i + 1) (set l i (v % 256)) ++ bytes (n - (i + 1)) (v / 256) ≡ all
unfolding bytes
byte_stored l i n v all h k e =
    let a : n - i ≡ suc (n - (i + 1)) = omega arith in
    rw (take_more_set l i (v % 256) h, append_assoc) (rw a at e)

-- and when no byte is left, the places hold them all
pub bytes_stored : (l : List ℕ) (i n v : ℕ) (all : List ℕ) → length l ≤ i → n - i ≡ 0 → take i l ++ bytes (n - i) v ≡ all → l ≡ all
unfolding bytes
bytes_stored l i n v all h z e = sym (take_all i l h) ∙ sym (append-nil (take i l)) ∙ rw z at e

-- without its first byte a number fits one byte less
fits_next : (n x : ℕ) → x < 256 ^ suc n → x / 256 < 256 ^ n
fits_next n x h = (div-lt_iff_lt-mul {k = 256} {x = x} {y = 256 ^ n} (omega arith)).1 (rw (pow-suc 256 n) at h)

-- ---- a number in a part, inside a store and beside it

pub num-part : (xs : List ℕ) (a n o m : ℕ) → o + m ≤ n → num (part xs a n) o m ≡ num xs (a + o) m
unfolding num
num-part xs a n o m h = ap le (part-part xs a n o m h)

pub num-out : (xs : List ℕ) (at : ℕ) (vs : List ℕ) (b n : ℕ) → (b + n ≤ at) ⊎ (at + length vs ≤ b) → num (sets xs at vs) b n ≡ num xs b n
unfolding num
num-out xs at vs b n o = ap le (part_out xs at vs b n o)

pub num-drop : (xs : List ℕ) (at j n : ℕ) → num xs (at + j) n ≡ num (drop at xs) j n
unfolding num
num-drop xs at j n = rw (drop-drop j at xs)

-- ---- what was written reads back, and what was read is written back

pub le_bytes : (n x : ℕ) → x < 256 ^ n → le (bytes n x) ≡ x
unfolding le bytes
le_bytes zero x h = omega arith
le_bytes (suc n) x h =
    omega (arith, le_bytes n (x / 256) (fits_next n x h))

-- a number that a list begins with, and what stands after it
pub num-here : (n x : ℕ) (r : List ℕ) → x < 256 ^ n → num (bytes n x ++ r) 0 n ≡ x
unfolding num
num-here n x r h = rw (take_at (bytes n x) r n (length-bytes n x)) (le_bytes n x h)

pub num-next : (n x : ℕ) (r : List ℕ) (j m : ℕ) → num (bytes n x ++ r) (n + j) m ≡ num r j m
num-next n x r j m = num-drop (bytes n x ++ r) n j m ∙ rw (drop_at (bytes n x) r n (length-bytes n x))

pub field-here : (xs : List ℕ) (k n x : ℕ) (r : List ℕ) → drop k xs ≡ bytes n x ++ r → x < 256 ^ n → num xs k n ≡ x
unfolding num
field-here xs k n x r e h = rw (e, take_at (bytes n x) r n (length-bytes n x)) (le_bytes n x h)

-- a number that was stored reads back
pub num-back : (xs : List ℕ) (at n x : ℕ) → x < 256 ^ n → at + n ≤ length xs → num (sets xs at (bytes n x)) at n ≡ x
unfolding num
num-back xs at n x h k =
    let l : length (bytes n x) ≡ n = length-bytes n x in
    rw l at (ap le (part_same xs at (bytes n x) (omega arith))) ∙ le_bytes n x h

small-take : (n : ℕ) (l : List ℕ) → Small l → Small (take n l)
small-take zero l h k = omega arith
small-take (suc n) [] h k = omega arith
small-take (suc n) (x ∷ l) h zero = h 0
small-take (suc n) (x ∷ l) h (suc k) = small-take n l (λ j. h (suc j)) k

small-drop : (xs : List ℕ) (at : ℕ) → Small xs → Small (drop at xs)
small-drop xs at h k = rw (get_or-drop at xs k 0) (h (at + k))

pub small-part : (xs : List ℕ) (at n : ℕ) → Small xs → Small (part xs at n)
small-part xs at n h = small-take n (drop at xs) (small-drop xs at h)

-- a list of bytes, as a record that shows which list
pub record Low (xs : List ℕ) : Type 0 where
  pub each : Small xs

pub low-append : {xs ys : List ℕ} → Low xs → Low ys → Low (xs ++ ys)
low-append {xs} {ys} p q = record { each = go xs p.each }
  where
    go : (l : List ℕ) → Small l → Small (l ++ ys)
    go [] f k = q.each k
    go (x ∷ l) f zero = f 0
    go (x ∷ l) f (suc k) = go l (λ j. f (suc j)) k

pub low-bytes : (n x : ℕ) → Low (bytes n x)
unfolding bytes
low-bytes n x = record { each = go n x }
  where
    go : (n x : ℕ) → Small (bytes n x)
    go zero x k = omega arith
    go (suc n) x zero = omega arith
    go (suc n) x (suc k) = go n (x / 256) k

-- eight bytes, given one by one
pub small-eight : {a b c d e f g h : ℕ} → a < 256 → b < 256 → c < 256 → d < 256 → e < 256 → f < 256 → g < 256 → h < 256
    → Small (a ∷ b ∷ c ∷ d ∷ e ∷ f ∷ g ∷ h ∷ [])
small-eight p q r s t u v w zero = p
small-eight p q r s t u v w (suc zero) = q
small-eight p q r s t u v w (suc (suc zero)) = r
small-eight p q r s t u v w (suc (suc (suc zero))) = s
small-eight p q r s t u v w (suc (suc (suc (suc zero)))) = t
small-eight p q r s t u v w (suc (suc (suc (suc (suc zero))))) = u
small-eight p q r s t u v w (suc (suc (suc (suc (suc (suc zero)))))) = v
small-eight p q r s t u v w (suc (suc (suc (suc (suc (suc (suc zero))))))) = w
small-eight p q r s t u v w (suc (suc (suc (suc (suc (suc (suc (suc k)))))))) = omega arith

bytes_le : (l : List ℕ) → Small l → bytes (length l) (le l) ≡ l
unfolding bytes le
bytes_le [] h = refl
bytes_le (x ∷ l) h =
    let b : x < 256 = h 0 in
    let m : (x + 256 * le l) % 256 ≡ x = omega arith in
    let d : (x + 256 * le l) / 256 ≡ le l = omega arith in
    rw (m, d) (ap (λ (t : List ℕ). x ∷ t) (bytes_le l (λ k. h (suc k))))

pub bytes-num : (xs : List ℕ) (at n : ℕ) → at + n ≤ length xs → Small xs → bytes n (num xs at n) ≡ part xs at n
unfolding num
bytes-num xs at n h b = rw (length_part xs at n h) at (bytes_le (part xs at n) (small-part xs at n b))

-- ---- fields one after the other

pub total-more : (ws : List ℕ) (i : ℕ) → i < length ws → total (drop i ws) ≡ get_or ws i 0 + total (drop (i + 1) ws)
unfolding total
total-more ws i h = let b : i + 1 ≡ suc i = omega arith in rw (b, drop-cons ws i 0 h)

pub laid_more : (s : List ℕ) (p : ℕ) (ws vs : List ℕ) (i : ℕ) → i < length ws → i < length vs
    → sets (sets s p (bytes (get_or ws i 0) (get_or vs i 0))) (p + get_or ws i 0) (laid (drop (i + 1) ws) (drop (i + 1) vs)) ≡ sets s p (laid (drop i ws) (drop i vs))
unfolding laid
laid_more s p ws vs i h k =
    let b : i + 1 ≡ suc i = omega arith in
    sets_then s p (bytes (get_or ws i 0) (get_or vs i 0)) (p + get_or ws i 0) (laid (drop (i + 1) ws) (drop (i + 1) vs)) (rw length-bytes)
    ∙ rw (drop-cons ws i 0 h, drop-cons vs i 0 k, b)

pub laid_none : (s : List ℕ) (p : ℕ) (ws vs : List ℕ) (i : ℕ) → length ws ≤ i → sets s p (laid (drop i ws) (drop i vs)) ≡ s
unfolding laid
laid_none s p ws vs i h = rw (drop_of_length-le ws h)

-- ---- zeros

-- an or is zero exactly where both are
or-zero : (a b : ℕ) → eqb (bit_or a b) 0 ≡ (eqb a 0 && eqb b 0)
or-zero a b =
    let f = or_add_and a b in
    let l = and_le_l a b in
    let r = and_le_r a b in
    zero_or a
    (λ z. rw (eq-eqb a 0 z)
    (zero_or b
    (λ w. rw (eq-eqb b 0 w) (eq-eqb (bit_or a b) 0 (omega arith)))
    (λ w. rw (ne_eqb b 0 w) (ne_eqb (bit_or a b) 0 (λ e. w (omega arith))))))
    (λ z. rw (ne_eqb a 0 z) (ne_eqb (bit_or a b) 0 (λ e. z (omega arith))))

pub and_assoc : (a b c : Bool) → ((a && b) && c) ≡ (a && (b && c))
and_assoc true b c = refl
and_assoc false b c = refl

and-true : (a : Bool) → (a && true) ≡ a
and-true true = refl
and-true false = refl

-- a scan that ors the bytes together is zero exactly where it began with zero and each byte is
pub fold_zero : (acc : ℕ) (xs : List ℕ) → eqb (fold bit_or acc xs) 0 ≡ (eqb acc 0 && all_zero xs)
unfolding all_zero
fold_zero acc [] = sym (and-true (eqb acc 0))
fold_zero acc (x ∷ xs) = fold_zero (bit_or acc x) xs ∙ rw (or-zero acc x) (and_assoc (eqb acc 0) (eqb x 0) (all_zero xs))

-- an exclusive or is zero exactly where the two are the same
xor-zero : (a b : ℕ) → eqb (bit_xor a b) 0 ≡ eqb a b
xor-zero a b =
    let f = xor_add_and a b in
    let l = and_le_l a b in
    let r = and_le_r a b in
    zero_or (bit_xor a b)
    (λ z. eq-eqb (bit_xor a b) 0 z ∙ sym (eq-eqb a b (omega arith)))
    (λ z. ne_eqb (bit_xor a b) 0 z ∙ sym (ne_eqb a b (λ e. z (ap (λ (y : ℕ). bit_xor y b) e ∙ xor_self b))))

-- a scan that ors the differences together
pub fold_same : (acc : ℕ) (xs ys : List ℕ) → length xs ≡ length ys
    → eqb (fold (λ (a : ℕ) (p : ℕ × ℕ). bit_or a (bit_xor p.0 p.1)) acc (zip xs ys)) 0 ≡ (eqb acc 0 && same xs ys)
unfolding same
fold_same acc [] [] e = sym (and-true (eqb acc 0))
fold_same acc [] (y ∷ ys) e = absurd (omega arith)
fold_same acc (x ∷ xs) [] e = absurd (omega arith)
fold_same acc (x ∷ xs) (y ∷ ys) e =
    fold_same (bit_or acc (bit_xor x y)) xs ys (omega arith)
    ∙ rw (or-zero acc (bit_xor x y), xor-zero x y) (and_assoc (eqb acc 0) (eqb x y) (same xs ys))

-- the two are one list exactly where the answer is true
pub same_true : (xs ys : List ℕ) → same xs ys ≡ true → xs ≡ ys
unfolding same
same_true [] [] e = refl
same_true [] (y ∷ ys) e = let z : ◌≡◌ {A = ℕ} 0 1 = cc in absurd (omega arith)
same_true (x ∷ xs) [] e = let z : ◌≡◌ {A = ℕ} 0 1 = cc in absurd (omega arith)
same_true (x ∷ xs) (y ∷ ys) e = go (eqb x y) refl e (same_true xs ys)
  where
    go : (t : Bool) → eqb x y ≡ t → (t && same xs ys) ≡ true → (same xs ys ≡ true → xs ≡ ys) → x ∷ xs ≡ y ∷ ys
    go true p q r = cc (eqb-true x y p, r q)
    go false p q r = let z : ◌≡◌ {A = ℕ} 0 1 = cc in absurd (omega arith)

pub same_refl : (xs : List ℕ) → same xs xs ≡ true
unfolding same
same_refl [] = refl
same_refl (x ∷ xs) = rw (eq-eqb x x refl) (same_refl xs)

pub zero-append : (xs ys : List ℕ) → all_zero (xs ++ ys) ≡ (all_zero xs && all_zero ys)
unfolding all_zero
zero-append [] ys = refl
zero-append (x ∷ xs) ys = rw (zero-append xs ys) (sym (and_assoc (eqb x 0) (all_zero xs) (all_zero ys)))

byte-zero : (x : ℕ) → (eqb (x % 256) 0 && eqb (x / 256) 0) ≡ eqb x 0
byte-zero x =
    zero_or x
    (λ z. rw (eq-eqb (x % 256) 0 (omega arith), eq-eqb (x / 256) 0 (omega arith)) (sym (eq-eqb x 0 z)))
    (λ z.
    zero_or (x % 256)
    (λ w. rw (eq-eqb (x % 256) 0 w, ne_eqb (x / 256) 0 (λ e. z (omega arith))) (sym (ne_eqb x 0 z)))
    (λ w. rw (ne_eqb (x % 256) 0 w) (sym (ne_eqb x 0 z))))

-- the bytes of a number that fits them are all zero exactly where it is
pub zero-bytes : (n x : ℕ) → x < 256 ^ n → all_zero (bytes n x) ≡ eqb x 0
unfolding all_zero bytes
zero-bytes zero x h = sym (eq-eqb x 0 (omega arith))
zero-bytes (suc n) x h = rw (zero-bytes n (x / 256) (fits_next n x h)) (byte-zero x)

pub and_both : (p q : Bool) → (p && q) ≡ true → (p ≡ true) × (q ≡ true)
and_both true q e = (refl, e)
and_both false q e = (e, absurd (let z : ◌≡◌ {A = ℕ} 0 1 = cc in omega arith))

-- every element of a list of zeros is zero
pub zero-at : (xs : List ℕ) (k : ℕ) → all_zero xs ≡ true → get_or xs k 0 ≡ 0
unfolding all_zero
zero-at [] k e = refl
zero-at (x ∷ xs) zero e = eqb-true x 0 (and_both (eqb x 0) (all_zero xs) e).0
zero-at (x ∷ xs) (suc k) e = zero-at xs k (and_both (eqb x 0) (all_zero xs) e).1

-- bytes that are all zero are as many zeros
zeros-are : (xs : List ℕ) → all_zero xs ≡ true → xs ≡ replicate (length xs) 0
unfolding all_zero
zeros-are [] e = refl
zeros-are (x ∷ xs) e =
    let b = and_both (eqb x 0) (all_zero xs) e in
    let z : x ≡ 0 = eqb-true x 0 b.0 in
    rw z (ap (λ (l : List ℕ). 0 ∷ l) (zeros-are xs b.1))

pub zero-part : (xs : List ℕ) (at n : ℕ) → at + n ≤ length xs → all_zero (part xs at n) ≡ true → part xs at n ≡ replicate n 0
zero-part xs at n h z = zeros-are (part xs at n) z ∙ ap (λ (m : ℕ). replicate m 0) (length_part xs at n h)
