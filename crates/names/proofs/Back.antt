-- A character that was written reads back: from its bytes in a text, and from its units. Assumes nothing.
use mathlib.Core.Path.{◌≡◌, refl, sym, ◌∙◌}
use mathlib.Core.Bool.{true, false}
use mathlib.Core.List.{List, [], ◌∷◌, ◌++◌}
use Prim.Native.Nat.{ℕ, ◌+◌, ◌*◌, ◌-◌, ◌/◌, ◌%◌, ◌≤◌, ◌<◌}
use native.Mathlib.Nat.{lt_of_not-le}
use native.Mathlib.Decide.{dec_le}
use native.Mathlib.Omega.{arith}
use borrow.Author.Tests.{lt-ltb, le-ltb}
use lib.ListN.{length, get_or, length-append}
use lib.Seq.{get_or-append_seam, get_or-append-add}
use Rattle.text.proofs.Laws.{above, below, between-true, in_between}
use Rattle.names.specs.declared.inner.Scalar.{Scalar}
use Rattle.text.specs.Ranges.{between}
use Rattle.names.specs.Utf8.{surrogate, continues, size_of, in_range, of_two, of_three, of_four, scalar_at, units_of, utf8_of, point_of}
use Rattle.names.proofs.Ways.{range-in, two-whole, three-whole, four-whole, at_one, at-two, at-three, at-four}
use Rattle.names.proofs.Sizes.{one_byte, two_bytes, three-bytes, four_bytes, two-units}

-- one order or the other
pub split {ℓ} : {X : Type ℓ} (a b : ℕ) → (a < b → X) → (b ≤ a → X) → X
split a b f g = elim (dec_le b a) [ yes h ↦ g h | no h ↦ f (lt_of_not-le h) ]

-- ---- tests

size-1 : (c : ℕ) → c < 128 → 1 ≡ size_of c
unfolding size_of
size-1 c h = rw (lt-ltb c 128 h)

size-2 : (c : ℕ) → 192 ≤ c → c < 224 → 2 ≡ size_of c
unfolding size_of
size-2 c h k = rw (le-ltb c 128 (omega arith), le-ltb c 192 h, lt-ltb c 224 k)

size-3 : (c : ℕ) → 224 ≤ c → c < 240 → 3 ≡ size_of c
unfolding size_of
size-3 c h k = rw (le-ltb c 128 (omega arith), le-ltb c 192 (omega arith), le-ltb c 224 h, lt-ltb c 240 k)

size-4 : (c : ℕ) → 240 ≤ c → c < 248 → 4 ≡ size_of c
unfolding size_of
size-4 c h k = rw (le-ltb c 128 (omega arith), le-ltb c 192 (omega arith), le-ltb c 224 (omega arith), le-ltb c 240 h, lt-ltb c 248 k)

-- ---- two, three and four bytes

-- a byte behind the first
next-byte : (x : ℕ) → true ≡ continues (128 + x % 64)
next-byte x = in_between 128 (128 + x % 64) 191 (omega arith) (omega arith)

-- the value in range, known by an equation
range-of : (n least v x : ℕ) → v ≡ x → least ≤ v → v < 0x110000 → false ≡ surrogate v → record { size = n; code = v } ≡ in_range n least x
range-of n least v x e h k s = rw (← e) (range-in n least v h s refl (omega arith))

two_back : (v : ℕ) → 128 ≤ v → v < 2048 → record { size = 2; code = v } ≡ of_two (192 + v / 64) (128 + v % 64)
two_back v h k =
    two-whole (192 + v / 64) (128 + v % 64) (next-byte v) refl
    (range-of 2 128 v _ (omega arith) h (omega arith) (below 0xD800 v 0xDFFF (omega arith)))

three_back : (v : ℕ) → 2048 ≤ v → v < 65536 → false ≡ surrogate v → record { size = 3; code = v } ≡ of_three (224 + v / 4096) (128 + v / 64 % 64) (128 + v % 64)
three_back v h k s =
    three-whole (224 + v / 4096) (128 + v / 64 % 64) (128 + v % 64) (next-byte (v / 64)) refl (next-byte v) refl
    (range-of 3 2048 v _ (omega arith) h (omega arith) s)

-- a value from its four parts
joined : (v x y z p q r : ℕ) → v ≡ x * 64 + r → x ≡ y * 64 + q → y ≡ z * 64 + p → v ≡ z * 262144 + p * 4096 + q * 64 + r
joined v x y z p q r e f g = omega arith

parts : (v : ℕ) → v ≡ v / 262144 * 262144 + v / 4096 % 64 * 4096 + v / 64 % 64 * 64 + v % 64
parts v =
    joined v (v / 64) (v / 4096) (v / 262144) (v / 4096 % 64) (v / 64 % 64) (v % 64) (omega arith) (omega arith) (omega arith)

low-six : (x : ℕ) → (128 + x % 64) % 64 ≡ x % 64
low-six x = omega arith

low-three : (x : ℕ) → x < 8 → (240 + x) % 8 ≡ x
low-three x h = omega arith

four-back : (v : ℕ) → 65536 ≤ v → v < 0x110000
    → record { size = 4; code = v } ≡ of_four (240 + v / 262144) (128 + v / 4096 % 64) (128 + v / 64 % 64) (128 + v % 64)
four-back v h k =
    four-whole (240 + v / 262144) (128 + v / 4096 % 64) (128 + v / 64 % 64) (128 + v % 64) (next-byte (v / 4096)) refl (next-byte (v / 64)) refl (next-byte v) refl
    (range-of 4 65536 v _ (rw (low-three (v / 262144) (omega arith), low-six (v / 4096), low-six (v / 64), low-six v) (parts v)) h k (above 0xD800 v 0xDFFF (omega arith) (omega arith)))

-- ---- the same inside a text

module _ (pre post : List ℕ) where
  one_at : (a : ℕ) → a < 128 → record { size = 1; code = a } ≡ scalar_at (pre ++ (a ∷ post)) (length pre)
  one_at a h =
      let t : List ℕ = pre ++ (a ∷ post) in
      let e : get_or t (length pre) 0 ≡ a = get_or-append_seam pre a post 0 in
      let r : length pre + 1 ≤ length t = omega (arith, length-append pre (a ∷ post)) in
      let s : 1 ≡ size_of (get_or t (length pre) 0) = rw e (size-1 a h) in
      rw e at (at_one t (length pre) 1 s (λ z. omega arith) r refl)

  two_at : {r : Scalar} (a b : ℕ) → 2 ≡ size_of a → r ≡ of_two a b → r ≡ scalar_at (pre ++ (a ∷ b ∷ post)) (length pre)
  two_at a b s z =
      let q : List ℕ = a ∷ b ∷ post in
      let t : List ℕ = pre ++ q in
      let e : get_or t (length pre) 0 ≡ a = get_or-append_seam pre a (b ∷ post) 0 in
      let f : get_or t (length pre + 1) 0 ≡ b = get_or-append-add pre q 1 0 in
      let l : length pre + 2 ≤ length t = omega (arith, length-append pre q) in
      at-two t (length pre) 2 (rw e s) (λ y. omega arith) l (λ y. omega arith) refl (rw (e, f) z)

  three-at : {r : Scalar} (a b c : ℕ) → 3 ≡ size_of a → r ≡ of_three a b c → r ≡ scalar_at (pre ++ (a ∷ b ∷ c ∷ post)) (length pre)
  three-at a b c s z =
      let q : List ℕ = a ∷ b ∷ c ∷ post in
      let t : List ℕ = pre ++ q in
      let e : get_or t (length pre) 0 ≡ a = get_or-append_seam pre a (b ∷ c ∷ post) 0 in
      let f : get_or t (length pre + 1) 0 ≡ b = get_or-append-add pre q 1 0 in
      let g : get_or t (length pre + 2) 0 ≡ c = get_or-append-add pre q 2 0 in
      let l : length pre + 3 ≤ length t = omega (arith, length-append pre q) in
      at-three t (length pre) 3 (rw e s) (λ y. omega arith) l (λ y. omega arith) (λ y. omega arith) refl (rw (e, f, g) z)

  four-at : {r : Scalar} (a b c d : ℕ) → 4 ≡ size_of a → r ≡ of_four a b c d → r ≡ scalar_at (pre ++ (a ∷ b ∷ c ∷ d ∷ post)) (length pre)
  four-at a b c d s z =
      let q : List ℕ = a ∷ b ∷ c ∷ d ∷ post in
      let t : List ℕ = pre ++ q in
      let e : get_or t (length pre) 0 ≡ a = get_or-append_seam pre a (b ∷ c ∷ d ∷ post) 0 in
      let f : get_or t (length pre + 1) 0 ≡ b = get_or-append-add pre q 1 0 in
      let g : get_or t (length pre + 2) 0 ≡ c = get_or-append-add pre q 2 0 in
      let h : get_or t (length pre + 3) 0 ≡ d = get_or-append-add pre q 3 0 in
      let l : length pre + 4 ≤ length t = omega (arith, length-append pre q) in
      at-four t (length pre) 4 (rw e s) (λ y. omega arith) l (λ y. omega arith) (λ y. omega arith) (λ y. omega arith) (rw (e, f, g, h) z)

  -- the bytes of a scalar value are the character of that value
  pub scalar-back : (v : ℕ) → v < 0x110000 → false ≡ surrogate v → record { size = length (utf8_of v); code = v } ≡ scalar_at (pre ++ (utf8_of v ++ post)) (length pre)
  scalar-back v k s =
      split v 128
      (λ a. rw (one_byte v a) (one_at v a))
      (λ a. split v 2048
      (λ b. rw (two_bytes v a b) (two_at _ _ (size-2 (192 + v / 64) (omega arith) (omega arith)) (two_back v a b)))
      (λ b. split v 65536
      (λ c. rw (three-bytes v b c) (three-at _ _ _ (size-3 (224 + v / 4096) (omega arith) (omega arith)) (three_back v b c s)))
      (λ c. rw (four_bytes v c) (four-at _ _ _ _ (size-4 (240 + v / 262144) (omega arith) (omega arith)) (four-back v c k)))))

-- ---- two units

-- the scalar value of a pair
abbrev pub paired : ℕ → ℕ → ℕ
paired h l = 0x10000 + h % 1024 * 1024 + l % 1024

pub pair-back : (h l : ℕ) → between 0xD800 h 0xDBFF ≡ true → between 0xDC00 l 0xDFFF ≡ true → units_of (paired h l) ≡ h ∷ l ∷ []
pair-back h l p q =
    let a = between-true 0xD800 h 0xDBFF p in
    let b = between-true 0xDC00 l 0xDFFF q in
    let x : 0xD800 + (paired h l - 65536) / 1024 ≡ h = omega (arith, a.0, a.1) in
    let y : 0xDC00 + (paired h l - 65536) % 1024 ≡ l = omega (arith, b.0, b.1) in
    two-units (paired h l) (omega arith) ∙ rw (x, y)

pub pair-point : (h l : ℕ) → between 0xD800 h 0xDBFF ≡ true → between 0xDC00 l 0xDFFF ≡ true → record { size = 2; code = paired h l } ≡ point_of h l
unfolding point_of
pair-point h l p q =
    let a = between-true 0xD800 h 0xDBFF p in
    let s : surrogate h ≡ true = sym (in_between 0xD800 h 0xDFFF a.0 (omega (arith, a.1))) in
    rw (s, p, q)

pub pair-scalar : (h l : ℕ) → false ≡ surrogate (paired h l)
pair-scalar h l = above 0xD800 (paired h l) 0xDFFF (omega arith) (omega arith)
