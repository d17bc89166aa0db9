-- One law for each way out of reading a character, in the form in which the code leaves it. Assumes nothing.
use mathlib.Core.Path.{◌≡◌, sym, ◌∙◌}
use mathlib.Core.Bool.{Bool, true, false, not}
use mathlib.Core.List.{List}
use Prim.Native.Nat.{ℕ, ◌+◌, ◌*◌, ◌-◌, ◌%◌, ◌≤◌, ◌<◌}
use native.Mathlib.Omega.{arith}
use borrow.Author.Tests.{lt-ltb, le-ltb, le-leb, lt-leb, eq-eqb, ne_eqb, not-true, not-false}
use lib.ListN.{length, get_or}
use Rattle.names.specs.declared.inner.Scalar.{Scalar}
use Rattle.names.specs.Utf8.{no_scalar, surrogate, continues, size_of, in_range, of_two, of_three, of_four, scalar_at, point_of}
use Rattle.names.specs.NameTexts.{unit_at}

-- what the test `!f(..)` says of the definition's
off : {t b : Bool} → t ≡ b → not t ≡ true → b ≡ false
off {t} e h = sym e ∙ not-true t h

on : {t b : Bool} → t ≡ b → not t ≡ false → b ≡ true
on {t} e h = sym e ∙ not-false t h

-- ---- a value that was read

module _ (n least v : ℕ) where
  pub range-low : {r : Scalar} → r ≡ no_scalar → v < least → r ≡ in_range n least v
  unfolding in_range
  range-low e h = rw (lt-ltb v least h) e

  pub range-surrogate : {r : Scalar} {t : Bool} → r ≡ no_scalar → least ≤ v → t ≡ surrogate v → t ≡ true → r ≡ in_range n least v
  unfolding in_range
  range-surrogate e h p q = rw (le-ltb v least h, sym p ∙ q) e

  pub range-past : {r : Scalar} {t : Bool} → r ≡ no_scalar → least ≤ v → t ≡ surrogate v → t ≡ false → 0x10FFFF < v → r ≡ in_range n least v
  unfolding in_range
  range-past e h p q k = rw (le-ltb v least h, sym p ∙ q, lt-ltb 0x10FFFF v k) e

  pub range-in : {t : Bool} → least ≤ v → t ≡ surrogate v → t ≡ false → v ≤ 0x10FFFF → record { size = n; code = v } ≡ in_range n least v
  unfolding in_range
  range-in h p q k = rw (le-ltb v least h, sym p ∙ q, le-ltb 0x10FFFF v k)

-- ---- two, three and four bytes

module _ {r : Scalar} {t : Bool} (c d : ℕ) (p : t ≡ continues d) where
  pub two-broken : not t ≡ true → r ≡ no_scalar → r ≡ of_two c d
  unfolding of_two
  two-broken q z = rw (off p q) z

  pub two-whole : not t ≡ false → r ≡ in_range 2 128 (c % 32 * 64 + d % 64) → r ≡ of_two c d
  unfolding of_two
  two-whole q z = rw (on p q) z

module _ {r : Scalar} {t : Bool} (c d e : ℕ) (p : t ≡ continues d) where
  pub three-second : not t ≡ true → r ≡ no_scalar → r ≡ of_three c d e
  unfolding of_three
  three-second q z = rw (off p q) z

  pub three_third : not t ≡ false → {u : Bool} → u ≡ continues e → not u ≡ true → r ≡ no_scalar → r ≡ of_three c d e
  unfolding of_three
  three_third q p₂ q₂ z = rw (on p q, off p₂ q₂) z

  pub three-whole : not t ≡ false → {u : Bool} → u ≡ continues e → not u ≡ false → r ≡ in_range 3 2048 (c % 16 * 4096 + d % 64 * 64 + e % 64) → r ≡ of_three c d e
  unfolding of_three
  three-whole q p₂ q₂ z = rw (on p q, on p₂ q₂) z

module _ {r : Scalar} {t : Bool} (c d e f : ℕ) (p : t ≡ continues d) where
  pub four-second : not t ≡ true → r ≡ no_scalar → r ≡ of_four c d e f
  unfolding of_four
  four-second q z = rw (off p q) z

  pub four-third : not t ≡ false → {u : Bool} → u ≡ continues e → not u ≡ true → r ≡ no_scalar → r ≡ of_four c d e f
  unfolding of_four
  four-third q p₂ q₂ z = rw (on p q, off p₂ q₂) z

  pub four-fourth : not t ≡ false → {u : Bool} → u ≡ continues e → not u ≡ false → {v : Bool} → v ≡ continues f → not v ≡ true → r ≡ no_scalar → r ≡ of_four c d e f
  unfolding of_four
  four-fourth q p₂ q₂ p₃ q₃ z = rw (on p q, on p₂ q₂, off p₃ q₃) z

  pub four-whole : not t ≡ false → {u : Bool} → u ≡ continues e → not u ≡ false → {v : Bool} → v ≡ continues f → not v ≡ false
      → r ≡ in_range 4 65536 (c % 8 * 262144 + d % 64 * 4096 + e % 64 * 64 + f % 64) → r ≡ of_four c d e f
  unfolding of_four
  four-whole q p₂ q₂ p₃ q₃ z = rw (on p q, on p₂ q₂, on p₃ q₃) z

-- ---- the character at a place, whose first byte says n bytes

-- what is left of a text has room for n bytes
pub room : {at n len : ℕ} → at < len → n ≤ len - at → at + n ≤ len
room h k = omega arith

module _ (text : List ℕ) (at n : ℕ) (e : n ≡ size_of (get_or text at 0)) where
  pub at_none : {r : Scalar} → n ≡ 0 → r ≡ no_scalar → r ≡ scalar_at text at
  unfolding scalar_at
  at_none h z = rw (← e, eq-eqb n 0 h) z

  module _ (some : n ≡ 0 → ⊥) where
    pub at_cut : {r : Scalar} → length text < at + n → r ≡ no_scalar → r ≡ scalar_at text at
    unfolding scalar_at
    at_cut h z = rw (← e, ne_eqb n 0 some, lt-ltb (length text) (at + n) h) z

    module _ (whole : at + n ≤ length text) where
      pub at_one : n ≡ 1 → record { size = 1; code = get_or text at 0 } ≡ scalar_at text at
      unfolding scalar_at
      at_one h = rw (← e, ne_eqb n 0 some, le-ltb (length text) (at + n) whole, eq-eqb n 1 h)

      pub at-two : {r : Scalar} → (n ≡ 1 → ⊥) → n ≡ 2 → r ≡ of_two (get_or text at 0) (get_or text (at + 1) 0) → r ≡ scalar_at text at
      unfolding scalar_at
      at-two f h z = rw (← e, ne_eqb n 0 some, le-ltb (length text) (at + n) whole, ne_eqb n 1 f, eq-eqb n 2 h) z

      pub at-three : {r : Scalar} → (n ≡ 1 → ⊥) → (n ≡ 2 → ⊥) → n ≡ 3
          → r ≡ of_three (get_or text at 0) (get_or text (at + 1) 0) (get_or text (at + 2) 0) → r ≡ scalar_at text at
      unfolding scalar_at
      at-three f g h z = rw (← e, ne_eqb n 0 some, le-ltb (length text) (at + n) whole, ne_eqb n 1 f, ne_eqb n 2 g, eq-eqb n 3 h) z

      pub at-four : {r : Scalar} → (n ≡ 1 → ⊥) → (n ≡ 2 → ⊥) → (n ≡ 3 → ⊥)
          → r ≡ of_four (get_or text at 0) (get_or text (at + 1) 0) (get_or text (at + 2) 0) (get_or text (at + 3) 0) → r ≡ scalar_at text at
      unfolding scalar_at
      at-four f g h z = rw (← e, ne_eqb n 0 some, le-ltb (length text) (at + n) whole, ne_eqb n 1 f, ne_eqb n 2 g, ne_eqb n 3 h) z

-- ---- a unit of a name, and what it stands for

pub unit-past : (name : List ℕ) (i : ℕ) → 36 ≤ i → 0 ≡ unit_at name i
unfolding unit_at
unit-past name i h = rw (le-leb 36 i h)

pub unit-here : (name : List ℕ) (i : ℕ) → i < 36 → get_or name i 0 ≡ unit_at name i
unfolding unit_at
unit-here name i h = rw (lt-leb 36 i h)

module _ {t : Bool} (u w : ℕ) (p : t ≡ surrogate u) where
  pub point-plain : not t ≡ true → record { size = 1; code = u } ≡ point_of u w
  unfolding point_of
  point-plain q = rw (off p q)
