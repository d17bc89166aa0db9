-- How much room a character takes: its units in a name, its bytes as they are stored, and all bytes of the text of a name. Assumes nothing.
use mathlib.Core.Path.{◌≡◌, refl}
use mathlib.Core.List.{List, [], ◌∷◌}
use Prim.Native.Nat.{ℕ, zero, suc, ◌+◌, ◌*◌, ◌-◌, ◌/◌, ◌%◌, ◌≤◌, ◌<◌}
use native.Mathlib.Omega.{arith}
use borrow.Author.Tests.{lt-ltb, le-ltb, ltb-false, leb-false, eqb-false}
use lib.Dec.{leb, ltb, eqb}
use lib.ListN.{length, get_or, set, length-append}
use lib.Seq.{sets}
use Rattle.units.proofs.Laws.{by-pick}
use Rattle.text.proofs.Laws.{between-true}
use Rattle.names.specs.declared.inner.Scalar.{Scalar}
use Rattle.text.specs.Ranges.{between}
use Rattle.names.specs.Utf8.{surrogate, units_of, utf8_of, point_of}
use Rattle.names.specs.NameTexts.{unit_at, point_at, text_from, name_text}

-- ---- the units of a character

pub one_unit : (v : ℕ) → v < 65536 → units_of v ≡ v ∷ []
unfolding units_of
one_unit v h = rw (lt-ltb v 65536 h)

pub two-units : (v : ℕ) → 65536 ≤ v → units_of v ≡ (0xD800 + (v - 65536) / 1024) ∷ (0xDC00 + (v - 65536) % 1024) ∷ []
unfolding units_of
two-units v h = rw (le-ltb v 65536 h)

pub one-count : (v : ℕ) → v < 65536 → 1 ≡ length (units_of v)
one-count v h = rw (one_unit v h)

pub two-count : (v : ℕ) → 65536 ≤ v → 2 ≡ length (units_of v)
two-count v h = rw (two-units v h)

pub ruleset unit_counts = (one-count, two-count)

pub put_one : (s : List ℕ) (k v : ℕ) → v < 65536 → set s k v ≡ sets s k (units_of v)
put_one s k v h = rw (one_unit v h)

pub put_two : (s : List ℕ) (k v : ℕ) → 65536 ≤ v → set (set s k (0xD800 + (v - 65536) / 1024)) (k + 1) (0xDC00 + (v - 65536) % 1024) ≡ sets s k (units_of v)
put_two s k v h = let e : k + 1 ≡ suc k = omega arith in rw (two-units v h, e)

-- ---- the bytes of a character

pub one_byte : (v : ℕ) → v < 128 → utf8_of v ≡ v ∷ []
unfolding utf8_of
one_byte v h = rw (lt-ltb v 128 h)

pub two_bytes : (v : ℕ) → 128 ≤ v → v < 2048 → utf8_of v ≡ (192 + v / 64) ∷ (128 + v % 64) ∷ []
unfolding utf8_of
two_bytes v h k = rw (le-ltb v 128 h, lt-ltb v 2048 k)

pub three-bytes : (v : ℕ) → 2048 ≤ v → v < 65536 → utf8_of v ≡ (224 + v / 4096) ∷ (128 + v / 64 % 64) ∷ (128 + v % 64) ∷ []
unfolding utf8_of
three-bytes v h k = rw (le-ltb v 128 (omega arith), le-ltb v 2048 h, lt-ltb v 65536 k)

pub four_bytes : (v : ℕ) → 65536 ≤ v → utf8_of v ≡ (240 + v / 262144) ∷ (128 + v / 4096 % 64) ∷ (128 + v / 64 % 64) ∷ (128 + v % 64) ∷ []
unfolding utf8_of
four_bytes v h = rw (le-ltb v 128 (omega arith), le-ltb v 2048 (omega arith), le-ltb v 65536 h)

pub count-1 : (v : ℕ) → v < 128 → 1 ≡ length (utf8_of v)
count-1 v h = rw (one_byte v h)

pub count-2 : (v : ℕ) → 128 ≤ v → v < 2048 → 2 ≡ length (utf8_of v)
count-2 v h k = rw (two_bytes v h k)

pub count-3 : (v : ℕ) → 2048 ≤ v → v < 65536 → 3 ≡ length (utf8_of v)
count-3 v h k = rw (three-bytes v h k)

pub count-4 : (v : ℕ) → 65536 ≤ v → 4 ≡ length (utf8_of v)
count-4 v h = rw (four_bytes v h)

pub ruleset byte_counts = (count-1, count-2, count-3, count-4)

module _ (s : List ℕ) (n v : ℕ) where
  one_more : n + 1 ≡ suc n
  one_more = omega arith

  two-more : n + 2 ≡ suc (suc n)
  two-more = omega arith

  three-more : n + 3 ≡ suc (suc (suc n))
  three-more = omega arith

  pub store-1 : v < 128 → set s n v ≡ sets s n (utf8_of v)
  store-1 h = rw (one_byte v h)

  pub store-2 : 128 ≤ v → v < 2048 → set (set s n (192 + v / 64)) (n + 1) (128 + v % 64) ≡ sets s n (utf8_of v)
  store-2 h k = rw (two_bytes v h k, one_more)

  pub store-3 : 2048 ≤ v → v < 65536
      → set (set (set s n (224 + v / 4096)) (n + 1) (128 + v / 64 % 64)) (n + 2) (128 + v % 64) ≡ sets s n (utf8_of v)
  store-3 h k = rw (three-bytes v h k, one_more, two-more)

  pub store-4 : 65536 ≤ v
      → set (set (set (set s n (240 + v / 262144)) (n + 1) (128 + v / 4096 % 64)) (n + 2) (128 + v / 64 % 64)) (n + 3) (128 + v % 64) ≡ sets s n (utf8_of v)
  store-4 h = rw (four_bytes v h, one_more, two-more, three-more)

-- ---- what a unit stands for: its units are in the name, and its bytes have room

-- a list of at most n
record Most (n : ℕ) (l : List ℕ) : Type 0 where
  most : length l ≤ n

at-most-4 : (v : ℕ) → Most 4 (utf8_of v)
unfolding utf8_of
at-most-4 v =
    by-pick (Most 4) (ltb v 128) _ _
    (λ _. record { most = omega arith })
    (λ _. by-pick (Most 4) (ltb v 2048) _ _
    (λ _. record { most = omega arith })
    (λ _. by-pick (Most 4) (ltb v 65536) _ _ (λ _. record { most = omega arith }) (λ _. record { most = omega arith })))

at-most-3 : (v : ℕ) → v < 65536 → Most 3 (utf8_of v)
unfolding utf8_of
at-most-3 v h =
    by-pick (Most 3) (ltb v 128) _ _
    (λ _. record { most = omega arith })
    (λ _. by-pick (Most 3) (ltb v 2048) _ _
    (λ _. record { most = omega arith })
    (λ _. by-pick (Most 3) (ltb v 65536) _ _ (λ _. record { most = omega arith }) (λ p. absurd (omega (arith, ltb-false v 65536 p)))))

record Some (l : List ℕ) : Type 0 where
  some : 1 ≤ length l

some_of : (v : ℕ) → Some (utf8_of v)
unfolding utf8_of
some_of v =
    by-pick Some (ltb v 128) _ _
    (λ _. record { some = omega arith })
    (λ _. by-pick Some (ltb v 2048) _ _
    (λ _. record { some = omega arith })
    (λ _. by-pick Some (ltb v 65536) _ _ (λ _. record { some = omega arith }) (λ _. record { some = omega arith })))

pub at-least-1 : (v : ℕ) → 1 ≤ length (utf8_of v)
at-least-1 v = (some_of v).some

record Fit (r : Scalar) : Type 0 where
  some : 1 ≤ r.size
  code : r.code < 0x110000
  bytes : length (utf8_of r.code) ≤ 3 * r.size

fit-one : (v : ℕ) → v < 65536 → Fit (record { size = 1; code = v })
fit-one v h = record { some = omega arith; code = omega arith; bytes = (at-most-3 v h).most }

fit-point : (u w : ℕ) → u < 65536 → Fit (point_of u w)
unfolding point_of
fit-point u w h =
    by-pick Fit (surrogate u) _ _
    (λ _. by-pick Fit (between 0xD800 u 0xDBFF) _ _
    (λ _. by-pick Fit (between 0xDC00 w 0xDFFF) _ _
    (λ _. record { some = omega arith; code = omega arith; bytes = omega (arith, (at-most-4 (0x10000 + u % 1024 * 1024 + w % 1024)).most) })
    (λ _. fit-one 0xFFFD (omega arith)))
    (λ _. fit-one 0xFFFD (omega arith)))
    (λ _. fit-one u h)

-- a unit that is not zero is one of the 36
unit-inside : (name : List ℕ) (i : ℕ) → 0 < unit_at name i → i < 36
unfolding unit_at
unit-inside name i =
    by-pick (λ u. 0 < u → i < 36) (leb 36 i) _ _ (λ _. λ h. absurd (omega arith)) (λ p. λ _. leb-false 36 i p)

-- so many units from a place on are inside the 36
record Inside (i : ℕ) (r : Scalar) : Type 0 where
  inside : i + r.size ≤ 36

inside_one : (i v : ℕ) → i < 36 → Inside i (record { size = 1; code = v })
inside_one i v h = record { inside = omega arith }

point-inside : (name : List ℕ) (i u : ℕ) → i < 36 → Inside i (point_of u (unit_at name (i + 1)))
unfolding point_of
point-inside name i u h =
    let w : ℕ = unit_at name (i + 1) in
    by-pick (Inside i) (surrogate u) _ _
    (λ _. by-pick (Inside i) (between 0xD800 u 0xDBFF) _ _
    (λ _. by-pick (Inside i) (between 0xDC00 w 0xDFFF) _ _
    (λ p. record { inside = omega (arith, unit-inside name (i + 1) (omega (arith, (between-true 0xDC00 w 0xDFFF p).0))) })
    (λ _. inside_one i 0xFFFD h))
    (λ _. inside_one i 0xFFFD h))
    (λ _. inside_one i u h)

pub point-here : (name : List ℕ) (i : ℕ) → i < 36 → {r : Scalar} {u w : ℕ} → u ≡ unit_at name i → u < 65536 → w ≡ unit_at name (i + 1) → r ≡ point_of u w
    → ((r ≡ point_at name i) × (1 ≤ r.size) × (i + r.size ≤ 36)) × ((r.code < 0x110000) × (length (utf8_of r.code) ≤ 3 * r.size))
unfolding point_at
point-here name i h {r} {u} {w} e b f q =
    let p = rw (← q) at (fit-point u w b) in
    let s = rw (← f, ← q) at (point-inside name i u h) in
    ((rw (← e, ← f) q, p.some, s.inside), (p.code, p.bytes))

-- ---- the text of a name of 16-bit units has at most 108 bytes

unit-small : (name : List ℕ) → ((i : ℕ) → get_or name i 0 < 65536) → (i : ℕ) → unit_at name i < 65536
unfolding unit_at
unit-small name b i = by-pick (λ (u : ℕ). u < 65536) (leb 36 i) 0 (get_or name i 0) (λ _. omega arith) (λ _. b i)

text-most : (name : List ℕ) → ((i : ℕ) → get_or name i 0 < 65536) → (k i : ℕ) → i ≤ 36 → Most (3 * (36 - i)) (text_from k name i)
unfolding text_from point_at
text-most name b zero i h = record { most = omega arith }
text-most name b (suc k) i h =
    by-pick (Most (3 * (36 - i))) (eqb (unit_at name i) 0) _ _
    (λ _. record { most = omega arith })
    (λ p.
    let z = eqb-false (unit_at name i) 0 p in
    let r : Scalar = point_at name i in
    let q = point-here name i (unit-inside name i (omega arith)) {r = r} refl (unit-small name b i) refl refl in
    record { most = omega (arith, length-append (utf8_of r.code) (text_from k name (i + r.size)), q.1.1, q.0.2, (text-most name b k (i + r.size) q.0.2).most) })

pub text-room : (name : List ℕ) → ((i : ℕ) → get_or name i 0 < 65536) → length (name_text name) ≤ 108
unfolding name_text
text-room name b = (text-most name b 36 0 (omega arith)).most
