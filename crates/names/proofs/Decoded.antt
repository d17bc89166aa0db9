-- What was read is what would be written: the bytes of a character that `scalar_at` finds are those of its value, which is a scalar value. Assumes nothing.
use mathlib.Core.Path.{◌≡◌, refl, sym, ◌∙◌}
use mathlib.Core.Bool.{false}
use mathlib.Core.List.{List, [], ◌∷◌, ◌++◌}
use Prim.Native.Nat.{ℕ, suc, ◌+◌, ◌*◌, ◌/◌, ◌%◌, ◌≤◌, ◌<◌}
use native.Mathlib.Omega.{arith}
use borrow.Author.Tests.{ltb-true, ltb-false, eqb-true, eqb-false}
use lib.Dec.{ltb, eqb}
use lib.ListN.{length, drop, get_or}
use lib.Seq.{drop-cons}
use Rattle.units.proofs.Laws.{by-pick}
use Rattle.text.proofs.Laws.{below, between-true}
use Rattle.names.specs.declared.inner.Scalar.{Scalar}
use Rattle.names.specs.Utf8.{no_scalar, surrogate, continues, size_of, in_range, of_two, of_three, of_four, of_size, scalar_at, utf8_of}
use Rattle.names.proofs.Sizes.{one_byte, two_bytes, three-bytes, four_bytes}

-- ---- what the size says of the first byte

record Lead (c n : ℕ) : Type 0 where
  one : n ≡ 1 → c < 128
  two : n ≡ 2 → (192 ≤ c) × (c < 224)
  three : n ≡ 3 → (224 ≤ c) × (c < 240)
  four : n ≡ 4 → (240 ≤ c) × (c < 248)
  most : n ≤ 4

lead-0 : (c : ℕ) → Lead c 0
lead-0 c =
    record {
      one = λ e. omega arith;
      two = λ e. (omega arith, omega arith);
      three = λ e. (omega arith, omega arith);
      four = λ e. (omega arith, omega arith);
      most = omega arith;
    }

lead-1 : (c : ℕ) → c < 128 → Lead c 1
lead-1 c h =
    record {
      one = λ e. h;
      two = λ e. (omega arith, omega arith);
      three = λ e. (omega arith, omega arith);
      four = λ e. (omega arith, omega arith);
      most = omega arith;
    }

lead-2 : (c : ℕ) → 192 ≤ c → c < 224 → Lead c 2
lead-2 c h k =
    record {
      one = λ e. omega arith;
      two = λ e. (h, k);
      three = λ e. (omega arith, omega arith);
      four = λ e. (omega arith, omega arith);
      most = omega arith;
    }

lead-3 : (c : ℕ) → 224 ≤ c → c < 240 → Lead c 3
lead-3 c h k =
    record {
      one = λ e. omega arith;
      two = λ e. (omega arith, omega arith);
      three = λ e. (h, k);
      four = λ e. (omega arith, omega arith);
      most = omega arith;
    }

lead-4 : (c : ℕ) → 240 ≤ c → c < 248 → Lead c 4
lead-4 c h k =
    record {
      one = λ e. omega arith;
      two = λ e. (omega arith, omega arith);
      three = λ e. (omega arith, omega arith);
      four = λ e. (h, k);
      most = omega arith;
    }

lead-of : (c : ℕ) → Lead c (size_of c)
unfolding size_of
lead-of c =
    by-pick (Lead c) (ltb c 128) _ _
    (λ p. lead-1 c (ltb-true c 128 p))
    (λ _. by-pick (Lead c) (ltb c 192) _ _
    (λ _. lead-0 c)
    (λ q. by-pick (Lead c) (ltb c 224) _ _
    (λ r. lead-2 c (ltb-false c 192 q) (ltb-true c 224 r))
    (λ r. by-pick (Lead c) (ltb c 240) _ _
    (λ s. lead-3 c (ltb-false c 224 r) (ltb-true c 240 s))
    (λ s. by-pick (Lead c) (ltb c 248) _ _ (λ t. lead-4 c (ltb-false c 240 s) (ltb-true c 248 t)) (λ _. lead-0 c)))))

-- ---- the bytes from a place on are those of a character, and then the rest

pub record Read (text : List ℕ) (at : ℕ) (r : Scalar) : Type 0 where
  pub bytes : (r.size ≡ 0 → ⊥) → drop at text ≡ utf8_of r.code ++ drop (at + r.size) text
  pub scalar : (r.size ≡ 0 → ⊥) → surrogate r.code ≡ false
  pub code : r.code < 0x110000
  pub room : at + r.size ≤ length text

module _ (text : List ℕ) (at : ℕ) (here : at < length text) where
  read_none : Read text at no_scalar
  read_none = record { bytes = λ h. absurd (h refl); scalar = λ h. absurd (h refl); code = omega arith; room = omega arith }

  read-range : (n least v : ℕ) → at + n ≤ length text → (least ≤ v → v < 0x110000 → drop at text ≡ utf8_of v ++ drop (at + n) text) → Read text at (in_range n least v)
  unfolding in_range
  read-range n least v g f =
      by-pick (Read text at) (ltb v least) _ _
      (λ _. read_none)
      (λ p. by-pick (Read text at) (surrogate v) _ _
      (λ _. read_none)
      (λ q. by-pick (Read text at) (ltb 0x10FFFF v) _ _
      (λ _. read_none)
      (λ r.
      let k : v < 0x110000 = omega (arith, ltb-false 0x10FFFF v r) in
      record { bytes = λ _. f (ltb-false v least p) k; scalar = λ _. q; code = k; room = g })))

-- the text from the place on, byte by byte
byte-0 : (text : List ℕ) (at : ℕ) → at + 1 ≤ length text → drop at text ≡ get_or text at 0 ∷ drop (at + 1) text
byte-0 text at h =
    let l : at < length text = omega arith in
    let e : at + 1 ≡ suc at = omega arith in
    rw e (drop-cons text at 0 l)

byte_next : (text : List ℕ) (at i j : ℕ) → i + 1 ≡ j → at + j ≤ length text → drop (at + i) text ≡ get_or text (at + i) 0 ∷ drop (at + j) text
byte_next text at i j e h =
    let l : at + i < length text = omega arith in
    let f : at + j ≡ suc (at + i) = omega arith in
    rw f (drop-cons text (at + i) 0 l)

-- ---- a value made of its bytes' bits has these bytes

low-6 : (d : ℕ) → 128 ≤ d → d ≤ 191 → 128 + d % 64 ≡ d
low-6 d h k = omega arith

two-same : (c d : ℕ) → 192 ≤ c → c < 224 → (128 ≤ d) × (d ≤ 191) → 128 ≤ c % 32 * 64 + d % 64 → utf8_of (c % 32 * 64 + d % 64) ≡ c ∷ d ∷ []
two-same c d h k b l =
    let v : ℕ = c % 32 * 64 + d % 64 in
    let x : 192 + v / 64 ≡ c = omega arith in
    let y : 128 + v % 64 ≡ d = omega (arith, b.0, b.1) in
    two_bytes v l (omega arith) ∙ rw (x, y)

digits_3 : (x y z : ℕ) → y < 64 → z < 64
    → ((x * 4096 + y * 64 + z) / 4096 ≡ x) × ((x * 4096 + y * 64 + z) / 64 % 64 ≡ y) × ((x * 4096 + y * 64 + z) % 64 ≡ z)
digits_3 x y z h k = (omega arith, omega arith, omega arith)

three-same : (c d e : ℕ) → 224 ≤ c → c < 240 → (128 ≤ d) × (d ≤ 191) → (128 ≤ e) × (e ≤ 191) → 2048 ≤ c % 16 * 4096 + d % 64 * 64 + e % 64
    → utf8_of (c % 16 * 4096 + d % 64 * 64 + e % 64) ≡ c ∷ d ∷ e ∷ []
three-same c d e h k b b₂ l =
    let v : ℕ = c % 16 * 4096 + d % 64 * 64 + e % 64 in
    let g = digits_3 (c % 16) (d % 64) (e % 64) (omega arith) (omega arith) in
    let x : 224 + c % 16 ≡ c = omega arith in
    three-bytes v l (omega arith) ∙ rw (g.0, g.1, g.2, x, low-6 d b.0 b.1, low-6 e b₂.0 b₂.1)

digits_4 : (w x y z : ℕ) → x < 64 → y < 64 → z < 64
    → ((w * 262144 + x * 4096 + y * 64 + z) / 262144 ≡ w)
    × ((w * 262144 + x * 4096 + y * 64 + z) / 4096 % 64 ≡ x)
    × ((w * 262144 + x * 4096 + y * 64 + z) / 64 % 64 ≡ y)
    × ((w * 262144 + x * 4096 + y * 64 + z) % 64 ≡ z)
digits_4 w x y z h k l = (omega arith, omega arith, omega arith, omega arith)

four_same : (c d e f : ℕ) → 240 ≤ c → c < 248 → (128 ≤ d) × (d ≤ 191) → (128 ≤ e) × (e ≤ 191) → (128 ≤ f) × (f ≤ 191)
    → 65536 ≤ c % 8 * 262144 + d % 64 * 4096 + e % 64 * 64 + f % 64
    → utf8_of (c % 8 * 262144 + d % 64 * 4096 + e % 64 * 64 + f % 64) ≡ c ∷ d ∷ e ∷ f ∷ []
four_same c d e f h k b b₂ b₃ l =
    let v : ℕ = c % 8 * 262144 + d % 64 * 4096 + e % 64 * 64 + f % 64 in
    let g = digits_4 (c % 8) (d % 64) (e % 64) (f % 64) (omega arith) (omega arith) (omega arith) in
    let x : 240 + c % 8 ≡ c = omega arith in
    four_bytes v l ∙ rw (g.0, g.1, g.2, g.3, x, low-6 d b.0 b.1, low-6 e b₂.0 b₂.1, low-6 f b₃.0 b₃.1)

-- ---- by the number of bytes

module _ (text : List ℕ) (at : ℕ) (here : at < length text) where
  read_one : at + 1 ≤ length text → get_or text at 0 < 128 → Read text at (record { size = 1; code = get_or text at 0 })
  read_one h k =
      record {
        bytes = λ _. rw (one_byte (get_or text at 0) k) (byte-0 text at h);
        scalar = λ _. sym (below 0xD800 (get_or text at 0) 0xDFFF (omega arith));
        code = omega arith;
        room = h;
      }

  cut-two : at + 2 ≤ length text → drop at text ≡ (get_or text at 0 ∷ get_or text (at + 1) 0 ∷ []) ++ drop (at + 2) text
  cut-two h = byte-0 text at (omega arith) ∙ rw (byte_next text at 1 2 refl h)

  cut-three : at + 3 ≤ length text → drop at text ≡ (get_or text at 0 ∷ get_or text (at + 1) 0 ∷ get_or text (at + 2) 0 ∷ []) ++ drop (at + 3) text
  cut-three h = cut-two (omega arith) ∙ rw (byte_next text at 2 3 refl h)

  cut-four : at + 4 ≤ length text
      → drop at text ≡ (get_or text at 0 ∷ get_or text (at + 1) 0 ∷ get_or text (at + 2) 0 ∷ get_or text (at + 3) 0 ∷ []) ++ drop (at + 4) text
  cut-four h = cut-three (omega arith) ∙ rw (byte_next text at 3 4 refl h)

  read-two : at + 2 ≤ length text → (192 ≤ get_or text at 0) × (get_or text at 0 < 224) → Read text at (of_two (get_or text at 0) (get_or text (at + 1) 0))
  unfolding of_two
  read-two h p =
      let c : ℕ = get_or text at 0 in
      let d : ℕ = get_or text (at + 1) 0 in
      by-pick (Read text at) (continues d) _ _
      (λ r.
      read-range text at here 2 128 (c % 32 * 64 + d % 64) h
      (λ l m. rw (two-same c d p.0 p.1 (between-true 128 d 191 r) l) (cut-two h)))
      (λ _. read_none text at here)

  read-three : at + 3 ≤ length text → (224 ≤ get_or text at 0) × (get_or text at 0 < 240)
      → Read text at (of_three (get_or text at 0) (get_or text (at + 1) 0) (get_or text (at + 2) 0))
  unfolding of_three
  read-three h p =
      let c : ℕ = get_or text at 0 in
      let d : ℕ = get_or text (at + 1) 0 in
      let e : ℕ = get_or text (at + 2) 0 in
      by-pick (Read text at) (continues d) _ _
      (λ r. by-pick (Read text at) (continues e) _ _
      (λ s.
      read-range text at here 3 2048 (c % 16 * 4096 + d % 64 * 64 + e % 64) h
      (λ l m. rw (three-same c d e p.0 p.1 (between-true 128 d 191 r) (between-true 128 e 191 s) l) (cut-three h)))
      (λ _. read_none text at here))
      (λ _. read_none text at here)

  read-four : at + 4 ≤ length text → (240 ≤ get_or text at 0) × (get_or text at 0 < 248)
      → Read text at (of_four (get_or text at 0) (get_or text (at + 1) 0) (get_or text (at + 2) 0) (get_or text (at + 3) 0))
  unfolding of_four
  read-four h p =
      let c : ℕ = get_or text at 0 in
      let d : ℕ = get_or text (at + 1) 0 in
      let e : ℕ = get_or text (at + 2) 0 in
      let f : ℕ = get_or text (at + 3) 0 in
      by-pick (Read text at) (continues d) _ _
      (λ r. by-pick (Read text at) (continues e) _ _
      (λ s. by-pick (Read text at) (continues f) _ _
      (λ t.
      read-range text at here 4 65536 (c % 8 * 262144 + d % 64 * 4096 + e % 64 * 64 + f % 64) h
      (λ l m. rw (four_same c d e f p.0 p.1 (between-true 128 d 191 r) (between-true 128 e 191 s) (between-true 128 f 191 t) l) (cut-four h)))
      (λ _. read_none text at here))
      (λ _. read_none text at here))
      (λ _. read_none text at here)

  read-size : (n : ℕ) → Lead (get_or text at 0) n → (n ≡ 0 → ⊥) → at + n ≤ length text → Read text at (of_size n text at)
  read-size n g z h =
      by-pick (Read text at) (eqb n 1) _ _
      (λ p. let e = eqb-true n 1 p in read_one (omega arith) (g.one e))
      (λ p. by-pick (Read text at) (eqb n 2) _ _
      (λ q. let e = eqb-true n 2 q in read-two (omega arith) (g.two e))
      (λ q. by-pick (Read text at) (eqb n 3) _ _
      (λ r. let e = eqb-true n 3 r in read-three (omega arith) (g.three e))
      (λ r.
      let e : n ≡ 4 = omega (arith, eqb-false n 1 p, eqb-false n 2 q, eqb-false n 3 r, g.most) in
      read-four (omega arith) (g.four e))))

  pub read-at : Read text at (scalar_at text at)
  unfolding scalar_at
  read-at =
      let n : ℕ = size_of (get_or text at 0) in
      by-pick (Read text at) (eqb n 0) _ _
      (λ _. read_none text at here)
      (λ p. by-pick (Read text at) (ltb (length text) (at + n)) _ _
      (λ _. read_none text at here)
      (λ q. read-size n (lead-of (get_or text at 0)) (eqb-false n 0 p) (ltb-false (length text) (at + n) q)))

  -- the same of a call that found it
  pub found : {r : Scalar} → r ≡ scalar_at text at → (r ≡ scalar_at text at) × (at + r.size ≤ length text) × (r.code < 0x110000)
  found e =
      let d = rw (← e) at read-at in
      (e, d.room, d.code)
