-- What the exported header sums answer, for a slice of any length.
-- Assumes nothing.
use Rattle.std.specs.Prelude.{◌≡◌, List, Bool, true, false, ℕ, zero, suc, ◌+◌, ◌-◌, ◌<◌, ◌≤◌, ltb, length}
use Rattle.std.specs.Int.Bits.{bit_xor}
use Rattle.std.proofs.Common.{lt-ltb, le-ltb, arith}
use Rattle.crc32.specs.HeaderSum.{header_sum}

abbrev pick : Bool → ℕ → ℕ → ℕ
pick true a b = a
pick false a b = b

-- fewer than 92 bytes are no header, and the answer is 0; from 92 bytes on it is the sum of the first 92
unfoldable pub exported_sum : List ℕ → ℕ
exported_sum h = pick (ltb (length h) 92) 0 (header_sum h 0)

-- the place after a place at which a header still fits into n bytes, or else the first
unfoldable pub next_place : ℕ → ℕ → ℕ
next_place at n = pick (ltb 92 (n - at)) (at + 1) 0

-- k sums from a place on, each xored over those before it
unfoldable pub sums_from : List ℕ → ℕ → ℕ → ℕ → ℕ
sums_from h at zero x = x
sums_from h at (suc k) x = sums_from h (next_place at (length h)) k (bit_xor x (header_sum h at))

-- k header sums, from the first place on; 0 where h has fewer than 92 bytes
unfoldable pub exported_sums : List ℕ → ℕ → ℕ
exported_sums h k = pick (ltb (length h) 92) 0 (sums_from h 0 k 0)

pub short-sums : (h : List ℕ) (k : ℕ) → length h < 92 → exported_sums h k ≡ 0
unfolding exported_sums
short-sums h k l = simp (lt-ltb _ _ l)

pub whole-sums : (h : List ℕ) (k : ℕ) → 92 ≤ length h → exported_sums h k ≡ sums_from h 0 k 0
unfolding exported_sums
whole-sums h k l = simp (le-ltb _ _ l)

-- one sum, and the sums that are left
pub sums-more : (h : List ℕ) (at i n x : ℕ) → i < n
    → sums_from h (next_place at (length h)) (n - (i + 1)) (bit_xor x (header_sum h at)) ≡ sums_from h at (n - i) x
unfolding sums_from
sums-more h at i n x l = let e : n - i ≡ suc (n - (i + 1)) = omega arith in rw e

pub sums_none : (h : List ℕ) (at i n x : ℕ) → n ≤ i → sums_from h at (n - i) x ≡ x
unfolding sums_from
sums_none h at i n x l = let e : n - i ≡ 0 = omega arith in rw e

pub short-sum : (h : List ℕ) → length h < 92 → exported_sum h ≡ 0
unfolding exported_sum
short-sum h l = simp (lt-ltb _ _ l)

pub whole_sum : (h : List ℕ) → 92 ≤ length h → exported_sum h ≡ header_sum h 0
unfolding exported_sum
whole_sum h l = simp (le-ltb _ _ l)
