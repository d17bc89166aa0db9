-- Parts of a list of bytes, and numbers in bytes, least byte first (UEFI 2.10, 5.3: all numbers are little-endian).
-- A store is the library's `sets xs at vs`: xs with the elements of vs from place at on. Assumes nothing.
use Rattle.std.specs.Prelude.{Bool, true, false, ◌&&◌, ℕ, zero, suc, ◌+◌, ◌*◌, ◌/◌, ◌%◌, List, [], ◌∷◌, ◌++◌, eqb, take, drop}

-- the n elements of xs from place at on
abbrev pub part : List ℕ → ℕ → ℕ → List ℕ
part xs at n = take n (drop at xs)

-- the number that bytes stand for, least byte first
unfoldable pub le : List ℕ → ℕ
le [] = 0
le (b ∷ bs) = b + 256 * le bs

-- the number in the n bytes of xs at place at
unfoldable pub num : List ℕ → ℕ → ℕ → ℕ
num xs at n = le (part xs at n)

-- the n low bytes of x, least first
unfoldable pub bytes : ℕ → ℕ → List ℕ
bytes zero x = []
bytes (suc n) x = x % 256 ∷ bytes n (x / 256)

-- the sum of the numbers
unfoldable pub total : List ℕ → ℕ
total [] = 0
total (w ∷ ws) = w + total ws

-- fields one after the other: each value in its width of bytes
unfoldable pub laid : List ℕ → List ℕ → List ℕ
laid (w ∷ ws) (v ∷ vs) = bytes w v ++ laid ws vs
laid [] vs = []
laid (w ∷ ws) [] = []

-- two lists are the same
unfoldable pub same : List ℕ → List ℕ → Bool
same [] [] = true
same [] (y ∷ ys) = false
same (x ∷ xs) [] = false
same (x ∷ xs) (y ∷ ys) = eqb x y && same xs ys

-- every byte is zero
unfoldable pub all_zero : List ℕ → Bool
all_zero [] = true
all_zero (b ∷ bs) = eqb b 0 && all_zero bs
