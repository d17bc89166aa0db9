-- Digits, the highest first: decimal ones and hexadecimal ones, these in lower case. Assumes nothing.
use Rattle.std.specs.Prelude.{List, [], ◌∷◌, ◌++◌, ℕ, zero, suc, ◌+◌, ◌/◌, ◌%◌, ltb}
use Rattle.units.specs.Answer.{pick}

-- the digit of a value below 16: the code of 0 is 48, and that of a, for ten, is 97
unfoldable pub digit_of : ℕ → ℕ
digit_of v = pick (ltb v 10) (48 + v) (87 + v)

-- the n low digits of x in a base
unfoldable pub digits : ℕ → ℕ → ℕ → List ℕ
digits base zero x = []
digits base (suc n) x = digits base n (x / base) ++ (digit_of (x % base) ∷ [])
