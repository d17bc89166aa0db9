-- Two words as a list of 128 booleans, lowest bit first; the first that is false; how many are true. From document 02, 11/13: 128 bits, one for a used slot. Assumes nothing.
use Rattle.std.specs.Prelude.{Bool, true, false, List, [], ◌∷◌, ◌++◌, ℕ, zero, suc, ◌/◌, ◌%◌, eqb}
use Rattle.slot_map.specs.declared.SlotMap.{SlotMap}

unfoldable pub bits_of : ℕ → ℕ → List Bool
bits_of zero x = []
bits_of (suc n) x = eqb (x % 2) 1 ∷ bits_of n (x / 2)

-- the bit of slot s is at place s - 1
abbrev pub map_of : SlotMap → List Bool
map_of m = bits_of 64 m.low ++ bits_of 64 m.high

-- the place of the first false, or the length
unfoldable pub first_false : List Bool → ℕ
first_false [] = 0
first_false (true ∷ bs) = suc (first_false bs)
first_false (false ∷ bs) = 0

unfoldable pub count_true : List Bool → ℕ
count_true [] = 0
count_true (true ∷ bs) = suc (count_true bs)
count_true (false ∷ bs) = count_true bs
