-- Hexadecimal digits that are read, of either case (RFC 9562, section 4). Assumes nothing.
use Rattle.std.specs.Prelude.{List, [], ◌∷◌, ℕ, ◌+◌, ◌*◌, ◌-◌, ◌%◌}
use Rattle.units.specs.Answer.{pick}
use Rattle.text.specs.Ranges.{between}

-- what a digit of either case stands for, 0 to 9 (the codes 48 to 57), A to F (65 to 70) or a to f (97 to 102); 16 for what is no digit
unfoldable pub hex_digit_value : ℕ → ℕ
hex_digit_value c = pick (between 48 c 57) (c - 48) (pick (between 65 c 70) (c - 55) (pick (between 97 c 102) (c - 87) 16))

-- the number that digits stand for, the highest first, behind what was read before them; what is no digit counts as 0
unfoldable pub hex_after : ℕ → List ℕ → ℕ
hex_after v [] = v
hex_after v (c ∷ cs) = hex_after (v * 16 + hex_digit_value c % 16) cs
