-- What `uefi_lister` prints of a name.
use Rattle.std.specs.Prelude.{ℕ, Bool, List, ◌||◌, ◌&&◌, ◌==◌, nat_le, if◌then◌else◌, encode_utf8, flat_map}
use Rattle.std.specs.List.{before_first}
use Rattle.std.specs.Char.{is_control}

-- half of a pair of units
abbrev pub is_half : ℕ → Bool
is_half unit = nat_le 0xD800 unit && nat_le unit 0xDFFF

-- the letter of a unit: half of a pair of units, and what is no letter of a line, is `?`
abbrev pub letter : ℕ → ℕ
letter unit = if is_half unit || is_control unit then 63 else unit

-- the same in UTF-8
abbrev pub letter_text : ℕ → List ℕ
letter_text unit = encode_utf8 (letter unit)

abbrev pub is_zero : ℕ → Bool
is_zero unit = unit == 0

-- a name up to its first zero unit
abbrev pub name_text : List ℕ → List ℕ
name_text units = flat_map letter_text (before_first is_zero units)
