-- One character: its bytes in UTF-8 (RFC 3629, sections 3 and 4) and its units in UTF-16 (RFC 2781, section 2). Assumes nothing.
use Rattle.std.specs.Prelude.{Bool, List, [], ◌∷◌, ℕ, ◌+◌, ◌*◌, ◌-◌, ◌/◌, ◌%◌, ltb, eqb, length, get_or}
use Rattle.units.specs.Answer.{pick}
use Rattle.text.specs.Ranges.{between}
use Rattle.names.specs.declared.inner.Scalar.{Scalar}

-- no scalar value: the bytes at the place are no character
abbrev pub no_scalar : Scalar
no_scalar = record { size = 0; code = 0 }

-- what stands for a surrogate that has no partner: U+FFFD, the replacement character, for one unit
abbrev pub replacement : Scalar
replacement = record { size = 1; code = 0xFFFD }

abbrev pub surrogate : ℕ → Bool
surrogate v = between 0xD800 v 0xDFFF

-- the size of a character by its first byte: 0xxxxxxx, 110xxxxx, 1110xxxx, 11110xxx, and 0 for a byte with which none begins
unfoldable pub size_of : ℕ → ℕ
size_of c = pick (ltb c 128) 1 (pick (ltb c 192) 0 (pick (ltb c 224) 2 (pick (ltb c 240) 3 (pick (ltb c 248) 4 0))))

-- each byte behind the first is 10xxxxxx
abbrev pub continues : ℕ → Bool
continues c = between 128 c 191

-- a value that was read from a number of bytes, unless fewer bytes hold it, or it is a surrogate, or past the last scalar value
unfoldable pub in_range : ℕ → ℕ → ℕ → Scalar
in_range n least v =
    pick (ltb v least) no_scalar
    (pick (surrogate v) no_scalar
    (pick (ltb 0x10FFFF v) no_scalar
    (record { size = n; code = v })))

-- the value of two, three and four bytes: the bits marked x, the first byte's highest
unfoldable pub of_two : ℕ → ℕ → Scalar
of_two c d = pick (continues d) (in_range 2 128 (c % 32 * 64 + d % 64)) no_scalar

unfoldable pub of_three : ℕ → ℕ → ℕ → Scalar
of_three c d e =
    pick (continues d)
    (pick (continues e) (in_range 3 2048 (c % 16 * 4096 + d % 64 * 64 + e % 64)) no_scalar)
    no_scalar

unfoldable pub of_four : ℕ → ℕ → ℕ → ℕ → Scalar
of_four c d e f =
    pick (continues d)
    (pick (continues e)
    (pick (continues f) (in_range 4 65536 (c % 8 * 262144 + d % 64 * 4096 + e % 64 * 64 + f % 64)) no_scalar)
    no_scalar)
    no_scalar

-- the character in n bytes at a place
abbrev pub of_size : ℕ → List ℕ → ℕ → Scalar
of_size n text at =
    pick (eqb n 1) (record { size = 1; code = get_or text at 0 })
    (pick (eqb n 2) (of_two (get_or text at 0) (get_or text (at + 1) 0))
    (pick (eqb n 3) (of_three (get_or text at 0) (get_or text (at + 1) 0) (get_or text (at + 2) 0))
    (of_four (get_or text at 0) (get_or text (at + 1) 0) (get_or text (at + 2) 0) (get_or text (at + 3) 0))))

-- the character whose bytes begin at a place: none where its first byte begins none, or the text ends before the last of them
unfoldable pub scalar_at : List ℕ → ℕ → Scalar
scalar_at text at =
    pick (eqb (size_of (get_or text at 0)) 0) no_scalar
    (pick (ltb (length text) (at + size_of (get_or text at 0))) no_scalar
    (of_size (size_of (get_or text at 0)) text at))

-- the units of a scalar value in UTF-16: itself, or a high surrogate and a low one
unfoldable pub units_of : ℕ → List ℕ
units_of v = pick (ltb v 65536) (v ∷ []) ((0xD800 + (v - 65536) / 1024) ∷ (0xDC00 + (v - 65536) % 1024) ∷ [])

-- the bytes of a scalar value in UTF-8
unfoldable pub utf8_of : ℕ → List ℕ
utf8_of v =
    pick (ltb v 128) (v ∷ [])
    (pick (ltb v 2048) ((192 + v / 64) ∷ (128 + v % 64) ∷ [])
    (pick (ltb v 65536) ((224 + v / 4096) ∷ (128 + v / 64 % 64) ∷ (128 + v % 64) ∷ [])
    ((240 + v / 262144) ∷ (128 + v / 4096 % 64) ∷ (128 + v / 64 % 64) ∷ (128 + v % 64) ∷ [])))

-- what a unit u stands for, with the unit w behind it, and how many units that takes: a high surrogate with a low one behind it is a pair, any other surrogate is replaced
unfoldable pub point_of : ℕ → ℕ → Scalar
point_of u w =
    pick (surrogate u)
    (pick (between 0xD800 u 0xDBFF)
    (pick (between 0xDC00 w 0xDFFF) (record { size = 2; code = 0x10000 + u % 1024 * 1024 + w % 1024 }) replacement)
    replacement)
    (record { size = 1; code = u })
