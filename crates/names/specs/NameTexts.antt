-- The name that a text gives, and the text that a name gives. A name is 36 UTF-16 units, ended by the first zero (UEFI 2.10, 5.3.3). Assumes nothing.
use Rattle.std.specs.Prelude.{List, [], ◌++◌, ℕ, zero, suc, ◌+◌, leb, ltb, eqb, length, get_or, replicate}
use Rattle.std.proofs.lemmas.List.Edits.{sets}
use Rattle.units.specs.Answer.{pick}
use Rattle.names.specs.declared.NameOfText.{NameOfText}
use Rattle.names.specs.declared.inner.Scalar.{Scalar}
use Rattle.names.specs.Utf8.{scalar_at, units_of, utf8_of, point_of}

-- units, and zeros behind them up to 36
abbrev pub named : List ℕ → NameOfText
named us = record { number = 0; at = 0; name = sets (replicate 36 0) 0 us }

-- no name, why, and the place of the character that was refused
abbrev pub refused_name : ℕ → ℕ → NameOfText
refused_name n at = record { number = n; at = at; name = replicate 36 0 }

-- from a place on, with the units of what stands before it, while there are characters; k is at least the number of bytes that are left
-- 39: the bytes at the place are no character, or the character 0, where the name would end; 40: its units do not fit any more
unfoldable pub name_from : ℕ → List ℕ → ℕ → List ℕ → NameOfText
name_from zero text at us = named us
name_from (suc k) text at us =
    pick (leb (length text) at) (named us)
    (pick (eqb (scalar_at text at).size 0) (refused_name 39 at)
    (pick (eqb (scalar_at text at).code 0) (refused_name 39 at)
    (pick (ltb 36 (length us + length (units_of (scalar_at text at).code))) (refused_name 40 at)
    (name_from k text (at + (scalar_at text at).size) (us ++ units_of (scalar_at text at).code)))))

unfoldable pub name_of_text : List ℕ → NameOfText
name_of_text text = name_from (length text) text 0 []

-- the unit at a place of a name: zero where there is none, and from place 36 on
unfoldable pub unit_at : List ℕ → ℕ → ℕ
unit_at name i = pick (leb 36 i) 0 (get_or name i 0)

-- what the unit at a place stands for, and how many units that takes
unfoldable pub point_at : List ℕ → ℕ → Scalar
point_at name i = point_of (unit_at name i) (unit_at name (i + 1))

-- the text of a name from a unit on, up to the first zero; k is at least the number of units that are left
unfoldable pub text_from : ℕ → List ℕ → ℕ → List ℕ
text_from zero name i = []
text_from (suc k) name i =
    pick (eqb (unit_at name i) 0) []
    (utf8_of (point_at name i).code ++ text_from k name (i + (point_at name i).size))

unfoldable pub name_text : List ℕ → List ℕ
name_text name = text_from 36 name 0
