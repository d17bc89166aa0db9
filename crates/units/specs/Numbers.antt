-- Little-endian numbers of 2, 4 and 8 bytes, read at and stored to a place of a slice (UEFI 2.10, 5.3). One definition over the width. Assumes nothing.
use Rattle.std.specs.Prelude.{not, List, ℕ, length}
use Rattle.std.proofs.lemmas.List.Edits.{sets}
use Rattle.units.specs.declared.Width.{Width}
use Rattle.units.specs.declared.Width.TheVariants.{Two, Four, Eight}
use Rattle.units.specs.declared.Number.{Number}
use Rattle.units.specs.declared.Number.TheVariants as number
use Rattle.units.specs.Answer.{Answer, accepted, refuse, pick, Outcome, gives}
use Rattle.units.specs.Bytes.{num, bytes}
use Rattle.units.specs.Places.{inside}

abbrev pub width_of : Width → ℕ
width_of Two = 2
width_of Four = 4
width_of Eight = 8

-- the bytes and the value of a number that has its width
abbrev pub bytes_in : Number → ℕ
bytes_in (number.Two x) = 2
bytes_in (number.Four x) = 4
bytes_in (number.Eight x) = 8

abbrev pub value_in : Number → ℕ
value_in (number.Two x) = x
value_in (number.Four x) = x
value_in (number.Eight x) = x

-- the number in the n bytes at a place: 2
unfoldable pub number_read : List ℕ → ℕ → ℕ → Answer ℕ
number_read xs at n = pick (not (inside (length xs) at n)) (refuse 2) (accepted (num xs at n))

-- a number stored in the n bytes at a place: 2; the answer is n
unfoldable pub number_stored : List ℕ → ℕ → ℕ → ℕ → Outcome (Answer ℕ)
number_stored xs at n x =
    pick (not (inside (length xs) at n)) (gives (refuse 2) xs)
    (gives (accepted n) (sets xs at (bytes n x)))
