-- What the contracts of `console` cite.
use Rattle.std.specs.Prelude.{◌≡◌, ℕ, List, [], ◌∷◌, ◌++◌, Bool, true, false, take, codes}
use Rattle.io.specs.Digits.{last_digits}
use Rattle.std.specs.declared.option.Option.{Option}
use Rattle.std.specs.Io.KnownBytes.{Appends, Keeps}
use Rattle.console.specs.declared.Failure.{Failure}
use Rattle.console.specs.declared.Failure.TheVariants as failed

-- What asking for bs to be written does to what a writer holds, and to whether all went well so far: all of bs is written where it went and goes well,
-- a part from the front of bs where this write fails, and nothing where an earlier one failed.
abbrev pub Writes : Option (List ℕ) → Bool → Option (List ℕ) → Bool → List ℕ → Type 0
Writes old true new true bs = Appends old new bs
Writes old true new false bs = (n : ℕ) × Appends old new (take n bs)
Writes old false new ok bs = Keeps old new × (ok ≡ false)

-- what is said of a failure
abbrev pub failure_text : Failure → List ℕ
failure_text failed.Input = codes "cannot read the input"
failure_text failed.Output = codes "cannot write the output"

-- the line that says it of a program
abbrev pub failure_line : List ℕ → Failure → List ℕ
failure_line program failure = program ++ codes ": " ++ failure_text failure ++ (10 ∷ [])

-- a number in so many hexadecimal digits
abbrev pub hex_digits : ℕ → ℕ → List ℕ
hex_digits = last_digits 16

-- a byte as a space and two of them
abbrev pub spaced_byte : ℕ → List ℕ
spaced_byte byte = 32 ∷ hex_digits 2 byte
