-- A text as the list of its bytes, and how it is handed to a caller who lends bytes for it. Assumes nothing.
use Rattle.std.specs.Prelude.{List, [], ◌∷◌, ◌++◌, ℕ, zero, suc, ltb, length}
use Prim.Native.String.{String, len, char_at}
use Prim.Native.Char.{code}
use Rattle.std.proofs.lemmas.List.Edits.{sets}
use Rattle.units.specs.Answer.{Answer, accepted, refuse, pick, Outcome, gives}

-- the codes of the n characters from place i on
abbrev codes_from : String → ℕ → ℕ → List ℕ
codes_from s i zero = []
codes_from s i (suc n) = code (char_at s i) ∷ codes_from s (suc i) n

-- the bytes of a text of plain characters, each of which is one byte
abbrev pub ascii : String → List ℕ
ascii s = codes_from s 0 (len s)

-- a text in lent bytes, and a zero behind it: 2 where there is no room for both; the answer is the text's length
unfoldable pub text_stored : List ℕ → List ℕ → Outcome (Answer ℕ)
text_stored out words =
    pick (ltb (length words) (length out))
    (gives (accepted (length words)) (sets out 0 (words ++ (0 ∷ []))))
    (gives (refuse 2) out)
