-- A GUID in the usual form (UEFI 2.10, appendix A; RFC 9562, section 4): 32 hexadecimal digits in groups of 8, 4, 4, 4 and 12 with dashes between. The first three groups are the
-- three numbers, the last two the eight bytes in their order. Lower case is written, either case is read. Assumes nothing.
use Rattle.std.specs.Prelude.{Bool, ◌||◌, List, [], ◌∷◌, ◌++◌, ℕ, zero, suc, ◌+◌, ◌*◌, eqb, ltb, length, get_or}
use Rattle.units.specs.declared.Tail.{Tail}
use Rattle.units.specs.declared.Guid.{Guid}
use Rattle.units.specs.Answer.{pick}
use Rattle.units.specs.Bytes.{part}
use Rattle.units.specs.Guids.{nil_guid}
use Rattle.text.specs.Digits.{digits}
use Rattle.guid_text.specs.declared.GuidOfText.{GuidOfText}
use Rattle.guid_text.specs.Hex.{hex_digit_value, hex_after}

abbrev pub dash : ℕ
dash = 45

-- the number in bytes, the highest first
unfoldable pub big : List ℕ → ℕ → ℕ
big [] v = v
big (b ∷ bs) v = big bs (v * 256 + b)

-- a group of digits with a dash behind it
abbrev pub group : ℕ → ℕ → List ℕ
group n x = digits 16 n x ++ (dash ∷ [])

abbrev pub clock_of : Tail → ℕ
clock_of t = big (t.0 ∷ t.1 ∷ []) 0

abbrev pub node_of : Tail → ℕ
node_of t = big (t.2 ∷ t.3 ∷ t.4 ∷ t.5 ∷ t.6 ∷ t.7 ∷ []) 0

unfoldable pub text_of_guid : Guid → List ℕ
text_of_guid g = group 8 g.time_low ++ (group 4 g.time_mid ++ (group 4 g.time_high ++ (group 4 (clock_of g.tail) ++ digits 16 12 (node_of g.tail))))

-- the places of the four dashes
unfoldable pub dash_place : ℕ → Bool
dash_place i = eqb i 8 || eqb i 13 || eqb i 18 || eqb i 23

-- a byte is what its place asks for; behind the end of a text there is none, and 0 is neither
unfoldable pub right_at : List ℕ → ℕ → Bool
right_at text i = pick (dash_place i) (eqb (get_or text i 0) dash) (ltb (hex_digit_value (get_or text i 0)) 16)

-- the first place from i on, among the next n, whose byte is wrong; i + n where all are right
unfoldable pub wrong_from : List ℕ → ℕ → ℕ → ℕ
wrong_from text i zero = i
wrong_from text i (suc n) = pick (right_at text i) (wrong_from text (i + 1) n) i

-- the number in the n digits from place i on
abbrev pub hex_in : List ℕ → ℕ → ℕ → ℕ
hex_in text i n = hex_after 0 (part text i n)

unfoldable pub tail_in : List ℕ → Tail
tail_in text =
    record {
      0 = hex_in text 19 2;
      1 = hex_in text 21 2;
      2 = hex_in text 24 2;
      3 = hex_in text 26 2;
      4 = hex_in text 28 2;
      5 = hex_in text 30 2;
      6 = hex_in text 32 2;
      7 = hex_in text 34 2;
    }

unfoldable pub guid_in : List ℕ → Guid
guid_in text = record { time_low = hex_in text 0 8; time_mid = hex_in text 9 4; time_high = hex_in text 14 4; tail = tail_in text }

abbrev pub bad_guid : ℕ → GuidOfText
bad_guid at = record { number = 39; at = at; guid = nil_guid }

-- the GUID of a text: 39 at the first wrong byte; a text that is longer is wrong at place 36
unfoldable pub guid_of_text : List ℕ → GuidOfText
guid_of_text text =
    pick (ltb (wrong_from text 0 36) 36) (bad_guid (wrong_from text 0 36))
    (pick (eqb (length text) 36) (record { number = 0; at = 0; guid = guid_in text })
    (bad_guid 36))
