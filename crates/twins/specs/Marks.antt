-- A set of numbers below 4096 as 64 words of 64 bits, by which an array is passed through once. It is about the code; what is asked of an array is in tables/specs/Entries. Assumes nothing.
use Rattle.std.specs.Prelude.{◌≡◌, Bool, true, not, List, ℕ, ◌/◌, ◌%◌, ◌^◌, ◌<◌, eqb, get_or, set}
use Rattle.std.specs.Int.Bits.{bit_or, bit_xor}
use Rattle.units.specs.Answer.{pick}
use Rattle.units.specs.Bytes.{num}
use Rattle.tables.specs.Entries.{entry, used, part_guid_of}

-- 64 bits by 12, each twelve of them over the lowest
unfoldable pub folded : ℕ → ℕ
folded w = bit_xor (bit_xor (bit_xor (bit_xor (bit_xor w (w / 4096)) (w / 16777216)) (w / 68719476736)) (w / 281474976710656)) (w / 1152921504606846976) % 4096

-- the number of a GUID's sixteen bytes
unfoldable pub mark : List ℕ → ℕ
mark g = folded (bit_xor (num g 0 8) (num g 8 8))

-- a number is in the set
unfoldable pub marked : List ℕ → ℕ → Bool
marked m h = eqb (get_or m (h / 64) 0 / 2 ^ (h % 64) % 2) 1

-- the set with one more number
unfoldable pub with_mark : List ℕ → ℕ → List ℕ
with_mark m h = set m (h / 64) (bit_or (get_or m (h / 64) 0) (2 ^ (h % 64)))

-- an entry is unused, or its GUID's number is not in the set
unfoldable pub fresh : List ℕ → List ℕ → Bool
fresh m e = pick (used e) (not (marked m (mark (part_guid_of e)))) true

-- the set with the number of a used entry's GUID
unfoldable pub entered : List ℕ → List ℕ → List ℕ
entered m e = pick (used e) (with_mark m (mark (part_guid_of e))) m

-- the GUID's number of each used entry before entry k is in the set
abbrev pub Marked : List ℕ → ℕ → List ℕ → Type 0
Marked arr k m = (j : ℕ) → j < k → used (entry arr j) ≡ true → marked m (mark (part_guid_of (entry arr j))) ≡ true
