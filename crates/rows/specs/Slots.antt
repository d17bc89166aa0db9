-- The slots that a test finds, ascending: over any test and any number of entries. Assumes nothing.
use Rattle.std.specs.Prelude.{Bool, not, List, [], ◌∷◌, ℕ, zero, suc, ◌+◌, ◌*◌, ◌-◌, get_or}
use Rattle.units.specs.Answer.{pick}
use Rattle.partition.specs.Format.{nil_type_at}

-- the slots of those of the n array places from k on for which the test holds
unfoldable pub slots_from : (ℕ → Bool) → ℕ → ℕ → List ℕ
slots_from u k zero = []
slots_from u k (suc n) = pick (u k) ((k + 1) ∷ slots_from u (k + 1) n) (slots_from u (k + 1) n)

-- the first such slot after a slot, of count array places, or 0
unfoldable pub first_after : (ℕ → Bool) → ℕ → ℕ → ℕ
first_after u count after = get_or (slots_from u after (count - after)) 0 0

-- the entry at array place k, of entries of `each` bytes from byte place at on
abbrev pub place_each : ℕ → ℕ → ℕ → ℕ
place_each each at k = at + k * each

-- it is used by its type: the sixteen bytes of the type are not all zero
unfoldable pub typed_each : List ℕ → ℕ → ℕ → ℕ → Bool
typed_each xs each at k = not (nil_type_at xs (place_each each at k))
