-- The array of a card: 128 entries of 128 bytes, by their array places 0 to 127, and what the card check asks of them.
-- From document 01, "Card check": an entry is all zero, or of non-nil type with first ≤ last inside the usable blocks, and no two share a block. From document 02, 3/13: no two
-- used ones have one partition GUID. Assumes nothing.
use Rattle.std.specs.Prelude.{Bool, true, false, not, ◌&&◌, List, ℕ, ◌*◌, eqb, leb, replicate}
use Rattle.std.proofs.lemmas.List.Edits.{sets}
use Rattle.units.specs.Answer.{pick}
use Rattle.units.specs.Bytes.{part, same, all_zero}
use Rattle.partition.specs.Format.{first_at, last_at, nil_type_at, part_guid_at}
use Rattle.tables.specs.Checks.{all, lowest}
use Rattle.tables.specs.Places.{first_usable_of, last_usable_of}

-- n zero bytes
unfoldable pub zeros : ℕ → List ℕ
zeros n = replicate n 0

unfoldable pub entry : List ℕ → ℕ → List ℕ
entry arr k = part arr (128 * k) 128

unfoldable pub set_entry : List ℕ → ℕ → List ℕ → List ℕ
set_entry arr k e = sets arr (128 * k) e

-- its type is not all zero
unfoldable pub used : List ℕ → Bool
used e = not (nil_type_at e 0)

unfoldable pub first_of : List ℕ → ℕ
first_of e = first_at e 0

unfoldable pub last_of : List ℕ → ℕ
last_of e = last_at e 0

-- the sixteen bytes of its partition GUID
unfoldable pub part_guid_of : List ℕ → List ℕ
part_guid_of e = part_guid_at e 0

-- first ≤ last, inside the usable blocks
unfoldable pub usable : ℕ → ℕ → List ℕ → Bool
usable B n e = leb (first_of e) (last_of e) && (leb (first_usable_of B) (first_of e) && leb (last_of e) (last_usable_of B n))

-- all zero, or used and inside
unfoldable pub ok_entry : ℕ → ℕ → List ℕ → Bool
ok_entry B n e = pick (all_zero e) true (used e && usable B n e)

-- each entry of an array is all zero, or used and inside
abbrev pub all_ok : ℕ → ℕ → List ℕ → Bool
all_ok B n arr = all 128 (λ (k : ℕ). ok_entry B n (entry arr k))

-- both used, with a block in common
unfoldable pub overlaps : List ℕ → List ℕ → Bool
overlaps e f = used e && (used f && (leb (first_of e) (last_of f) && leb (first_of f) (last_of e)))

-- no two entries of an array overlap
abbrev pub all_apart : List ℕ → Bool
all_apart arr = all 128 (λ (j : ℕ). all 128 (λ (k : ℕ). pick (eqb j k) true (not (overlaps (entry arr j) (entry arr k)))))

-- f is used and has the partition GUID g
unfoldable pub bears : List ℕ → List ℕ → Bool
bears g f = used f && same (part_guid_of f) g

-- both used, with one partition GUID
unfoldable pub twins : List ℕ → List ℕ → Bool
twins e f = used e && bears (part_guid_of e) f

-- no two entries of an array are twins
abbrev pub all_single : List ℕ → Bool
all_single arr = all 128 (λ (j : ℕ). all 128 (λ (k : ℕ). pick (eqb j k) true (not (twins (entry arr j) (entry arr k)))))

-- the array place of the lowest used entry but entry k that has the partition GUID g, or 128
unfoldable pub first_twin : List ℕ → ℕ → List ℕ → ℕ
first_twin arr k g = lowest 128 (λ (j : ℕ). pick (eqb j k) false (bears g (entry arr j)))

-- the whole array
unfoldable pub entries_ok : ℕ → ℕ → List ℕ → Bool
entries_ok B n arr = all_ok B n arr && (all_apart arr && all_single arr)
