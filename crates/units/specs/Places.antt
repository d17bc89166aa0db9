-- Block numbers, byte places and slots: how each becomes another, and when a range is inside a slice.
-- From document 01, "The part of the crate we take" and "Numbers a call can come back with". Assumes nothing.
use Rattle.std.specs.Prelude.{Bool, not, ◌||◌, ℕ, ◌+◌, ◌*◌, ◌-◌, ◌/◌, ◌^◌, eqb, ltb, leb}
use Rattle.units.specs.declared.Lba.{Lba}
use Rattle.units.specs.declared.BytePlace.{BytePlace}
use Rattle.units.specs.declared.Slot.{Slot}
use Rattle.units.specs.Answer.{Answer, accepted, refuse, pick}

-- the two block sizes; any other is refused by 1
unfoldable pub good_size : ℕ → Bool
good_size b = eqb b 512 || eqb b 4096

-- n bytes from place at on end at or before the end of len bytes. The sum is one of whole numbers, so it never wraps; what is not inside is refused by 2
unfoldable pub inside : ℕ → ℕ → ℕ → Bool
inside len at n = leb (at + n) len

-- no bytes at all are inside anywhere: so it is for an empty entry array, and for zeroing no entries
unfoldable pub inside_or_empty : ℕ → ℕ → ℕ → Bool
inside_or_empty len at n = eqb n 0 || inside len at n

-- where block lba starts, in blocks of b bytes: 1, then 3 if the product passes 64 bits
unfoldable pub place_of : ℕ → ℕ → Answer BytePlace
place_of lba b =
    pick (not (good_size b)) (refuse 1)
    (pick (leb (2 ^ 64) (lba * b)) (refuse 3)
    (accepted (record { 0 = lba * b })))

-- the place n bytes after at: 3 if the sum passes 64 bits
unfoldable pub place_after : ℕ → ℕ → Answer BytePlace
place_after at n = pick (leb (2 ^ 64) (at + n)) (refuse 3) (accepted (record { 0 = at + n }))

-- the block that holds the byte at a place: 1
unfoldable pub block_of : ℕ → ℕ → Answer Lba
block_of at b = pick (not (good_size b)) (refuse 1) (accepted (record { 0 = at / b }))

-- slots count from 1, array places from 0: 18 for a slot outside 1 to count
unfoldable pub array_place_of : ℕ → ℕ → Answer ℕ
array_place_of slot count = pick (ltb slot 1 || ltb count slot) (refuse 18) (accepted (slot - 1))

-- the slot at a place of an array of count entries: 18 for a place that the array does not have
unfoldable pub slot_of : ℕ → ℕ → Answer Slot
slot_of place count = pick (leb count place) (refuse 18) (accepted (record { 0 = place + 1 }))
