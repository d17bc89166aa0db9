-- Each stage as one store into an image of n bytes, and the block that it stores to. The contracts of the stages have these. From document 02, 6/13. Assumes nothing.
use Rattle.std.specs.Prelude.{Bool, List, ℕ, zero, suc, ◌+◌, ◌*◌, ◌-◌, ◌/◌, eqb, ltb}
use Rattle.std.proofs.lemmas.List.Edits.{sets}
use Rattle.units.specs.declared.Guid.{Guid}
use Rattle.units.specs.Answer.{pick}
use Rattle.units.specs.Bytes.{part}
use Rattle.tables.specs.Places.{array_blocks, back_array, back_header}
use Rattle.tables.specs.Lens.{Side, Front, Back, header_in, array_in, other}
use Rattle.tables.specs.Entries.{zeros}
use Rattle.tables.specs.Headers.{own_block, array_start, head_block}
use Rattle.reader.specs.Reader.{array_byte_place}
use Rattle.staged.specs.declared.Update.{Update}
use Rattle.staged.specs.declared.Repair.{Repair}
use Rattle.staged.specs.Repairs.{mended}

-- where a side's header starts in an image
abbrev pub header_place : ℕ → ℕ → Side → ℕ
header_place B n Front = B
header_place B n Back = back_header B n

-- ---- an update

-- where a side's table starts in an image
abbrev pub copy_place : ℕ → ℕ → Side → ℕ
copy_place B n Front = B
copy_place B n Back = back_array B n

-- one store in a side's own bytes: the header's block, or the slot's
abbrev pub store_in : ℕ → Side → Update → Bool → ℕ
store_in B s u header = pick header (header_in s) (array_in B s + 128 * (u.slot.0 - 1))

abbrev pub store_bytes : ℕ → ℕ → Side → Update → Bool → List ℕ
store_bytes B n s u header = pick header (head_block B n s u.guid u.parts) u.entry

unfoldable pub slot_store : ℕ → ℕ → Side → Update → List ℕ → List ℕ
slot_store B n s u xs = sets xs (array_byte_place B n s + 128 * (u.slot.0 - 1)) u.entry

unfoldable pub header_store : ℕ → ℕ → Side → Guid → ℕ → List ℕ → List ℕ
header_store B n s g parts xs = sets xs (header_place B n s) (head_block B n s g parts)

abbrev pub stage_store : ℕ → ℕ → Update → ℕ → List ℕ → List ℕ
stage_store B n u zero xs = xs
stage_store B n u (suc zero) xs = slot_store B n Back u xs
stage_store B n u (suc (suc zero)) xs = header_store B n Back u.guid u.parts xs
stage_store B n u (suc (suc (suc zero))) xs = slot_store B n Front u xs
stage_store B n u (suc (suc (suc (suc zero)))) xs = header_store B n Front u.guid u.parts xs
stage_store B n u (suc (suc (suc (suc (suc k))))) xs = xs

-- the image after so many stores
unfoldable pub stored : ℕ → ℕ → Update → ℕ → List ℕ → List ℕ
stored B n u zero xs = xs
stored B n u (suc k) xs = stage_store B n u (suc k) (stored B n u k xs)

-- the block of a slot, and of each stage
abbrev pub slot_block : ℕ → ℕ → Side → ℕ → ℕ
slot_block B n s slot = array_start B n s + 128 * (slot - 1) / B

abbrev pub stage_block : ℕ → ℕ → Update → ℕ → ℕ
stage_block B n u zero = 0
stage_block B n u (suc zero) = slot_block B n Back u.slot.0
stage_block B n u (suc (suc zero)) = own_block B n Back
stage_block B n u (suc (suc (suc zero))) = slot_block B n Front u.slot.0
stage_block B n u (suc (suc (suc (suc k)))) = own_block B n Front

-- ---- a repair

unfoldable pub zero_store : ℕ → ℕ → Side → List ℕ → List ℕ
zero_store B n s xs = sets xs (header_place B n s) (zeros B)

unfoldable pub block_store : ℕ → ℕ → Side → ℕ → List ℕ → List ℕ
block_store B n s j xs = sets xs (array_byte_place B n s + j * B) (part xs (array_byte_place B n (other s) + j * B) B)

unfoldable pub repair_store : ℕ → ℕ → Repair → ℕ → List ℕ → List ℕ
repair_store B n r zero xs = xs
repair_store B n r (suc zero) xs = zero_store B n (mended r) xs
repair_store B n r (suc (suc j)) xs =
    pick (ltb j (array_blocks B)) (block_store B n (mended r) j xs)
    (pick (eqb j (array_blocks B)) (header_store B n (mended r) r.guid r.parts xs) xs)

unfoldable pub repair_stored : ℕ → ℕ → Repair → ℕ → List ℕ → List ℕ
repair_stored B n r zero xs = xs
repair_stored B n r (suc k) xs = repair_store B n r (suc k) (repair_stored B n r k xs)

-- the block of each stage
abbrev pub repair_block : ℕ → ℕ → Repair → ℕ → ℕ
repair_block B n r zero = 0
repair_block B n r (suc zero) = own_block B n (mended r)
repair_block B n r (suc (suc j)) = pick (ltb j (array_blocks B)) (array_start B n (mended r) + j) (own_block B n (mended r))
