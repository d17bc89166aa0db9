-- What the definitions say at the edges: four points of document 02, 9/13, that could be read another way, and six sizes. No contract cites this file. Assumes nothing.
use mathlib.Core.Path.{◌≡◌, refl, sym, ap}
use mathlib.Core.Bool.{true, false}
use mathlib.Core.List.{List}
use Prim.Native.Nat.{ℕ, ◌+◌, ◌≤◌}
use lib.ListN.{length}
use Rattle.units.specs.Answer.{accepted, refuse}
use Rattle.units.specs.Bytes.{all_zero}
use Rattle.units.specs.Guids.{is_nil}
use Rattle.units.specs.Held.{Small}
use Rattle.units.specs.Places.{good_size, inside, inside_or_empty}
use Rattle.units.proofs.GuidLaws.{guid-bytes-back}
use Rattle.crc32.specs.Register.{crc-from-empty}
use Rattle.header.specs.declared.Header.{Header}
use Rattle.partition.specs.Format.{nil_type_at, entry_at}
use Rattle.uefi.specs.Reading.{header_in, primary_by_uefi}
use Rattle.uefi.specs.Sizes.{doubled, good_each}
use Rattle.uefi.specs.Array.{array_by_uefi}

-- an entry is absent exactly if the type in its record is nil
pub absent-by-type : (xs : List ℕ) (p : ℕ) → p + 16 ≤ length xs → Small xs → nil_type_at xs p ≡ is_nil (entry_at xs p).part_type_guid
unfolding is_nil
absent-by-type xs p h b = ap all_zero (sym (guid-bytes-back xs p h b))

-- the size is up to 4,096, not the power
pub sizes : (good_each 128 ≡ true) × (good_each 4096 ≡ true) × (good_each 8192 ≡ false) × (good_each 384 ≡ false) × (good_each 64 ≡ false) × (good_each 0 ≡ false)
unfolding good_each doubled
sizes = (refl, refl, refl, refl, refl, refl)

-- 7 comes before 3
pub seven-first : (xs : List ℕ) (h : Header) → h.part_size ≡ 384 → h.part_start.0 ≡ 18446744073709551615 → array_by_uefi xs h 512 ≡ refuse 7
unfolding array_by_uefi good_size good_each doubled
seven-first xs h e f = rw e

-- an empty array is accepted at a start past the image, if its sum is 0
pub empty-anywhere : (xs : List ℕ) (h : Header) → h.part_size ≡ 128 → h.num_parts ≡ 0 → h.crc32_parts ≡ 0 → h.part_start.0 ≡ 1000000
    → array_by_uefi xs h 512 ≡ accepted (record { 0 = 512000000 })
unfolding array_by_uefi good_size good_each doubled inside_or_empty
empty-anywhere xs h e n c s = rw (e, n, c, s, crc-from-empty)

-- the whole block has to be inside, where the first edition asks for 92 bytes
pub short-block : (xs : List ℕ) → length xs ≡ 604 → primary_by_uefi xs 512 ≡ refuse 2
unfolding primary_by_uefi good_size header_in inside
short-block xs e = rw e
