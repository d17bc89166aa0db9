-- Dropping the place that the check names gives the check before document 02, 5/13. The tests of the room and of one table name nothing by themselves.
-- No contract cites this file. Assumes nothing.
use mathlib.Core.Path.{◌≡◌, refl}
use mathlib.Core.Bool.{Bool, true, false, not, ◌&&◌}
use mathlib.Core.List.{List}
use Prim.Native.Nat.{ℕ, ◌+◌, ◌*◌, ◌-◌}
use lib.Dec.{eqb, ltb}
use Rattle.units.specs.declared.Place.TheVariants as place
use Rattle.units.specs.declared.why.Why.{Why}
use Rattle.units.specs.Answer.{plain, placed, within, dropped, when, or_else}
use Rattle.units.specs.Bytes.{part, same}
use Rattle.units.specs.Places.{good_size}
use Rattle.units.proofs.Chains.{Bare, bare-when, bare-else, dropped-else, dropped-within, dropped-bare}
use Rattle.crc32.specs.Crc.{crc}
use Rattle.crc32.specs.HeaderSum.{header_sum}
use Rattle.header.specs.Format.{signature, header_at}
use Rattle.tables.specs.Places.{blocks, array_blocks}
use Rattle.tables.specs.Lens.{Side, Front, Back, Tables}
use Rattle.tables.specs.Entries.{entries_ok}
use Rattle.tables.specs.Headers.{laid_fields}
use Rattle.tables.specs.Check.{room_check, copy_check, head_of, guid_of, differs, pair_check, table_check, check, plain_pair, plain_check}

pub bare-room : (B n : ℕ) → Bare (room_check B n)
unfolding room_check
bare-room B n =
    bare-else (when (not (good_size B)) (plain 1)) _ (bare-when (not (good_size B)) 1)
    (bare-else (when (ltb n (3 * B)) (plain 8)) _ (bare-when (ltb n (3 * B)) 8) (bare-when (ltb (blocks B n - 1) (2 * array_blocks B + 3)) 10))

pub bare-copy : (B n : ℕ) (s : Side) (x arr : List ℕ) → Bare (copy_check B n s x arr)
unfolding copy_check
bare-copy B n s x arr =
    let signed : Bool = not (same (part x 0 8) signature) in
    let summed : Bool = not (eqb (header_sum x 0) (header_at x 0).crc32) in
    let laid : Bool = not (laid_fields B n s (header_at x 0)) in
    let array : Bool = not (eqb (crc arr) (header_at x 0).crc32_parts) in
    bare-else (when signed (plain 4)) _ (bare-when signed 4)
    (bare-else (when summed (plain 5)) _ (bare-when summed 5)
    (bare-else (when laid (plain 16)) _ (bare-when laid 16) (bare-when array 6)))

-- 17 in two tests is 17 in one
drop-pair : (B n : ℕ) (g h x y : List ℕ) → dropped (pair_check B n g h x y) ≡ plain_pair B n g h x y
unfolding pair_check plain_pair or_else
drop-pair B n g h x y = by (same g h) (same x y) (entries_ok B n x)
  where
    by : (a b c : Bool) → dropped (or_else (when (not a) (placed 17 place.DiskGuid)) (or_else (when (not b) (placed 17 (place.InSlot (record { 0 = differs x y + 1 })))) (when (not c) (placed 16 place.Front))))
        ≡ or_else (when (not (a && b)) (plain 17)) (when (not c) (plain 16))
    by true true true = refl
    by true true false = refl
    by true false c = refl
    by false b c = refl

pub drop-check : (B n : ℕ) (t : Tables) → dropped (check B n t) ≡ plain_check B n t
unfolding check plain_check
drop-check B n t =
    let f : Why = table_check B n Front t.front in
    let k : Why = table_check B n Back t.back in
    let p : Why = pair_check B n (guid_of t.front) (guid_of t.back) t.front.array t.back.array in
    rw (
      dropped-else (room_check B n) (or_else (within place.Front f) (or_else (within place.Back k) p)),
      dropped-else (within place.Front f) (or_else (within place.Back k) p),
      dropped-else (within place.Back k) p,
      dropped-bare (room_check B n) (bare-room B n),
      dropped-within place.Front f (bare-copy B n Front (head_of t.front) t.front.array),
      dropped-within place.Back k (bare-copy B n Back (head_of t.back) t.back.array),
      drop-pair B n (guid_of t.front) (guid_of t.back) t.front.array t.back.array,
    )
