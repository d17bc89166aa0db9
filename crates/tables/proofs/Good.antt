-- The card check, said once as a record: what it accepts is exactly a Good card, and the tables that lay, put and clear write are one.
-- No contract cites this file. Assumes nothing.
use mathlib.Core.Path.{◌≡◌, refl, sym, ap, ◌∙◌, subst}
use mathlib.Core.Bool.{Bool, true, false, not, ◌||◌}
use mathlib.Core.List.{List}
use Prim.Native.Nat.{ℕ, ◌+◌, ◌*◌, ◌-◌, ◌^◌, ◌≤◌, ◌<◌}
use native.Mathlib.Omega.{arith}
use borrow.Author.Tests.{not-false, ltb-false}
use lib.Dec.{ltb}
use lib.ListN.{length}
use Rattle.units.specs.declared.Place.TheVariants as place
use Rattle.units.proofs.Chains.{else-none, else-first, else-second, when-none, none-when, within_none, none_within}
use Rattle.units.specs.Answer.{when, plain, placed, within}
use Rattle.units.specs.Bytes.{same}
use Rattle.units.specs.Guids.{guid_at}
use Rattle.units.specs.Held.{Small, GuidHeld}
use Rattle.units.specs.Places.{good_size}
use Rattle.units.proofs.Laws.{same_true}
use Rattle.crc32.specs.Crc.{crc}
use Rattle.tables.specs.Lens.{Tables, Front, Back, tables_at}
use Rattle.tables.specs.Headers.{copy_of, card_of}
use Rattle.tables.specs.Check.{room_check, table_check, guid_of, differs, check, bad_slot, pair_check}
use Rattle.tables.proofs.Orders.{same_of}
use Rattle.tables.proofs.Room.{Room, room}
use Rattle.tables.proofs.LensLaws.{Whole, whole-tables}
use Rattle.tables.proofs.EntryLaws.{Entries, entries-true, entries-of}
use Rattle.tables.proofs.HeaderLaws.{block-long, copy-guid, copy-array, copy-passes}

pub record Good (B n : ℕ) (t : Tables) : Type 0 where
  pub room : (room_check B n).number ≡ 0
  pub front : (table_check B n Front t.front).number ≡ 0
  pub back : (table_check B n Back t.back).number ≡ 0
  pub guids : guid_of t.front ≡ guid_of t.back
  pub arrays : t.back.array ≡ t.front.array
  pub entries : Entries B n t.front.array

pub room-ok : (B n : ℕ) → (room_check B n).number ≡ 0 → Room B n
unfolding room_check
room-ok B n h =
    let c1 = none-when _ (plain 1) tt (else-first (when (not (good_size B)) (plain 1)) _ h) in
    let h2 = else-second (when (not (good_size B)) (plain 1)) _ h in
    let c10 = none-when _ (plain 10) tt (else-second (when (ltb n (3 * B)) (plain 8)) _ h2) in
    room B n (not-false _ c1) (ltb-false _ _ c10)

pub good-check : {B n : ℕ} {t : Tables} → Good B n t → (check B n t).number ≡ 0
unfolding check pair_check
good-check {B} {n} {t} k =
    else-none _ _ k.room
    (else-none _ _ (within_none place.Front _ k.front)
    (else-none _ _ (within_none place.Back _ k.back)
    (else-none _ _ (when-none _ (placed 17 place.DiskGuid) (ap not (same_of k.guids)))
    (else-none _ _ (when-none _ (placed 17 (place.InSlot (record { 0 = differs t.front.array t.back.array + 1 }))) (ap not (same_of (sym k.arrays))))
    (when-none _ (placed 16 place.Front) (ap not (entries-of B n _ k.entries)))))))

pub check-good : (B n : ℕ) (t : Tables) → (check B n t).number ≡ 0 → Good B n t
unfolding check pair_check
check-good B n t h =
    let cf = within place.Front (table_check B n Front t.front) in
    let cb = within place.Back (table_check B n Back t.back) in
    let h1 = else-second (room_check B n) _ h in
    let h2 = else-second cf _ h1 in
    let h3 = else-second cb _ h2 in
    let g17 = when (not (same (guid_of t.front) (guid_of t.back))) (placed 17 place.DiskGuid) in
    let s17 = placed 17 (place.InSlot (record { 0 = differs t.front.array t.back.array + 1 })) in
    let a17 = when (not (same t.front.array t.back.array)) s17 in
    let h4 = else-second g17 _ h3 in
    record {
      room = else-first (room_check B n) _ h;
      front = none_within place.Front _ (else-first cf _ h1);
      back = none_within place.Back _ (else-first cb _ h2);
      guids = same_true _ _ (not-false _ (none-when _ (placed 17 place.DiskGuid) tt (else-first g17 _ h3)));
      arrays = sym (same_true _ _ (not-false _ (none-when _ s17 tt (else-first a17 _ h4))));
      entries = entries-true B n _ (not-false _ (none-when _ (placed 16 place.Front) tt (else-second a17 _ h4)));
    }

pub accepted-array : (B n : ℕ) (xs : List ℕ) → length xs ≡ n → (check B n (tables_at B n xs)).number ≡ 0 → length (tables_at B n xs).front.array ≡ 16384
accepted-array B n xs l h = (whole-tables B n (room-ok B n (check-good B n (tables_at B n xs) h).room) xs l).front-array

-- a slot that is one of the card's
pub slot_ok : (s : ℕ) → bad_slot s ≡ false → (1 ≤ s) × (s - 1 < 128)
slot_ok s h = from (ltb s 1) (ltb 128 s) refl refl h
  where
    from : (a b : Bool) → ltb s 1 ≡ a → ltb 128 s ≡ b → a || b ≡ false → (1 ≤ s) × (s - 1 < 128)
    from false false p q e = let x = ltb-false s 1 p in let y = ltb-false 128 s q in (x, omega arith)
    from false true p q e = let z : ◌≡◌ {A = ℕ} 0 1 = cc in absurd (omega arith)
    from true b p q e = let z : ◌≡◌ {A = ℕ} 0 1 = cc in absurd (omega arith)

-- ---- the tables that lay, put and clear write

pub card-good : (B n : ℕ) (g arr : List ℕ) → (room_check B n).number ≡ 0 → n < 2 ^ 64 → GuidHeld (guid_at g 0) → Small arr → Entries B n arr → Good B n (card_of B n g arr)
card-good B n g arr h l k a e =
    let r : Room B n = room-ok B n h in
    record {
      room = h;
      front = copy-passes B n Front g arr r l k a;
      back = copy-passes B n Back g arr r l k a;
      guids = copy-guid B n Front g arr ∙ sym (copy-guid B n Back g arr);
      arrays = copy-array B n Back g arr ∙ sym (copy-array B n Front g arr);
      entries = subst (Entries B n) (sym (copy-array B n Front g arr)) e;
    }

pub card-whole : (B n : ℕ) (g arr : List ℕ) → 92 ≤ B → length arr ≡ 16384 → Whole B (card_of B n g arr)
unfolding copy_of
card-whole B n g arr b l =
    record {
      front-header = block-long B n Front (guid_at g 0) (crc arr) b;
      front-array = l;
      back-header = block-long B n Back (guid_at g 0) (crc arr) b;
      back-array = l;
    }
