-- How a call ends, and the card that it leaves: tables that lay would write for a GUID and an array whose entries pass. Then lay.
-- No contract cites this file. Assumes nothing.
use mathlib.Core.Path.{◌≡◌, refl, sym, ap, ◌∙◌, subst}
use mathlib.Core.Bool.{true, false}
use mathlib.Core.List.{List, [], append-nil}
use Prim.Native.Nat.{ℕ, zero, suc, ◌-◌, ◌^◌, ◌<◌}
use native.Mathlib.Omega.{arith}
use lib.ListN.{length}
use lib.Seq.{sets, length-sets}
use Rattle.units.specs.declared.Guid.{Guid}
use Rattle.units.specs.declared.why.Why.{Why}
use Rattle.units.specs.Answer.{accepted, refused, if_zero, judged, settle}
use Rattle.units.specs.Guids.{guid_at, guid_bytes}
use Rattle.units.specs.Held.{Small, GuidHeld}
use Rattle.units.proofs.GuidLaws.{guid-here}
use Rattle.units.proofs.Chains.{settle-accepted}
use Rattle.tables.specs.Places.{blocks}
use Rattle.tables.specs.Lens.{Front, Back, Tables, tables_at, with_tables_at}
use Rattle.tables.specs.Entries.{zeros}
use Rattle.tables.specs.Headers.{copy_of, card_of}
use Rattle.tables.specs.Check.{room_check, guid_of, check}
use Rattle.card.specs.Calls.{mbr, lay_at}
use Rattle.history.specs.History.{taken}
use Rattle.tables.proofs.Room.{Room}
use Rattle.tables.proofs.LensLaws.{Whole, length-with, get-put}
use Rattle.tables.proofs.EntryLaws.{length-zeros, Entries, entries-zeros}
use Rattle.tables.proofs.HeaderLaws.{copy-guid}
use Rattle.tables.proofs.Good.{room-ok, good-check, card-good, card-whole}

-- ---- accepted and refused

module _ {A : Type 0} (v : A) where
  pub accepted-image : (w : Why) (old new : List ℕ) → w.number ≡ 0 → (settle w v old new).image ≡ new
  accepted-image w old new h = ap (λ o. o.image) (settle-accepted v w old new h)

  pub taken-zero : (w : Why) (old new : List ℕ) → taken (settle w v old new).answer ≡ true → w.number ≡ 0
  unfolding settle judged
  taken-zero w old new h = by w.number h
    where
      by : (k : ℕ) → taken (if_zero k (accepted v) (refused w)) ≡ true → k ≡ 0
      by zero q = refl
      by (suc k) q = let z : ◌≡◌ {A = ℕ} 0 1 = cc in absurd (omega arith)

  pub untaken-image : (w : Why) (old new : List ℕ) → taken (settle w v old new).answer ≡ false → (settle w v old new).image ≡ old
  unfolding settle judged
  untaken-image w old new h = by w.number h
    where
      by : (k : ℕ) → taken (if_zero k (accepted v) (refused w)) ≡ false → if_zero k new old ≡ old
      by zero q = let z : ◌≡◌ {A = ℕ} 0 1 = cc in absurd (omega arith)
      by (suc k) q = refl

-- the GUID that is read back from the bytes of one that the code holds fits as well
pub held_back : (g : Guid) → GuidHeld g → GuidHeld (guid_at (guid_bytes g) 0)
held_back g h = subst GuidHeld (sym (ap (λ (l : List ℕ). guid_at l 0) (sym (append-nil (guid_bytes g))) ∙ guid-here g [] h.fields)) h

-- ---- a card as the calls leave it: the tables are those that lay would write for a GUID and an array, and the array's entries pass

pub record State (B n : ℕ) (g arr xs : List ℕ) : Type 0 where
  pub size : length xs ≡ n
  pub room : (room_check B n).number ≡ 0
  pub array : length arr ≡ 16384
  pub entries : Entries B n arr
  pub tables : tables_at B n xs ≡ card_of B n g arr

module _ {B n : ℕ} {g arr xs : List ℕ} (k : State B n g arr xs) where
  -- the check accepts it, where the numbers in its headers fit their fields
  pub state-check : n < 2 ^ 64 → GuidHeld (guid_at g 0) → Small arr → (check B n (tables_at B n xs)).number ≡ 0
  state-check l h a = ap (λ (t : Tables). (check B n t).number) k.tables ∙ good-check (card-good B n g arr k.room l h a k.entries)

  -- both tables have the same GUID, and the same array
  pub state-guid : guid_of (tables_at B n xs).front ≡ guid_bytes (guid_at g 0)
  state-guid = ap (λ (t : Tables). guid_of t.front) k.tables ∙ copy-guid B n Front g arr

  pub state-guid-back : guid_of (tables_at B n xs).back ≡ guid_bytes (guid_at g 0)
  state-guid-back = ap (λ (t : Tables). guid_of t.back) k.tables ∙ copy-guid B n Back g arr

  pub state-front : (tables_at B n xs).front.array ≡ arr
  unfolding copy_of
  state-front = ap (λ (t : Tables). t.front.array) k.tables

  pub state-back : (tables_at B n xs).back.array ≡ arr
  unfolding copy_of
  state-back = ap (λ (t : Tables). t.back.array) k.tables

module _ (B n : ℕ) (xs : List ℕ) (l : length xs ≡ n) where
  -- tables written whole
  pub write-state : (g arr : List ℕ) → (room_check B n).number ≡ 0 → length arr ≡ 16384 → Entries B n arr → State B n g arr (with_tables_at B n xs (card_of B n g arr))
  write-state g arr h la e =
      let r : Room B n = room-ok B n h in
      let w : Whole B (card_of B n g arr) = card-whole B n g arr (omega arith) la in
      record {
        size = length-with B n r xs l (card_of B n g arr) w;
        room = h;
        array = la;
        entries = e;
        tables = get-put B n r xs l (card_of B n g arr) w;
      }

-- ---- lay

pub lay_done : (B n : ℕ) (xs g : List ℕ) → length xs ≡ n → (room_check B n).number ≡ 0 → State B n g (zeros 16384) (lay_at B n xs g).image
unfolding lay_at
lay_done B n xs g l h =
    let r : Room B n = room-ok B n h in
    let q : length (sets xs 0 (mbr (blocks B n - 1))) ≡ n = length-sets xs 0 (mbr (blocks B n - 1)) ∙ l in
    subst (λ (i : List ℕ). State B n g (zeros 16384) i) (sym (accepted-image tt _ xs _ h))
    (write-state B n (sets xs 0 (mbr (blocks B n - 1))) q g (zeros 16384) h (length-zeros 16384) (entries-zeros B n))
