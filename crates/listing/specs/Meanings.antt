-- What the answers of a listing mean: document 01's numbers with the place of document 02, 5/13, and what was found. Two answers which mean the same are the same.
-- Assumes nothing.
use Rattle.std.specs.Prelude.{◌≡◌, refl, Option, Some, None, Result, Ok, Err, Bool, true, false, List, [], ◌∷◌, ℕ}
use Rattle.std.proofs.Common.{ap}
use Rattle.units.specs.declared.Slot.{Slot}
use Rattle.units.specs.declared.Reason.{Reason}
use Rattle.units.specs.Answer.{Answer, accepted, refused, and_then, Beside, beside}
use Rattle.units.specs.Refusals.{why_at, reason_of, reason-back}
use Rattle.units.specs.Meanings.{one-meaning}
use Rattle.partition.specs.Array.{Found}
use Rattle.partition.specs.declared.Partition.{Partition}
use Rattle.partition.specs.Format.{zero_partition}
use Rattle.partition.specs.Meanings.{found_of, slots_of}
use Rattle.rows.specs.declared.Entry.{Entry}
use Rattle.listing.specs.Listing.{Listed}

-- a slot is told as a list of at most one
abbrev pub card_next_means : Result (Option Slot) Reason → Answer (List ℕ)
card_next_means (Ok s) = accepted (slots_of s)
card_next_means (Err r) = refused (why_at r)

abbrev pub slot_means : Result (Option Partition) Reason → Answer Found
slot_means (Ok p) = accepted (found_of p)
slot_means (Err r) = refused (why_at r)

-- a used slot with its record, alone in a list, or none
abbrev pub listed_of : Option Entry → List Listed
listed_of (Some e) = record { slot = e.slot.0; partition = e.partition } ∷ []
listed_of None = []

abbrev pub used_means : Result (Option Entry) Reason → Answer (List Listed)
used_means (Ok e) = accepted (listed_of e)
used_means (Err r) = refused (why_at r)

-- ---- as the C structs tell it

-- a used slot that is asked for: whether there is one, its number, and its record
pub record Used : Type 0 where
  pub found : Bool
  pub slot : ℕ
  pub partition : Partition

-- the first of a list; of an empty one, slot 0 and the zero record
unfoldable pub first_used : List Listed → Used
first_used [] = record { found = false; slot = 0; partition = zero_partition }
first_used (e ∷ l) = record { found = true; slot = e.slot; partition = e.partition }

-- beside a refusal stands what stands where none is found
abbrev pub nth_reading : Answer (List Listed) → Beside Used
nth_reading r = beside (first_used []) (and_then r (λ l. accepted (first_used l)))

-- whether a call found the used slot that was asked for
abbrev pub is_found : Result (Option Entry) Reason → Bool
is_found (Ok (Some e)) = true
is_found (Ok None) = false
is_found (Err r) = false

-- the C structs tell it so
pub found-told : (r : Result (Option Entry) Reason) → (nth_reading (used_means r)).value.found ≡ is_found r
unfolding beside first_used
found-told (Ok (Some e)) = refl
found-told (Ok None) = refl
found-told (Err r) = refl

-- ---- each answer comes back from its meaning

used_from : Answer (List Listed) → Result (Option Entry) Reason
used_from (accepted []) = Ok None
used_from (accepted (e ∷ l)) = Ok (Some (record { slot = record { 0 = e.slot }; partition = e.partition }))
used_from (refused w) = Err (reason_of w)

used-back : (r : Result (Option Entry) Reason) → used_from (used_means r) ≡ r
unfolding used_from
used-back (Ok (Some e)) = refl
used-back (Ok None) = refl
used-back (Err r) = ap Err (reason-back r)

pub used-one : (r s : Result (Option Entry) Reason) → used_means r ≡ used_means s → r ≡ s
used-one = one-meaning used_means used_from used-back

read_from : Answer Found → Result (Option Partition) Reason
read_from (accepted f) = by f.present
  where
    by : Bool → Result (Option Partition) Reason
    by true = Ok (Some f.partition)
    by false = Ok None
read_from (refused w) = Err (reason_of w)

read-back : (r : Result (Option Partition) Reason) → read_from (slot_means r) ≡ r
unfolding read_from
read-back (Ok (Some p)) = refl
read-back (Ok None) = refl
read-back (Err r) = ap Err (reason-back r)

pub slot-read-one : (r s : Result (Option Partition) Reason) → slot_means r ≡ slot_means s → r ≡ s
slot-read-one = one-meaning slot_means read_from read-back

next_from : Answer (List ℕ) → Result (Option Slot) Reason
next_from (accepted []) = Ok None
next_from (accepted (s ∷ l)) = Ok (Some (record { 0 = s }))
next_from (refused w) = Err (reason_of w)

next-back : (r : Result (Option Slot) Reason) → next_from (card_next_means r) ≡ r
unfolding next_from
next-back (Ok (Some s)) = refl
next-back (Ok None) = refl
next-back (Err r) = ap Err (reason-back r)

pub card-next-one : (r s : Result (Option Slot) Reason) → card_next_means r ≡ card_next_means s → r ≡ s
card-next-one = one-meaning card_next_means next_from next-back
