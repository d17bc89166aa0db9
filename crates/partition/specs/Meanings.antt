-- What the answers that may hold nothing mean in document 01's numbers and values, and that two answers which mean the same are the same. Assumes nothing.
use Rattle.std.specs.Prelude.{◌≡◌, refl, Option, Some, None, Result, Ok, Err, Bool, true, false, List, [], ◌∷◌, ℕ}
use Rattle.std.proofs.Common.{ap}
use Rattle.units.specs.declared.Slot.{Slot}
use Rattle.units.specs.declared.Refusal.{Refusal}
use Rattle.units.specs.Answer.{Answer, accepted, refused}
use Rattle.units.specs.Refusals.{refused_by, refusal_of, back}
use Rattle.units.specs.Meanings.{one-meaning}
use Rattle.partition.specs.declared.Partition.{Partition}
use Rattle.partition.specs.Format.{zero_partition}
use Rattle.partition.specs.Array.{Found}

-- what an entry is found to hold: an absent one has the zero record
abbrev pub found_of : Option Partition → Found
found_of (Some p) = record { present = true; partition = p }
found_of None = record { present = false; partition = zero_partition }

-- a slot alone in a list, or no slot
abbrev pub slots_of : Option Slot → List ℕ
slots_of (Some s) = s.0 ∷ []
slots_of None = []

abbrev pub read_means : Result (Option Partition) Refusal → Answer Found
read_means (Ok p) = accepted (found_of p)
read_means (Err w) = refused_by w

abbrev pub next_means : Result (Option Slot) Refusal → Answer (List ℕ)
next_means (Ok s) = accepted (slots_of s)
next_means (Err w) = refused_by w

-- ---- each answer comes back from its meaning

pub entry_from : Found → Option Partition
entry_from f = by f.present
  where
    by : Bool → Option Partition
    by true = Some f.partition
    by false = None

pub slot_from : List ℕ → Option Slot
slot_from [] = None
slot_from (x ∷ xs) = Some (record { 0 = x })

read_from : Answer Found → Result (Option Partition) Refusal
read_from (accepted f) = Ok (entry_from f)
read_from (refused y) = Err (refusal_of y)

read-back : (r : Result (Option Partition) Refusal) → read_from (read_means r) ≡ r
unfolding read_from entry_from
read-back (Ok (Some p)) = refl
read-back (Ok None) = refl
read-back (Err w) = ap Err (back w)

pub read_one : (r s : Result (Option Partition) Refusal) → read_means r ≡ read_means s → r ≡ s
read_one = one-meaning read_means read_from read-back

next_from : Answer (List ℕ) → Result (Option Slot) Refusal
next_from (accepted l) = Ok (slot_from l)
next_from (refused y) = Err (refusal_of y)

next-back : (r : Result (Option Slot) Refusal) → next_from (next_means r) ≡ r
unfolding next_from slot_from
next-back (Ok (Some s)) = refl
next-back (Ok None) = refl
next-back (Err w) = ap Err (back w)

pub next_one : (r s : Result (Option Slot) Refusal) → next_means r ≡ next_means s → r ≡ s
next_one = one-meaning next_means next_from next-back
