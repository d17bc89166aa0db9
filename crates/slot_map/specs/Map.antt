-- The slot map of a card, what is asked of it, and how it is carried through calls. From document 02, 11/13: made from a checked card, with the check's refusals and their places (5/13); carried through put
-- and clear by value; 33 where a free slot is asked for and all 128 are used. Assumes nothing.
use Rattle.std.specs.Prelude.{Result, Ok, Err, Bool, true, false, not, List, [], ◌∷◌, ℕ, zero, suc, ◌+◌, ◌-◌, ltb, length, set}
use Rattle.units.specs.declared.why.Why.{Why}
use Rattle.units.specs.declared.Reason.{Reason}
use Rattle.units.specs.declared.Slot.{Slot}
use Rattle.units.specs.Answer.{Answer, accepted, refused, refuse, pick, if_zero, judged}
use Rattle.units.specs.Refusals.{why_at, reason_of}
use Rattle.partition.specs.Array.{present}
use Rattle.tables.specs.Checks.{lowest}
use Rattle.tables.specs.Lens.{tables}
use Rattle.tables.specs.Check.{check}
use Rattle.history.specs.History.{Op, put, clear, payload, call}
use Rattle.slot_map.specs.declared.SlotMap.{SlotMap}
use Rattle.slot_map.specs.Bits.{map_of, first_false}

-- ---- the map of a card

-- which of n entries from array place k on are present
unfoldable pub flags_from : List ℕ → ℕ → ℕ → List Bool
flags_from arr k zero = []
flags_from arr k (suc n) = present arr 0 k ∷ flags_from arr (k + 1) n

-- the 128 flags of the card in an image
abbrev pub flags_in : ℕ → List ℕ → List Bool
flags_in B xs = flags_from (tables B xs).front.array 0 128

abbrev pub made_answer : ℕ → List ℕ → Answer (List Bool)
made_answer B xs = judged (check B (length xs) (tables B xs)) (flags_in B xs)

abbrev pub made_means : Result SlotMap Reason → Answer (List Bool)
made_means (Ok m) = accepted (map_of m)
made_means (Err r) = refused (why_at r)

-- the answer that a refusal as a value stands for, or else a map
unfoldable pub made_of : Why → SlotMap → Result SlotMap Reason
made_of w m = if_zero w.number (Ok m) (Err (reason_of w))

-- ---- what is asked of it

-- the lowest free slot of a map: 33 where all are used
abbrev pub free_answer : List Bool → Answer Slot
free_answer bs = pick (ltb (first_false bs) 128) (accepted (record { 0 = first_false bs + 1 })) (refuse 33)

-- the full scan for a free slot: its array place, or 128
abbrev pub free_place : List ℕ → ℕ
free_place arr = lowest 128 (λ (k : ℕ). not (present arr 0 k))

-- ---- what calls make of it

-- whether a put or a clear was accepted, without the map that it hands back
abbrev pub verdict : Result SlotMap Reason → Result Unit Reason
verdict (Ok m) = Ok tt
verdict (Err r) = Err r

-- the map that its caller then has: the one that was handed back, and beside a refusal its own
abbrev pub kept : SlotMap → Result SlotMap Reason → SlotMap
kept m (Ok n) = n
kept m (Err r) = m

-- the bit of slot s, where the call was accepted
abbrev pub marked : Bool → ℕ → Bool → List Bool → List Bool
marked t s v m = pick t (set m (s - 1) v) m

-- a payload write makes nothing of it
abbrev pub after_map : Bool → Op → List Bool → List Bool
after_map t (put s p _) m = marked t s true m
after_map t (clear s) m = marked t s false m
after_map t (payload s p ys) m = m

-- a map carried through a list of calls
unfoldable pub carried : ℕ → List Op → List ℕ → List Bool → List Bool
carried B [] xs m = m
carried B (o ∷ os) xs m = carried B os (call B o xs).image (after_map (call B o xs).taken o m)
