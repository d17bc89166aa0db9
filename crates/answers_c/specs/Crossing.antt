-- How an answer crosses to C: document 01's number first, 0 for accepted, then the values; beside a refusal each of them is zero. What the ported calls and the card calls have in common. Assumes nothing.
use Rattle.std.specs.Prelude.{false, List, [], ℕ, get_or}
use Rattle.units.specs.declared.Slot.{Slot}
use Rattle.units.specs.Answer.{Answer, accepted, refused, Outcome, gives}
use Rattle.partition.specs.Array.{Found}
use Rattle.partition.specs.Format.{zero_partition}
use Rattle.answers_c.specs.declared.GptCount.{GptCount}
use Rattle.answers_c.specs.declared.GptNext.{GptNext}
use Rattle.answers_c.specs.declared.GptSlotRead.{GptSlotRead}

-- an outcome with its answer told in another way
abbrev pub outcome_to_c : {A C : Type 0} → (A → C) → Outcome A → Outcome C
outcome_to_c f o = gives (f o.answer) o.image

-- a struct made of the number and the value; beside a refusal stands the value z
unfoldable pub crossed : {A S : Type 0} → (ℕ → A → S) → A → Answer A → S
crossed make z (accepted x) = make 0 x
crossed make z (refused w) = make w.number z

abbrev pub count_to_c : Answer ℕ → GptCount
count_to_c a = crossed (λ k n. record { number = k; count = n }) 0 a

-- the slot of a list of at most one; 0: no more
abbrev pub next_to_c : Answer (List ℕ) → GptNext
next_to_c a = crossed (λ k l. record { number = k; slot = get_or l 0 0 }) [] a

-- a slot that was asked for; 0 beside a refusal
abbrev pub found_to_c : Answer Slot → GptNext
found_to_c a = crossed (λ k s. record { number = k; slot = s.0 }) (record { 0 = 0 }) a

abbrev pub held_made : ℕ → Found → GptSlotRead
held_made k f = record { number = k; present = f.present; partition = f.partition }

abbrev pub held_to_c : Answer Found → GptSlotRead
held_to_c a = crossed held_made (record { present = false; partition = zero_partition }) a
