-- Label writes among the calls of a card's history, and what an accepted judgement after such a history tells of a slot. From document 02, 13/13, "Label writes are
-- payload writes, so demand 3 covers them". Assumes nothing.
use Rattle.std.specs.Prelude.{◌≡◌, true, List, [], ◌∷◌, ℕ, zero, suc, ◌+◌, get_or}
use Rattle.units.specs.Answer.{Answer, accepted, refused}
use Rattle.history.specs.History.{Op, payload, call, told, told_byte, empty_slot, place_in}
use Rattle.label.specs.declared.Label.{Label}
use Rattle.label.specs.declared.Dated.{Dated}
use Rattle.label.specs.Labels.{label_bytes, label_of, dated_of}
use Rattle.label.specs.Calls.{write_label_outcome}

-- ---- events

-- a card call or a label write, with whatever arguments
pub data Event : Type 0 where
  card : Op → Event
  label : (s : ℕ) (l : Label) → Event

-- the image after a list of events
unfoldable pub run_all : ℕ → List Event → List ℕ → List ℕ
run_all B [] xs = xs
run_all B (card o ∷ es) xs = run_all B es (call B o xs).image
run_all B (label s l ∷ es) xs = run_all B es (write_label_outcome B xs s l).image

-- a label write that was accepted, as the payload write of its 13 bytes at place 0; one that was refused is none
abbrev pub as_payload : Answer Unit → ℕ → Label → List Op → List Op
as_payload (accepted u) s l os = payload s 0 (label_bytes l) ∷ os
as_payload (refused w) s l os = os

-- the events as card calls
unfoldable pub calls_of : ℕ → List Event → List ℕ → List Op
calls_of B [] xs = []
calls_of B (card o ∷ es) xs = o ∷ calls_of B es (call B o xs).image
calls_of B (label s l ∷ es) xs = as_payload (write_label_outcome B xs s l).answer s l (calls_of B es (write_label_outcome B xs s l).image)

-- ---- what a history tells of a slot's label

-- the n bytes from place i on, each what the last accepted payload write over it gave, else what lay left
unfoldable pub told_bytes : ℕ → List Op → List ℕ → ℕ → ℕ → List ℕ
told_bytes B os laid i zero = []
told_bytes B os laid i (suc n) = told_byte B os laid (λ (s : ℕ). empty_slot) i (get_or laid i 0) ∷ told_bytes B os laid (i + 1) n

-- the slot holds the partition that the last accepted put of it gave, and the 13 bytes told of its start are a label with the date and style revision
pub record ToldDate (B : ℕ) (os : List Op) (laid : List ℕ) (d : Dated) (s : ℕ) : Type 0 where
  pub present : (told B os laid s empty_slot).present ≡ true
  pub label : Label
  pub reads : label_of (told_bytes B os laid (place_in B (told B os laid s empty_slot) 0) 13) ≡ accepted label
  pub dated : dated_of label ≡ d
