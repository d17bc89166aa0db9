-- What C gets for each answer of the card calls: the number first, 0 for accepted, then the values, and the place that the card check names (document 02, 5/13), with the slot that
-- differs apart from the slot that 22 or 25 carries. Beside a refusal each value is zero. Assumes nothing.
use Rattle.std.specs.Prelude.{◌≡◌, Result, Bool, true, false, List, [], ℕ, get_or, replicate}
use Rattle.units.specs.declared.BytePlace.{BytePlace}
use Rattle.units.specs.declared.Slot.{Slot}
use Rattle.units.specs.declared.Place.{Place}
use Rattle.units.specs.declared.Reason.{Reason}
use Rattle.units.specs.declared.Place.TheVariants as place
use Rattle.units.specs.declared.why.Why.{Why}
use Rattle.units.specs.Answer.{Answer, accepted, refused, fine, and_then}
use Rattle.units.specs.Meanings.{card_means}
use Rattle.units.specs.Guids.{nil_guid}
use Rattle.partition.specs.Array.{Found}
use Rattle.partition.specs.Format.{zero_partition}
use Rattle.tables.specs.Lens.{Side, Front, Back}
use Rattle.ground.specs.Answers.{Rows}
use Rattle.listing.specs.Listing.{Listed}
use Rattle.listing.specs.Meanings.{Used, first_used}
use Rattle.slot_map.specs.declared.SlotMap.{SlotMap}
use Rattle.slot_map.specs.Bits.{map_of}
use Rattle.slot_map.specs.Map.{verdict, kept}
use Rattle.staged.specs.declared.Update.{Update}
use Rattle.staged.specs.declared.Repair.{Repair}
use Rattle.staged.specs.Meanings.{zero_update}
use Rattle.label.specs.declared.Label.{Label}
use Rattle.label.specs.declared.Dated.{Dated}
use Rattle.label.specs.Judging.{SetAnswer}
use Rattle.answers_c.specs.declared.GptNext.{GptNext}
use Rattle.answers_c.specs.Crossing.{crossed}
use Rattle.card_c.specs.declared.answers.CardAnswer.{CardAnswer}
use Rattle.card_c.specs.declared.answers.CardStored.{CardStored}
use Rattle.card_c.specs.declared.answers.CardSpot.{CardSpot}
use Rattle.card_c.specs.declared.answers.CardCount.{CardCount}
use Rattle.card_c.specs.declared.answers.CardNext.{CardNext}
use Rattle.card_c.specs.declared.answers.CardSlotRead.{CardSlotRead}
use Rattle.card_c.specs.declared.answers.CardUsedRead.{CardUsedRead}
use Rattle.card_c.specs.declared.labels.CardLabelRead.{CardLabelRead}
use Rattle.card_c.specs.declared.labels.CardJudged.{CardJudged}
use Rattle.card_c.specs.declared.maps.CardMapMade.{CardMapMade}
use Rattle.card_c.specs.declared.maps.CardCarried.{CardCarried}
use Rattle.card_c.specs.declared.pulled.CardCopy.{CardCopy}
use Rattle.card_c.specs.declared.pulled.CardUpdateStep.{CardUpdateStep}
use Rattle.card_c.specs.declared.pulled.CardRepairStep.{CardRepairStep}

-- an answer and two rows, the answer told in another way
abbrev pub rows_to_c : {A C : Type 0} → (A → C) → Rows A → Rows C
rows_to_c f o = record { answer = f o.answer; starts = o.starts; lengths = o.lengths }

-- the number of a place, and the slot that differs
abbrev pub place_number : Place → ℕ
place_number place.Nowhere = 0
place_number place.Front = 1
place_number place.Back = 2
place_number place.DiskGuid = 3
place_number (place.InSlot s) = 4

abbrev pub differs_in : Place → ℕ
differs_in place.Nowhere = 0
differs_in place.Front = 0
differs_in place.Back = 0
differs_in place.DiskGuid = 0
differs_in (place.InSlot s) = s.0

-- a refusal as a value, or none
abbrev pub why_to_c : Why → CardAnswer
why_to_c w = record { number = w.number; slot = w.slot.0; place = place_number w.place; differs = differs_in w.place }

-- a struct made of that and the value; beside a refusal stands the value z
unfoldable pub crossed_at : {A S : Type 0} → (CardAnswer → A → S) → A → Answer A → S
crossed_at make z (accepted x) = make (why_to_c fine) x
crossed_at make z (refused w) = make (why_to_c w) z

abbrev pub answer_to_c : Answer Unit → CardAnswer
answer_to_c a = crossed_at (λ k u. k) tt a

abbrev pub card_stored_made : CardAnswer → ℕ → CardStored
card_stored_made k n = record { number = k.number; place = k.place; differs = k.differs; bytes = n }

abbrev pub card_stored_to_c : Answer ℕ → CardStored
card_stored_to_c a = crossed_at card_stored_made 0 a

-- the place in bytes
abbrev pub spot_made : CardAnswer → BytePlace → CardSpot
spot_made k p = record { number = k.number; place = k.place; differs = k.differs; at = p.0 }

abbrev pub spot_to_c : Answer BytePlace → CardSpot
spot_to_c a = crossed_at spot_made (record { 0 = 0 }) a

abbrev pub card_count_made : CardAnswer → ℕ → CardCount
card_count_made k n = record { number = k.number; count = n; place = k.place; differs = k.differs }

abbrev pub card_count_to_c : Answer ℕ → CardCount
card_count_to_c a = crossed_at card_count_made 0 a

-- the slot of a list of at most one; 0: no more
abbrev pub card_next_made : CardAnswer → List ℕ → CardNext
card_next_made k l = record { number = k.number; slot = get_or l 0 0; place = k.place; differs = k.differs }

abbrev pub card_next_to_c : Answer (List ℕ) → CardNext
card_next_to_c a = crossed_at card_next_made [] a

abbrev pub card_held_made : CardAnswer → Found → CardSlotRead
card_held_made k f = record { number = k.number; present = f.present; place = k.place; differs = k.differs; partition = f.partition }

abbrev pub card_held_to_c : Answer Found → CardSlotRead
card_held_to_c a = crossed_at card_held_made (record { present = false; partition = zero_partition }) a

abbrev pub used_made : CardAnswer → Used → CardUsedRead
used_made k u = record { number = k.number; found = u.found; slot = u.slot; place = k.place; differs = k.differs; partition = u.partition }

-- the entry of a list of at most one; of none, as beside a refusal, slot 0 and the zero record
abbrev pub used_to_c : Answer (List Listed) → CardUsedRead
used_to_c a = crossed_at used_made (first_used []) (and_then a (λ l. accepted (first_used l)))

-- ---- the slot map

-- the bits of the map that comes back: none beside a refusal
unfoldable pub map_bits : Answer (List Bool) → List Bool
map_bits (accepted bs) = bs
map_bits (refused w) = replicate 128 false

-- what an answer says apart from its map
abbrev pub made_told : Answer (List Bool) → CardAnswer
made_told a = crossed_at (λ k bs. k) [] a

-- a map that was made, for C
pub record MadeToC (a : Answer (List Bool)) (o : CardMapMade) : Type 0 where
  pub number : o.number ≡ (made_told a).number
  pub place : o.place ≡ (made_told a).place
  pub differs : o.differs ≡ (made_told a).differs
  pub map : map_of o.map ≡ map_bits a

-- a map is handed on as it is, beside a refusal the caller's own
abbrev pub carried_to_c : SlotMap → Result SlotMap Reason → CardCarried
carried_to_c m r = record { answer = answer_to_c (card_means (verdict r)); map = kept m r }

-- the lowest free slot of a map; 33 names no place
abbrev pub free_to_c : Answer Slot → GptNext
free_to_c a = crossed (λ k s. record { number = k; slot = s.0 }) (record { 0 = 0 }) a

-- ---- the pulled card: the table that the reader takes

abbrev pub is_back : Side → Bool
is_back Front = false
is_back Back = true

abbrev pub copy_to_c : Answer Side → CardCopy
copy_to_c a = crossed (λ k s. record { number = k; back = is_back s }) Front a

-- ---- the stages of the pulled card: the state for the next stage, zero beside a refusal

abbrev pub update_made : CardAnswer → Update → CardUpdateStep
update_made k u = record { number = k.number; slot = k.slot; place = k.place; differs = k.differs; state = u }

abbrev pub update_to_c : Answer Update → CardUpdateStep
update_to_c a = crossed_at update_made zero_update a

abbrev pub zero_repair : Repair
zero_repair = record { next = 0; back = false; b = 0; len = 0; guid = nil_guid; parts = 0 }

abbrev pub repair_made : CardAnswer → Repair → CardRepairStep
repair_made k r = record { number = k.number; slot = k.slot; place = k.place; differs = k.differs; state = r }

abbrev pub repair_to_c : Answer Repair → CardRepairStep
repair_to_c a = crossed_at repair_made zero_repair a

-- ---- the labels of maps: the label, or the date and style revision of a set, zero beside a refusal

abbrev pub label_made : CardAnswer → Label → CardLabelRead
label_made k l = record { number = k.number; place = k.place; differs = k.differs; label = l }

abbrev pub label_to_c : Answer Label → CardLabelRead
label_to_c a = crossed_at label_made (record { year = 0; month = 0; day = 0; style = 0; sheet = 0 }) a

-- with the slot of the list that the refusal names
abbrev pub judged_made : ℕ → CardAnswer → Dated → CardJudged
judged_made s k d = record { number = k.number; slot = s; place = k.place; differs = k.differs; year = d.year; month = d.month; day = d.day; style = d.style }

abbrev pub judged_to_c : SetAnswer → CardJudged
judged_to_c a = crossed_at (judged_made a.slot) (record { year = 0; month = 0; day = 0; style = 0 }) a.answer
