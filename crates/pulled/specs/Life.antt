-- The life of a card: plain calls, staged updates cut after any number of stages, and repairs cut after any number of stages, in any order, and what it tells of every
-- slot and every byte. From document 02, 6/13: the history counts a cut update exactly if the reader shows the new table, that is from the third stage on. Assumes nothing.
use Rattle.std.specs.Prelude.{◌≡◌, Bool, true, false, ◌&&◌, ◌||◌, List, [], ◌∷◌, ℕ, ◌+◌, ◌-◌, ◌≤◌, eqb, leb, length, get_or}
use Rattle.units.specs.declared.Guid.{Guid}
use Rattle.units.specs.Answer.{accepted, pick}
use Rattle.units.specs.Guids.{guid_bytes}
use Rattle.partition.specs.declared.Partition.{Partition}
use Rattle.partition.specs.Format.{entry_bytes}
use Rattle.partition.specs.Array.{Found}
use Rattle.partition.specs.Held.{PartitionHeld}
use Rattle.tables.specs.Places.{array_blocks}
use Rattle.tables.specs.Lens.{tables, tables_at, OutsideTables}
use Rattle.tables.specs.Entries.{zeros, entry}
use Rattle.tables.specs.Headers.{card_of}
use Rattle.tables.specs.Check.{slot_check, check_answer}
use Rattle.card.specs.Calls.{put_check, put_bytes}
use Rattle.history.specs.History.{Op, put, clear, Done, done_at, empty_slot, filled_from, after, after_byte, array_of, Card}
use Rattle.reader.specs.Reader.{table, shown, reader_check}
use Rattle.pulled.specs.Shows.{reader_answer}
use Rattle.staged.specs.Stages.{fixed}
use Rattle.staged.specs.Repairs.{repair_of}
use Rattle.staged.specs.Stores.{stored, repair_stored}

-- what happens to a card. k stages were stored before the card was pulled: all four from 4 on, all A + 2 of a repair from A + 2 on
pub data Event : Type 0 where
  called : Op → Event
  put_stages : (k s : ℕ) (p : Partition) → PartitionHeld p → Event
  clear_stages : (k s : ℕ) → Event
  repair_stages : (k : ℕ) → Event

-- the image after k stores of an update whose number is 0 (else it is refused at stage one), and after k stores of a repair
unfoldable pub update_image : ℕ → ℕ → ℕ → ℕ → List ℕ → ℕ → List ℕ → List ℕ
update_image B n number s e k xs = pick (eqb number 0) (stored B n (fixed B n (tables_at B n xs) s e) k xs) xs

unfoldable pub repair_image : ℕ → ℕ → ℕ → List ℕ → List ℕ
repair_image B n k xs = pick (eqb (reader_check B n (tables_at B n xs)).number 0) (repair_stored B n (repair_of B n (tables_at B n xs)) k xs) xs

-- whether the history counts it, and the image that it leaves, in an image of n bytes
abbrev pub happens_at : ℕ → ℕ → Event → List ℕ → Done
happens_at B n (called o) xs = done_at B n o xs
happens_at B n (put_stages k s p _) xs =
    let number = (put_check B n (tables_at B n xs) s (put_bytes p) p.flags.reserved).number in
    record { taken = eqb number 0 && leb 3 k; image = update_image B n number s (put_bytes p) k xs }
happens_at B n (clear_stages k s) xs =
    let number = (slot_check B n (tables_at B n xs) s).number in
    record { taken = eqb number 0 && leb 3 k; image = update_image B n number s (zeros 128) k xs }
happens_at B n (repair_stages k) xs = record { taken = false; image = repair_image B n k xs }

abbrev pub happens : ℕ → Event → List ℕ → Done
happens B e xs = happens_at B (length xs) e xs

-- the image after a list of events
unfoldable pub live : ℕ → List Event → List ℕ → List ℕ
live B [] xs = xs
live B (e ∷ es) xs = live B es (happens B e xs).image

-- what an event makes of slot k, which held x; of byte i beside the tables, which was x
abbrev pub after_event : Bool → Event → ℕ → Found → Found
after_event t (called o) k x = after t o k x
after_event t (put_stages j s p v) k x = after t (put s p v) k x
after_event t (clear_stages j s) k x = after t (clear s) k x
after_event t (repair_stages j) k x = x

abbrev pub after_event_byte : ℕ → Bool → Event → (ℕ → Found) → ℕ → ℕ → ℕ
after_event_byte B t (called o) slots i x = after_byte B t o slots i x
after_event_byte B t (put_stages j s p v) slots i x = x
after_event_byte B t (clear_stages j s) slots i x = x
after_event_byte B t (repair_stages j) slots i x = x

unfoldable pub told_by : ℕ → List Event → List ℕ → ℕ → Found → Found
told_by B [] xs k x = x
told_by B (e ∷ es) xs k x = told_by B es (happens B e xs).image k (after_event (happens B e xs).taken e k x)

unfoldable pub told_byte_by : ℕ → List Event → List ℕ → (ℕ → Found) → ℕ → ℕ → ℕ
told_byte_by B [] xs slots i x = x
told_byte_by B (e ∷ es) xs slots i x =
    told_byte_by B es (happens B e xs).image (λ (k : ℕ). after_event (happens B e xs).taken e k (slots k)) i (after_event_byte B (happens B e xs).taken e slots i x)

-- whether the card is whole: no cut since it was laid, last updated to the end, or last repaired to the end. A refused update or repair leaves it as it was
abbrev pub mends : ℕ → ℕ → Bool → Event → List ℕ → Bool
mends B n b (called o) xs = b
mends B n b (put_stages k s p _) xs = pick (eqb (put_check B n (tables_at B n xs) s (put_bytes p) p.flags.reserved).number 0) (eqb k 0 || leb 4 k) b
mends B n b (clear_stages k s) xs = pick (eqb (slot_check B n (tables_at B n xs) s).number 0) (eqb k 0 || leb 4 k) b
mends B n b (repair_stages k) xs = pick (leb (array_blocks B + 2) k) true (pick (eqb k 0) b false)

unfoldable pub whole_after : ℕ → Bool → List Event → List ℕ → Bool
whole_after B b [] xs = b
whole_after B b (e ∷ es) xs = whole_after B (mends B (length xs) b e xs) es (happens B e xs).image

-- ---- after any events on an image that was laid with a GUID

pub record Lived (B : ℕ) (g : Guid) (es : List Event) (laid : List ℕ) : Type 0 where
  pub size : length (live B es laid) ≡ length laid
  -- at any time the reader shows the laid GUID and an array whose 128 slots have the bytes that the history tells, and it lists the filled ones
  pub array : List ℕ
  pub shows : shown B (length (live B es laid)) (tables B (live B es laid)) ≡ table (guid_bytes g) array
  pub slots : (s : ℕ) → 1 ≤ s → s ≤ 128 → entry array (s - 1) ≡ entry_bytes (told_by B es laid s empty_slot).partition
  pub reader : reader_answer B (live B es laid) ≡ accepted (filled_from (λ (s : ℕ). told_by B es laid s empty_slot) 0 128)
  -- where the check accepts, it is a card as demand 3 has it; and it accepts whenever the last update was finished or a finished repair came after the last cut
  pub card : check_answer B (live B es laid) ≡ accepted tt → Card B g (λ (s : ℕ). told_by B es laid s empty_slot) (live B es laid)
  -- both tables are then, byte for byte, the headers that lay writes for the GUID, and the array of these slots
  pub tables : check_answer B (live B es laid) ≡ accepted tt → tables_at B (length laid) (live B es laid) ≡ card_of B (length laid) (guid_bytes g) (array_of (λ (s : ℕ). told_by B es laid s empty_slot))
  pub whole : whole_after B true es laid ≡ true → check_answer B (live B es laid) ≡ accepted tt
  -- a byte in neither table is what the last accepted payload write over it gave; with none it is as it was
  pub bytes : (i : ℕ) → OutsideTables B (length laid) i → get_or (live B es laid) i 0 ≡ told_byte_by B es laid (λ (s : ℕ). empty_slot) i (get_or laid i 0)
