-- A card that stands and what its slots hold, through one event and any list of events. No contract cites this file. Assumes nothing.
use mathlib.Core.Path.{◌≡◌, refl, sym, ap, ◌∙◌, subst}
use mathlib.Core.Bool.{Bool, true, false, ◌||◌}
use mathlib.Core.List.{List, [], ◌∷◌}
use Prim.Native.Nat.{ℕ, zero, suc, ◌+◌, ◌-◌, ◌^◌, ◌≤◌, ◌<◌}
use native.Mathlib.Omega.{arith}
use borrow.Author.Tests.{eqb-true, eqb-false, ne_eqb, leb-true, leb-false}
use lib.Dec.{eqb, leb}
use lib.ListN.{length, get_or}
use Rattle.units.specs.declared.Guid.{Guid}
use Rattle.units.specs.Answer.{accepted, pick}
use Rattle.units.specs.Guids.{guid_at, guid_bytes}
use Rattle.units.specs.Held.{Small, GuidHeld}
use Rattle.units.proofs.Chains.{else-first, judged-none, judged-zero, settle-accepted, settle-refused}
use Rattle.partition.specs.declared.Partition.{Partition}
use Rattle.partition.specs.Format.{entry_bytes, named}
use Rattle.partition.specs.Array.{Found}
use Rattle.partition.specs.Held.{PartitionHeld}
use Rattle.tables.specs.Places.{array_blocks}
use Rattle.tables.specs.Lens.{Tables, tables_at, with_tables_at, OutsideTables}
use Rattle.tables.specs.Entries.{zeros, entry, set_entry}
use Rattle.tables.specs.Headers.{copy_of, card_of}
use Rattle.tables.specs.Check.{room_check, guid_of, check, slot_check}
use Rattle.listing.specs.Listing.{present_slots}
use Rattle.card.specs.Calls.{put_check, put_at, clear_at, payload_check, used_check, payload_at, changed, put_bytes, lay_outcome}
use Rattle.history.specs.History.{Op, put, clear, payload, taken, done_at, run, empty_slot, after, after_byte, told_byte, filled_from, array_of}
use Rattle.tables.proofs.Orders.{by-test}
use Rattle.tables.proofs.Room.{Room}
use Rattle.tables.proofs.LensLaws.{Whole, whole-tables, length-with, get-put, with_byte}
use Rattle.tables.proofs.EntryLaws.{length-zeros, length-set-entry, Entries}
use Rattle.tables.proofs.Good.{Good, room-ok, check-good, good-check, card-good, card-whole}
use Rattle.history.proofs.State.{held_back, write-state, State, state-check, state-guid, state-front}
use Rattle.history.proofs.Changes.{small-zeros, put-ok, clear-check, clear-slot}
use Rattle.history.proofs.Records.{held-named, small-record, tidied-is, length-put}
use Rattle.history.proofs.Steps.{Kept, Holds, array_told, small-array, step, lay-holds}
use Rattle.history.proofs.Others.{bytes-told}
use Rattle.history.proofs.Listings.{lists-held}
use Rattle.history.proofs.Demand.{card-of}
use Rattle.reader.specs.Reader.{table, shown, reader_check}
use Rattle.pulled.specs.Shows.{entries_of, shown_entries}
use Rattle.staged.specs.Stages.{fixed, after_stages}
use Rattle.staged.specs.Repairs.{repair_of, after_repair}
use Rattle.staged.specs.Stores.{stored}
use Rattle.pulled.specs.Life.{Event, called, put_stages, clear_stages, repair_stages, update_image, repair_image, happens_at, happens, live, after_event, after_event_byte, told_by, told_byte_by, mends, whole_after, Lived}
use Rattle.pulled.proofs.Readers.{small-entry, reads-shown}
use Rattle.pulled.proofs.Cuts.{put-fresh, clear-fresh, after_more, after-4}
use Rattle.pulled.proofs.Stores.{Fit, stored-stages, stored-repair}
use Rattle.pulled.proofs.Standing.{Stands, Sound, stands-shows, stands-card, card-stands, stages-old, stages-new, repair-stands, repair-card}

pub record Keeps (B n : ℕ) (g : List ℕ) (slots : ℕ → Found) (xs : List ℕ) : Type 0 where
  pub array : List ℕ
  pub size : length xs ≡ n
  pub room : (room_check B n).number ≡ 0
  pub sound : Sound B n g array
  pub stands : Stands B n g array (tables_at B n xs)
  pub kept : (s : ℕ) → Kept (slots s)
  pub places : (s : ℕ) → 1 ≤ s → s ≤ 128 → entry array (s - 1) ≡ entry_bytes (slots s).partition

module _ {B n : ℕ} {g xs : List ℕ} {slots : ℕ → Found} where
  pub holds-keeps : n < 2 ^ 64 → GuidHeld (guid_at g 0) → Holds B n g slots xs → Keeps B n g slots xs
  holds-keeps few gh h =
      let k = h.state in
      let ok : Sound B n g h.array =
      record { room = room-ok B n k.room; few = few; guid = record { held = gh; back = h.guid }; long = k.array; small = small-array h; entries = k.entries } in
      record {
        array = h.array;
        size = k.size;
        room = k.room;
        sound = ok;
        stands = subst (λ (t : Tables). Stands B n g h.array t) (sym k.tables) (card-stands B n g h.array ok);
        kept = h.kept;
        places = h.places;
      }

  -- where the check accepts, it is a card as after plain calls
  pub keeps-holds : Keeps B n g slots xs → (check B n (tables_at B n xs)).number ≡ 0 → Holds B n g slots xs
  keeps-holds h c =
      record {
        array = h.array;
        state = record {
          size = h.size;
          room = h.room;
          array = h.sound.long;
          entries = h.sound.entries;
          tables = stands-card h.stands h.sound c;
        };
        guid = h.sound.guid.back;
        kept = h.kept;
        places = h.places;
      }

  -- other tables that stand, put into the image
  put_keeps : Keeps B n g slots xs → (arr : List ℕ) (t : Tables) (slots' : ℕ → Found) → Sound B n g arr → Stands B n g arr t → ((s : ℕ) → Kept (slots' s))
      → ((s : ℕ) → 1 ≤ s → s ≤ 128 → entry arr (s - 1) ≡ entry_bytes (slots' s).partition) → Keeps B n g slots' (with_tables_at B n xs t)
  put_keeps h arr t slots' ok k kept places =
      let r : Room B n = room-ok B n h.room in
      record {
        array = arr;
        size = length-with B n r xs h.size t k.whole;
        room = h.room;
        sound = ok;
        stands = subst (λ (x : Tables). Stands B n g arr x) (sym (get-put B n r xs h.size t k.whole)) k;
        kept = kept;
        places = places;
      }

-- ---- a plain call

module _ (B n : ℕ) (xs : List ℕ) (d : (check B n (tables_at B n xs)).number ≡ 0 → ⊥) where
  -- a card that the check refuses is left as it is
  pub refused-plain : (o : Op) → ((done_at B n o xs).taken ≡ false) × ((done_at B n o xs).image ≡ xs)
  unfolding put_at clear_at payload_at payload_check used_check
  refused-plain (put s p v) =
      let q = settle-refused tt (put_check B n (tables_at B n xs) s (put_bytes p) p.flags.reserved) xs _ (λ z. d (put-ok B n (tables_at B n xs) s (put_bytes p) p.flags.reserved z).card) in
      (ap (λ o. taken o.answer) q, ap (λ o. o.image) q)
  refused-plain (clear s) =
      let q = settle-refused tt (slot_check B n (tables_at B n xs) s) xs _ (λ z. d (clear-check B n (tables_at B n xs) s z)) in
      (ap (λ o. taken o.answer) q, ap (λ o. o.image) q)
  refused-plain (payload s p ys) =
      let q = settle-refused (length ys) (payload_check B n (tables_at B n xs) s p (length ys)) xs _ (λ z. d (clear-check B n (tables_at B n xs) s (else-first (slot_check B n (tables_at B n xs) s) _ (else-first (used_check B n (tables_at B n xs) s) _ z)))) in
      (ap (λ o. taken o.answer) q, ap (λ o. o.image) q)

module _ {B n : ℕ} {g xs : List ℕ} {slots : ℕ → Found} (h : Keeps B n g slots xs) where
  T : Tables
  T = tables_at B n xs

  -- cases on the check
  pub by-check {ℓ} : {X : Type ℓ} → ((check B n (tables_at B n xs)).number ≡ 0 → X) → (((check B n (tables_at B n xs)).number ≡ 0 → ⊥) → X) → X
  by-check f k = by-test (eqb (check B n (tables_at B n xs)).number 0) (λ e. f (eqb-true _ 0 e)) (λ e. k (eqb-false _ 0 e))

  pub step-holds : (o : Op) → (check B n (tables_at B n xs)).number ≡ 0 → Holds B n g (λ (k : ℕ). after (done_at B n o xs).taken o k (slots k)) (done_at B n o xs).image
  step-holds o c =
      subst (λ (m : ℕ). Holds B n g (λ (k : ℕ). after (done_at B m o xs).taken o k (slots k)) (done_at B m o xs).image) h.size (step (keeps-holds h c) o)

  left : (o : Op) (t : Bool) (i : List ℕ) → t ≡ false → i ≡ xs → Keeps B n g (λ (k : ℕ). after t o k (slots k)) i
  left o true i e f = let z : ◌≡◌ {A = ℕ} 0 1 = cc in absurd (omega arith)
  left o false i e f = subst (λ (x : List ℕ). Keeps B n g slots x) (sym f) h

  pub plain-keeps : (o : Op) → Keeps B n g (λ (k : ℕ). after (done_at B n o xs).taken o k (slots k)) (done_at B n o xs).image
  plain-keeps o =
      by-check
      (λ c. holds-keeps h.sound.few h.sound.guid.held (step-holds o c))
      (λ d. let r = refused-plain B n xs d o in left o (done_at B n o xs).taken (done_at B n o xs).image r.0 r.1)

-- ---- an update that was accepted at stage one, cut after k stages

module _ {B n : ℕ} {g xs : List ℕ} {slots : ℕ → Found} (h : Keeps B n g slots xs) (o : Op) (s : ℕ) (e : List ℕ) (le : length e ≡ 128) (se : Small e)
    (c : (check B n (tables_at B n xs)).number ≡ 0) (p : s - 1 < 128) (fresh : Entries B n (set_entry (tables_at B n xs).front.array (s - 1) e))
    (took : (done_at B n o xs).taken ≡ true) (made : (done_at B n o xs).image ≡ with_tables_at B n xs (changed B n (tables_at B n xs) s e)) where
  abbrev t : Tables
  t = tables_at B n xs

  abbrev new : List ℕ
  new = set_entry (tables_at B n xs).front.array (s - 1) e

  room : Room B n
  room = room-ok B n h.room

  big : 92 ≤ B
  big = omega (arith, room.least)

  whole : Whole B (tables_at B n xs)
  whole = whole-tables B n room xs h.size

  good : Good B n (tables_at B n xs)
  good = check-good B n (tables_at B n xs) c

  is-guid : guid_of (tables_at B n xs).front ≡ g
  is-guid = state-guid (keeps-holds h c).state ∙ h.sound.guid.back

  is-array : (tables_at B n xs).front.array ≡ h.array
  unfolding keeps-holds
  is-array = state-front (keeps-holds h c).state

  -- the new array, under the kept GUID
  ok : Sound B n g new
  ok =
      record {
        room = room;
        few = h.sound.few;
        guid = h.sound.guid;
        long = length-set-entry _ (s - 1) e whole.front-array p le;
        small = small-entry (tables_at B n xs).front.array (s - 1) e whole.front-array p le h.stands.bytes.front-array se;
        entries = fresh;
      }

  ok-kept : Sound B n (guid_of (tables_at B n xs).front) new
  ok-kept = subst (λ (x : List ℕ). Sound B n x new) (sym is-guid) ok

  -- what the plain call would have left
  plainly : Holds B n g (λ (k : ℕ). after true o k (slots k)) (with_tables_at B n xs (changed B n (tables_at B n xs) s e))
  plainly =
      subst (λ (i : List ℕ). Holds B n g (λ (k : ℕ). after true o k (slots k)) i) made
      (subst (λ (b : Bool). Holds B n g (λ (k : ℕ). after b o k (slots k)) (done_at B n o xs).image) took (step-holds h o c))

  changed-whole : Whole B (changed B n (tables_at B n xs) s e)
  unfolding changed
  changed-whole = card-whole B n _ _ big ok.long

  is-new : plainly.array ≡ new
  unfolding changed copy_of
  is-new =
      sym (state-front plainly.state)
      ∙ ap (λ (x : Tables). x.front.array) (get-put B n room xs h.size (changed B n (tables_at B n xs) s e) changed-whole)

  -- the stores are the stages
  fit : Fit (fixed B n (tables_at B n xs) s e)
  unfolding fixed
  fit = record { slot = p; entry = le }

  is-stored : (k : ℕ) → stored B n (fixed B n (tables_at B n xs) s e) k xs ≡ with_tables_at B n xs (after_stages B n (fixed B n (tables_at B n xs) s e) k (tables_at B n xs))
  is-stored k = stored-stages B n room (fixed B n (tables_at B n xs) s e) fit xs h.size k

  stages-keep : (k : ℕ) (b : Bool) → leb 3 k ≡ b
      → Keeps B n g (λ (j : ℕ). after b o j (slots j)) (with_tables_at B n xs (after_stages B n (fixed B n (tables_at B n xs) s e) k (tables_at B n xs)))
  stages-keep k false q =
      let d = leb-false 3 k q in
      let old = stages-old B n t s e good whole h.stands.bytes h.stands.clean ok-kept k (omega arith) in
      put_keeps h h.array _ slots h.sound
      (subst (λ (x : List ℕ). Stands B n x h.array (after_stages B n (fixed B n t s e) k t)) is-guid
      (subst (λ (x : List ℕ). Stands B n (guid_of t.front) x (after_stages B n (fixed B n t s e) k t)) is-array old))
      h.kept h.places
  stages-keep k true q =
      let d = leb-true 3 k q in
      let now = stages-new B n t s e good whole h.stands.bytes h.stands.clean ok-kept k d in
      put_keeps h new _ (λ (j : ℕ). after true o j (slots j)) ok
      (subst (λ (x : List ℕ). Stands B n x new (after_stages B n (fixed B n t s e) k t)) is-guid now)
      plainly.kept (λ j a b. ap (λ (x : List ℕ). entry x (j - 1)) (sym is-new) ∙ plainly.places j a b)

  pub update-keeps : (k : ℕ) (b : Bool) → leb 3 k ≡ b → Keeps B n g (λ (j : ℕ). after b o j (slots j)) (stored B n (fixed B n (tables_at B n xs) s e) k xs)
  update-keeps k b q = subst (λ (i : List ℕ). Keeps B n g (λ (j : ℕ). after b o j (slots j)) i) (sym (is-stored k)) (stages-keep k b q)

  -- none of the stages touches a byte beside the tables
  update-whole : (k : ℕ) → Whole B (after_stages B n (fixed B n (tables_at B n xs) s e) k (tables_at B n xs))
  update-whole k =
      by-test (leb 3 k)
      (λ q. (stages-new B n t s e good whole h.stands.bytes h.stands.clean ok-kept k (leb-true 3 k q)).whole)
      (λ q. let d = leb-false 3 k q in (stages-old B n t s e good whole h.stands.bytes h.stands.clean ok-kept k (omega arith)).whole)

  pub update-beside : (k i : ℕ) → OutsideTables B n i → get_or (stored B n (fixed B n (tables_at B n xs) s e) k xs) i 0 ≡ get_or xs i 0
  update-beside k i q = ap (λ (x : List ℕ). get_or x i 0) (is-stored k) ∙ with_byte B n room xs h.size _ (update-whole k) i q.0 q.1

  -- with no stage stored, or all four, the check accepts
  pub update-check : (k : ℕ) → eqb k 0 || leb 4 k ≡ true → (check B n (tables_at B n (stored B n (fixed B n (tables_at B n xs) s e) k xs))).number ≡ 0
  unfolding after_stages
  update-check k q = ap (λ (x : List ℕ). (check B n (tables_at B n x)).number) (is-stored k) ∙ ap (λ (x : Tables). (check B n x).number) (get-put B n room xs h.size _ (update-whole k)) ∙ by k q
    where
      by : (k : ℕ) → eqb k 0 || leb 4 k ≡ true → (check B n (after_stages B n (fixed B n (tables_at B n xs) s e) k (tables_at B n xs))).number ≡ 0
      by zero q = c
      by (suc zero) q = let z : ◌≡◌ {A = ℕ} 0 1 = cc in absurd (omega arith)
      by (suc (suc zero)) q = let z : ◌≡◌ {A = ℕ} 0 1 = cc in absurd (omega arith)
      by (suc (suc (suc zero))) q = let z : ◌≡◌ {A = ℕ} 0 1 = cc in absurd (omega arith)
      by (suc (suc (suc (suc k)))) q =
          ap (λ (x : Tables). (check B n x).number)
          (after_more B n t s e k ∙ after-4 B n t s e good ∙ sym (get-put B n room xs h.size (changed B n (tables_at B n xs) s e) changed-whole))
          ∙ state-check plainly.state h.sound.few h.sound.guid.held (small-array plainly)

-- ---- one event

-- an accepted put and an accepted clear, as plain calls
module _ (B n : ℕ) (xs : List ℕ) (s : ℕ) where
  put-taken : (p : Partition) (v : PartitionHeld p) → (put_check B n (tables_at B n xs) s (put_bytes p) p.flags.reserved).number ≡ 0
      → ((done_at B n (put s p v) xs).taken ≡ true) × ((done_at B n (put s p v) xs).image ≡ with_tables_at B n xs (changed B n (tables_at B n xs) s (put_bytes p)))
  unfolding put_at
  put-taken p v z =
      let q = settle-accepted tt (put_check B n (tables_at B n xs) s (put_bytes p) p.flags.reserved) xs _ z in
      (ap (λ o. taken o.answer) q, ap (λ o. o.image) q)

  clear-taken : (slot_check B n (tables_at B n xs) s).number ≡ 0
      → ((done_at B n (clear s) xs).taken ≡ true) × ((done_at B n (clear s) xs).image ≡ with_tables_at B n xs (changed B n (tables_at B n xs) s (zeros 128)))
  unfolding clear_at
  clear-taken z =
      let q = settle-accepted tt (slot_check B n (tables_at B n xs) s) xs _ z in
      (ap (λ o. taken o.answer) q, ap (λ o. o.image) q)

small_put : (p : Partition) → PartitionHeld p → p.flags.reserved ≡ 0 → Small (put_bytes p)
small_put p v e = subst (λ (q : Partition). Small (entry_bytes q)) (sym (tidied-is p e)) (small-record (named p) (held-named p v))

pub long-put : (p : Partition) → PartitionHeld p → length (put_bytes p) ≡ 128
long-put p v = length-put p v

module _ {B n : ℕ} {g xs : List ℕ} {slots : ℕ → Found} (h : Keeps B n g slots xs) where
  r : Room B n
  r = room-ok B n h.room

  fits : Whole B (tables_at B n xs)
  fits = whole-tables B n r xs h.size

  reads-zero : (reader_check B n (tables_at B n xs)).number ≡ 0
  reads-zero = reads-shown B n (tables_at B n xs) g h.array h.room (stands-shows h.stands h.sound)

  repair-is : (k : ℕ) → repair_image B n k xs ≡ with_tables_at B n xs (after_repair B n (repair_of B n (tables_at B n xs)) k (tables_at B n xs))
  unfolding repair_image
  repair-is k = rw reads-zero (stored-repair B n r (repair_of B n (tables_at B n xs)) xs h.size k)

  repaired-stands : (k : ℕ) → Stands B n g h.array (after_repair B n (repair_of B n (tables_at B n xs)) k (tables_at B n xs))
  repaired-stands k = repair-stands h.stands h.sound k

  -- the card stands, and its slots hold what the event tells
  pub event-keeps : (e : Event) → Keeps B n g (λ (k : ℕ). after_event (happens_at B n e xs).taken e k (slots k)) (happens_at B n e xs).image
  unfolding update_image
  event-keeps (called o) = plain-keeps h o
  event-keeps (put_stages k s p v) =
      by-test (eqb (put_check B n (tables_at B n xs) s (put_bytes p) p.flags.reserved).number 0)
      (λ q.
      let z : (put_check B n (tables_at B n xs) s (put_bytes p) p.flags.reserved).number ≡ 0 = eqb-true _ 0 q in
      let o = put-ok B n (tables_at B n xs) s (put_bytes p) p.flags.reserved z in
      let d = put-taken B n xs s p v z in
      rw q (update-keeps h (put s p v) s (put_bytes p) (long-put p v) (small_put p v o.flags) o.card o.slot (put-fresh B n (tables_at B n xs) fits h.stands.bytes h.sound.few s (put_bytes p) p.flags.reserved (long-put p v) z) d.0 d.1 k (leb 3 k) refl))
      (λ q. rw q h)
  event-keeps (clear_stages k s) =
      by-test (eqb (slot_check B n (tables_at B n xs) s).number 0)
      (λ q.
      let z : (slot_check B n (tables_at B n xs) s).number ≡ 0 = eqb-true _ 0 q in
      let d = clear-taken B n xs s z in
      rw q
      (update-keeps h (clear s) s (zeros 128) (length-zeros 128) (small-zeros 128) (clear-check B n (tables_at B n xs) s z) (clear-slot B n (tables_at B n xs) s z).1
      (clear-fresh B n (tables_at B n xs) fits h.stands.bytes h.sound.few s z) d.0 d.1 k (leb 3 k) refl))
      (λ q. rw q h)
  event-keeps (repair_stages k) =
      subst (λ (i : List ℕ). Keeps B n g slots i) (sym (repair-is k))
      (put_keeps h h.array _ slots h.sound (repaired-stands k) h.kept h.places)

  -- and its bytes beside the tables
  plain_byte : (o : Op) (i : ℕ) → OutsideTables B n i → get_or (done_at B n o xs).image i 0 ≡ after_byte B (done_at B n o xs).taken o slots i (get_or xs i 0)
  unfolding run told_byte
  plain_byte o i q =
      by-check h
      (λ c.
      subst (λ (m : ℕ). get_or (done_at B m o xs).image i 0 ≡ after_byte B (done_at B m o xs).taken o slots i (get_or xs i 0)) h.size
      (bytes-told (o ∷ []) xs slots (keeps-holds h c) i q))
      (λ d.
      let f = refused-plain B n xs d o in
      ap (λ (x : List ℕ). get_or x i 0) f.1 ∙ ap (λ (b : Bool). after_byte B b o slots i (get_or xs i 0)) (sym f.0))

  pub event-byte : (e : Event) (i : ℕ) → OutsideTables B n i → get_or (happens_at B n e xs).image i 0 ≡ after_event_byte B (happens_at B n e xs).taken e slots i (get_or xs i 0)
  unfolding update_image
  event-byte (called o) i b = plain_byte o i b
  event-byte (put_stages k s p v) i b =
      by-test (eqb (put_check B n (tables_at B n xs) s (put_bytes p) p.flags.reserved).number 0)
      (λ q.
      let z : (put_check B n (tables_at B n xs) s (put_bytes p) p.flags.reserved).number ≡ 0 = eqb-true _ 0 q in
      let o = put-ok B n (tables_at B n xs) s (put_bytes p) p.flags.reserved z in
      let d = put-taken B n xs s p v z in
      rw q (update-beside h (put s p v) s (put_bytes p) (long-put p v) (small_put p v o.flags) o.card o.slot (put-fresh B n (tables_at B n xs) fits h.stands.bytes h.sound.few s (put_bytes p) p.flags.reserved (long-put p v) z) d.0 d.1 k i b))
      (λ q. rw q)
  event-byte (clear_stages k s) i b =
      by-test (eqb (slot_check B n (tables_at B n xs) s).number 0)
      (λ q.
      let z : (slot_check B n (tables_at B n xs) s).number ≡ 0 = eqb-true _ 0 q in
      let d = clear-taken B n xs s z in
      rw q
      (update-beside h (clear s) s (zeros 128) (length-zeros 128) (small-zeros 128) (clear-check B n (tables_at B n xs) s z) (clear-slot B n (tables_at B n xs) s z).1
      (clear-fresh B n (tables_at B n xs) fits h.stands.bytes h.sound.few s z) d.0 d.1 k i b))
      (λ q. rw q)
  event-byte (repair_stages k) i b =
      ap (λ (x : List ℕ). get_or x i 0) (repair-is k) ∙ with_byte B n r xs h.size _ (repaired-stands k).whole i b.0 b.1

  -- and whether the check accepts it
  repair-check : (b : Bool) → (b ≡ true → (check B n (tables_at B n xs)).number ≡ 0) → (k : ℕ) → mends B n b (repair_stages k) xs ≡ true → (check B n (tables_at B n (repair_image B n k xs))).number ≡ 0
  unfolding after_repair
  repair-check b f k m =
      ap (λ (x : List ℕ). (check B n (tables_at B n x)).number) (repair-is k)
      ∙ ap (λ (x : Tables). (check B n x).number) (get-put B n r xs h.size _ (repaired-stands k).whole)
      ∙ by-test (leb (array_blocks B + 2) k)
      (λ q.
      ap (λ (x : Tables). (check B n x).number) (repair-card h.stands h.sound k (leb-true _ k q))
      ∙ good-check (card-good B n g h.array h.room h.sound.few h.sound.guid.held h.sound.small h.sound.entries))
      (λ q. none k (rw q at m))
    where
      none : (k : ℕ) → pick (eqb k 0) b false ≡ true → (check B n (after_repair B n (repair_of B n (tables_at B n xs)) k (tables_at B n xs))).number ≡ 0
      none zero e = f e
      none (suc j) e = let v : false ≡ true = rw (ne_eqb (suc j) 0 (λ w. omega arith)) at e in let z : ◌≡◌ {A = ℕ} 0 1 = cc in absurd (omega arith)

  pub event-check : (e : Event) (b : Bool) → (b ≡ true → (check B n (tables_at B n xs)).number ≡ 0) → mends B n b e xs ≡ true → (check B n (tables_at B n (happens_at B n e xs).image)).number ≡ 0
  unfolding update_image
  event-check (called o) b f m = let k = step-holds h o (f m) in state-check k.state h.sound.few h.sound.guid.held (small-array k)
  event-check (put_stages k s p v) b f m =
      by-test (eqb (put_check B n (tables_at B n xs) s (put_bytes p) p.flags.reserved).number 0)
      (λ q.
      let z : (put_check B n (tables_at B n xs) s (put_bytes p) p.flags.reserved).number ≡ 0 = eqb-true _ 0 q in
      let o = put-ok B n (tables_at B n xs) s (put_bytes p) p.flags.reserved z in
      let d = put-taken B n xs s p v z in
      rw q
      (update-check h (put s p v) s (put_bytes p) (long-put p v) (small_put p v o.flags) o.card o.slot (put-fresh B n (tables_at B n xs) fits h.stands.bytes h.sound.few s (put_bytes p) p.flags.reserved (long-put p v) z) d.0 d.1 k (rw q at m)))
      (λ q. rw q (f (rw q at m)))
  event-check (clear_stages k s) b f m =
      by-test (eqb (slot_check B n (tables_at B n xs) s).number 0)
      (λ q.
      let z : (slot_check B n (tables_at B n xs) s).number ≡ 0 = eqb-true _ 0 q in
      let d = clear-taken B n xs s z in
      rw q
      (update-check h (clear s) s (zeros 128) (length-zeros 128) (small-zeros 128) (clear-check B n (tables_at B n xs) s z) (clear-slot B n (tables_at B n xs) s z).1
      (clear-fresh B n (tables_at B n xs) fits h.stands.bytes h.sound.few s z) d.0 d.1 k (rw q at m)))
      (λ q. rw q (f (rw q at m)))
  event-check (repair_stages k) b f m = repair-check b f k m

-- ---- any list of events

module _ {B n : ℕ} {g xs : List ℕ} {slots : ℕ → Found} (h : Keeps B n g slots xs) (e : Event) where
  at_length : Keeps B n g (λ (k : ℕ). after_event (happens B e xs).taken e k (slots k)) (happens B e xs).image
  at_length =
      subst (λ (m : ℕ). Keeps B n g (λ (k : ℕ). after_event (happens_at B m e xs).taken e k (slots k)) (happens_at B m e xs).image) (sym h.size) (event-keeps h e)

  byte-at-length : (i : ℕ) → OutsideTables B n i → get_or (happens B e xs).image i 0 ≡ after_event_byte B (happens B e xs).taken e slots i (get_or xs i 0)
  byte-at-length i b =
      subst (λ (m : ℕ). get_or (happens_at B m e xs).image i 0 ≡ after_event_byte B (happens_at B m e xs).taken e slots i (get_or xs i 0)) (sym h.size) (event-byte h e i b)

  check-at-length : (b : Bool) → (b ≡ true → (check B n (tables_at B n xs)).number ≡ 0) → mends B (length xs) b e xs ≡ true → (check B n (tables_at B n (happens B e xs).image)).number ≡ 0
  check-at-length b f =
      subst (λ (m : ℕ). mends B m b e xs ≡ true → (check B n (tables_at B n (happens_at B m e xs).image)).number ≡ 0) (sym h.size) (event-check h e b f)

pub lives : {B n : ℕ} {g : List ℕ} (es : List Event) (xs : List ℕ) (slots : ℕ → Found) → Keeps B n g slots xs → Keeps B n g (λ (k : ℕ). told_by B es xs k (slots k)) (live B es xs)
unfolding live told_by
lives [] xs slots h = h
lives {B} (e ∷ es) xs slots h = lives es (happens B e xs).image (λ (k : ℕ). after_event (happens B e xs).taken e k (slots k)) (at_length h e)

pub bytes-live : {B n : ℕ} {g : List ℕ} (es : List Event) (xs : List ℕ) (slots : ℕ → Found) → Keeps B n g slots xs
    → (i : ℕ) → OutsideTables B n i → get_or (live B es xs) i 0 ≡ told_byte_by B es xs slots i (get_or xs i 0)
unfolding live told_byte_by
bytes-live [] xs slots h i b = refl
bytes-live {B} (e ∷ es) xs slots h i b =
    bytes-live es (happens B e xs).image _ (at_length h e) i b
    ∙ ap (λ (x : ℕ). told_byte_by B es (happens B e xs).image (λ (k : ℕ). after_event (happens B e xs).taken e k (slots k)) i x) (byte-at-length h e i b)

pub whole-live : {B n : ℕ} {g : List ℕ} (es : List Event) (xs : List ℕ) (slots : ℕ → Found) → Keeps B n g slots xs
    → (b : Bool) → (b ≡ true → (check B n (tables_at B n xs)).number ≡ 0) → whole_after B b es xs ≡ true → (check B n (tables_at B n (live B es xs))).number ≡ 0
unfolding live whole_after
whole-live [] xs slots h b f m = f m
whole-live {B} (e ∷ es) xs slots h b f m =
    whole-live es (happens B e xs).image _ (at_length h e) (mends B (length xs) b e xs) (check-at-length h e b f) m

-- ---- what the reader gives

-- the array that is shown lists the filled slots: it is the array of a card that holds them
pub lists-kept : {B n : ℕ} {g xs : List ℕ} {slots : ℕ → Found} (h : Keeps B n g slots xs) → entries_of h.array ≡ filled_from slots 0 128
unfolding present_slots
lists-kept {B} {n} {g} {xs} {slots} h =
    let ys : List ℕ = with_tables_at B n xs (card_of B n g h.array) in
    let st : State B n g h.array ys = write-state B n xs h.size g h.array h.room h.sound.long h.sound.entries in
    let k : Holds B n g slots ys = record { array = h.array; state = st; guid = h.sound.guid.back; kept = h.kept; places = h.places } in
    ap entries_of (sym (state-front st)) ∙ lists-held k

-- both tables are lay's headers over the told array
tables-told : {B n m : ℕ} {g xs : List ℕ} {slots : ℕ → Found} (h : Holds B n g slots xs) → n ≡ m → tables_at B m xs ≡ card_of B m g (array_of slots)
tables-told {B} {n} {m} {g} {xs} {slots} h e =
    ap (λ (k : ℕ). tables_at B k xs) (sym e)
    ∙ h.state.tables
    ∙ ap (λ (a : List ℕ). card_of B n g a) (array_told h)
    ∙ ap (λ (k : ℕ). card_of B k g (array_of slots)) e

module _ (B : ℕ) (xs : List ℕ) (g : Guid) (es : List Event) (a : (lay_outcome B xs g).answer ≡ accepted tt) (gh : GuidHeld g) (fits : length xs < 2 ^ 64) where
  abbrev laid : List ℕ
  laid = (lay_outcome B xs g).image

  abbrev slots : ℕ → Found
  slots = λ (s : ℕ). told_by B es (lay_outcome B xs g).image s empty_slot

  abbrev now : List ℕ
  now = live B es (lay_outcome B xs g).image

  begun : Holds B (length xs) (guid_bytes g) (λ (k : ℕ). empty_slot) laid
  begun = lay-holds B xs g a

  first : Keeps B (length xs) (guid_bytes g) (λ (k : ℕ). empty_slot) laid
  first = holds-keeps fits (held_back g gh) begun

  last-at : Keeps B (length xs) (guid_bytes g) slots now
  last-at = lives es laid (λ (k : ℕ). empty_slot) first

  live-length : length now ≡ length xs
  live-length = last-at.size

  last : Keeps B (length now) (guid_bytes g) slots now
  last = subst (λ (m : ℕ). Keeps B m (guid_bytes g) slots now) (sym live-length) last-at

  shows : shown B (length now) (tables_at B (length now) now) ≡ table (guid_bytes g) last.array
  shows = stands-shows last.stands last.sound

  -- the theorem of the pulled card
  pub lived : Lived B g es laid
  lived =
      let l : length laid ≡ length xs = first.size in
      record {
        size = live-length ∙ sym l;
        array = last.array;
        shows = shows;
        slots = last.places;
        reader = judged-none _ _ (reads-shown B (length now) (tables_at B (length now) now) (guid_bytes g) last.array last.room shows)
            ∙ ap accepted (ap shown_entries shows ∙ lists-kept last);
        card = λ c. card-of g (keeps-holds last (judged-zero tt _ tt c)) gh (omega (arith, live-length));
        tables = λ c. tables-told (keeps-holds last (judged-zero tt _ tt c)) (live-length ∙ sym l);
        whole = λ m.
            judged-none tt _
            (subst (λ (m : ℕ). (check B m (tables_at B m now)).number ≡ 0) (sym live-length)
            (whole-live es laid (λ (k : ℕ). empty_slot) first true (λ _. state-check begun.state fits (held_back g gh) (small-array begun)) m));
        bytes = λ i o. bytes-live es laid (λ (s : ℕ). empty_slot) first i (subst (λ (m : ℕ). OutsideTables B m i) l o);
      }
