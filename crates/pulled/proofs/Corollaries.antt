-- What users ask of the pulled card: after the fourth stage the image is the plain call's; what the plain check answers of the image between the stages; a life without cuts
-- is demand 3's history; a finished repair makes the card whole again, whatever came before, and so does an update that is accepted and finished; what the reader lists into
-- a lent row. No contract cites this file. Assumes nothing.
use mathlib.Core.Path.{◌≡◌, refl, sym, ap, ◌∙◌}
use mathlib.Core.Bool.{Bool, true, false, not, ◌||◌}
use mathlib.Core.List.{List, [], ◌∷◌, ◌++◌, map}
use Prim.Native.Nat.{ℕ, ◌+◌, ◌-◌, ◌^◌, ◌≤◌, ◌<◌}
use native.Mathlib.Omega.{arith}
use borrow.Author.Tests.{le-leb}
use lib.Dec.{eqb, ltb}
use lib.ListN.{length, take}
use Rattle.units.specs.declared.Guid.{Guid}
use Rattle.units.specs.declared.why.Why.{Why}
use Rattle.units.specs.Answer.{accepted, refused, refuse, plain, placed, pick, when, or_else, judged}
use Rattle.units.specs.Guids.{guid_bytes}
use Rattle.units.specs.Held.{Small, GuidHeld}
use Rattle.units.proofs.Chains.{judged-none, judged-zero}
use Rattle.partition.specs.declared.Partition.{Partition}
use Rattle.partition.specs.Format.{entry_at}
use Rattle.partition.specs.Array.{Found, entry_place, present_from}
use Rattle.partition.specs.Held.{PartitionHeld}
use Rattle.rows.specs.declared.Entry.{Entry}
use Rattle.rows.specs.Row.{entry_of, present_entries}
use Rattle.rows.specs.Plans.{roomed}
use Rattle.rows.proofs.Laws.{length-map}
use Rattle.tables.specs.Places.{array_blocks}
use Rattle.tables.specs.Lens.{Front, Back, Tables, side_of, copy_at, tables_at, with_tables_at, tables, other}
use Rattle.tables.specs.Entries.{zeros}
use Rattle.tables.specs.Check.{check, bad_slot, slot_check, check_answer}
use Rattle.card.specs.Calls.{changed, put_check, put_at, clear_at, put_bytes, lay_outcome}
use Rattle.history.specs.History.{Op, call, run, told, told_byte, empty_slot, filled_from, Card}
use Rattle.tables.proofs.Room.{Room}
use Rattle.tables.proofs.LensLaws.{Whole, whole-tables, length-with, get-put}
use Rattle.tables.proofs.EntryLaws.{length-zeros}
use Rattle.tables.proofs.Good.{room-ok, check-good}
use Rattle.history.proofs.State.{accepted-image}
use Rattle.history.proofs.Changes.{put-ok, clear-check, clear-slot}
use Rattle.listing.specs.Listing.{Listed}
use Rattle.reader.specs.Reader.{passes, none, table, table_of, shown, reader_check, taken_side, taken_array, side_answer, reader_count, reader_next, reader_slot_check, held_in, reader_slot, reader_read}
use Rattle.reader.proofs.LentRow.{read-within}
use Rattle.pulled.specs.Shows.{entries_of, shown_entries}
use Rattle.staged.specs.declared.Update.{Update}
use Rattle.staged.specs.Stages.{fixed, after_stages}
use Rattle.staged.specs.Repairs.{repair_of}
use Rattle.staged.specs.Stores.{stored, repair_stored}
use Rattle.pulled.specs.Life.{Event, called, put_stages, clear_stages, repair_stages, happens, live, told_by, told_byte_by, mends, whole_after, Lived}
use Rattle.pulled.proofs.Readers.{bytes_of}
use Rattle.pulled.proofs.Cuts.{after-4}
use Rattle.pulled.proofs.Repairs.{reader-room}
use Rattle.pulled.proofs.Between.{Between, between-as, put-checked, clear-checked, place_of, repair-checked}
use Rattle.pulled.proofs.Stores.{Fit, after-whole, stored-stages, after-repair-whole, stored-repair}
use Rattle.pulled.proofs.Events.{lived}

-- ---- after the fourth stage

module _ (B n : ℕ) (xs : List ℕ) (l : length xs ≡ n) (s : ℕ) where
  four-stores : (e : List ℕ) → length e ≡ 128 → s - 1 < 128 → (check B n (tables_at B n xs)).number ≡ 0
      → stored B n (fixed B n (tables_at B n xs) s e) 4 xs ≡ with_tables_at B n xs (changed B n (tables_at B n xs) s e)
  unfolding fixed
  four-stores e le p c =
      let t : Tables = tables_at B n xs in
      let good = check-good B n (tables_at B n xs) c in
      stored-stages B n (room-ok B n good.room) (fixed B n t s e) (record { slot = p; entry = le }) xs l 4
      ∙ ap (λ (x : Tables). with_tables_at B n xs x) (after-4 B n t s e good)

  pub put-stored : (e : List ℕ) (reserved : ℕ) → length e ≡ 128 → (put_check B n (tables_at B n xs) s e reserved).number ≡ 0 → stored B n (fixed B n (tables_at B n xs) s e) 4 xs ≡ (put_at B n xs s e reserved).image
  unfolding put_at
  put-stored e reserved le h =
      let o = put-ok B n (tables_at B n xs) s e reserved h in
      four-stores e le o.slot o.card ∙ sym (accepted-image tt _ xs _ h)

  pub clear-stored : (slot_check B n (tables_at B n xs) s).number ≡ 0 → stored B n (fixed B n (tables_at B n xs) s (zeros 128)) 4 xs ≡ (clear_at B n xs s).image
  unfolding clear_at
  clear-stored h =
      four-stores (zeros 128) (length-zeros 128) (clear-slot B n (tables_at B n xs) s h).1 (clear-check B n (tables_at B n xs) s h) ∙ sym (accepted-image tt _ xs _ h)

-- ---- between the stages

-- what the check answers of an image into which tables were put
checked : (B n : ℕ) (xs : List ℕ) → length xs ≡ n → Room B n → (t : Tables) → Whole B t → {ys : List ℕ} → ys ≡ with_tables_at B n xs t → check_answer B ys ≡ judged (check B n t) tt
checked B n xs l r t w e =
    ap (λ (y : List ℕ). check_answer B y) e
    ∙ ap (λ (m : ℕ). judged (check B m (tables_at B m (with_tables_at B n xs t))) tt) (length-with B n r xs l t w)
    ∙ ap (λ (x : Tables). judged (check B n x) tt) (get-put B n r xs l t w)

module _ (B n : ℕ) (xs : List ℕ) (l : length xs ≡ n) (bytes : Small xs) (few : n < 2 ^ 64) where
  module _ (r : Room B n) where
    whole : Whole B (tables_at B n xs)
    whole = whole-tables B n r xs l

    update-checked : (u : Update) → Fit u → (k : ℕ) → check_answer B (stored B n u k xs) ≡ judged (check B n (after_stages B n u k (tables_at B n xs))) tt
    update-checked u f k = checked B n xs l r _ (after-whole B n r u f (tables_at B n xs) whole k) (stored-stages B n r u f xs l k)

  pub put-between : (s : ℕ) (e : List ℕ) (reserved : ℕ) → length e ≡ 128 → Small e → (put_check B n (tables_at B n xs) s e reserved).number ≡ 0
      → Between (tables_at B n xs).front.array s e (λ (k : ℕ). check_answer B (stored B n (fixed B n (tables_at B n xs) s e) k xs))
  unfolding fixed
  put-between s e reserved size small h =
      let o = put-ok B n (tables_at B n xs) s e reserved h in
      let r = room-ok B n (check-good B n (tables_at B n xs) o.card).room in
      between-as (update-checked r (fixed B n (tables_at B n xs) s e) (record { slot = o.slot; entry = size }))
      (put-checked B n (tables_at B n xs) (whole r) (bytes_of B n xs bytes) few s e reserved size small h)

  pub clear-between : (s : ℕ) → (slot_check B n (tables_at B n xs) s).number ≡ 0
      → Between (tables_at B n xs).front.array s (zeros 128) (λ (k : ℕ). check_answer B (stored B n (fixed B n (tables_at B n xs) s (zeros 128)) k xs))
  unfolding fixed
  clear-between s h =
      let r = room-ok B n (check-good B n (tables_at B n xs) (clear-check B n (tables_at B n xs) s h)).room in
      between-as (update-checked r (fixed B n (tables_at B n xs) s (zeros 128)) (record { slot = (clear-slot B n (tables_at B n xs) s h).1; entry = length-zeros 128 }))
      (clear-checked B n (tables_at B n xs) (whole r) (bytes_of B n xs bytes) few s h)

  pub repair-between : (reader_check B n (tables_at B n xs)).number ≡ 0 → (k : ℕ) → 1 ≤ k → k ≤ array_blocks B + 1
      → check_answer B (repair_stored B n (repair_of B n (tables_at B n xs)) k xs) ≡ refused (placed 4 (place_of (other (taken_side B n (tables_at B n xs)))))
  repair-between h k a b =
      let t : Tables = tables_at B n xs in
      let r = room-ok B n (reader-room B n (tables_at B n xs) h) in
      checked B n xs l r _ (after-repair-whole B n r (repair_of B n t) t (whole r) k) (stored-repair B n r (repair_of B n t) xs l k)
      ∙ repair-checked B n t (whole r) (bytes_of B n xs bytes) h k a b

-- ---- a life without cuts is a history

pub live-plain : (B : ℕ) (os : List Op) (xs : List ℕ) → live B (map called os) xs ≡ run B os xs
unfolding live run
live-plain B [] xs = refl
live-plain B (o ∷ os) xs = live-plain B os (call B o xs).image

pub told-plain : (B : ℕ) (os : List Op) (xs : List ℕ) (k : ℕ) (x : Found) → told_by B (map called os) xs k x ≡ told B os xs k x
unfolding told_by told
told-plain B [] xs k x = refl
told-plain B (o ∷ os) xs k x = told-plain B os (call B o xs).image k _

pub byte-plain : (B : ℕ) (os : List Op) (xs : List ℕ) (slots : ℕ → Found) (i x : ℕ) → told_byte_by B (map called os) xs slots i x ≡ told_byte B os xs slots i x
unfolding told_byte_by told_byte
byte-plain B [] xs slots i x = refl
byte-plain B (o ∷ os) xs slots i x = byte-plain B os (call B o xs).image _ i _

pub whole_plain : (B : ℕ) (b : Bool) (os : List Op) (xs : List ℕ) → whole_after B b (map called os) xs ≡ b
unfolding whole_after
whole_plain B b [] xs = refl
whole_plain B b (o ∷ os) xs = whole_plain B b os (call B o xs).image

-- ---- whole again

whole_append : (B : ℕ) (b : Bool) (es fs : List Event) (xs : List ℕ) → whole_after B b (es ++ fs) xs ≡ whole_after B (whole_after B b es xs) fs (live B es xs)
unfolding whole_after live
whole_append B b [] fs xs = refl
whole_append B b (e ∷ es) fs xs = whole_append B (mends B (length xs) b e xs) es fs (happens B e xs).image

-- any events, a finished repair, any plain calls
pub repair-mends : (B : ℕ) (b : Bool) (es : List Event) (k : ℕ) (os : List Op) (xs : List ℕ) → array_blocks B + 2 ≤ k → whole_after B b (es ++ (repair_stages k ∷ map called os)) xs ≡ true
unfolding whole_after
repair-mends B b es k os xs h =
    whole_append B b es (repair_stages k ∷ map called os) xs
    ∙ whole_plain B _ os (happens B (repair_stages k) (live B es xs)).image
    ∙ rw (le-leb (array_blocks B + 2) k h)

or-true : (x : Bool) → x || true ≡ true
or-true true = refl
or-true false = refl

-- any events, an accepted put with all its stages, any plain calls
pub put-mends : (B : ℕ) (b : Bool) (es : List Event) (k s : ℕ) (p : Partition) (v : PartitionHeld p) (os : List Op) (xs : List ℕ) → 4 ≤ k
    → (put_check B (length (live B es xs)) (tables_at B (length (live B es xs)) (live B es xs)) s (put_bytes p) p.flags.reserved).number ≡ 0
    → whole_after B b (es ++ (put_stages k s p v ∷ map called os)) xs ≡ true
unfolding whole_after
put-mends B b es k s p v os xs h z =
    whole_append B b es (put_stages k s p v ∷ map called os) xs
    ∙ whole_plain B _ os (happens B (put_stages k s p v) (live B es xs)).image
    ∙ rw (z, le-leb 4 k h) (or-true (eqb k 0))

-- and the same of a clear
pub clear-mends : (B : ℕ) (b : Bool) (es : List Event) (k s : ℕ) (os : List Op) (xs : List ℕ) → 4 ≤ k
    → (slot_check B (length (live B es xs)) (tables_at B (length (live B es xs)) (live B es xs)) s).number ≡ 0
    → whole_after B b (es ++ (clear_stages k s ∷ map called os)) xs ≡ true
unfolding whole_after
clear-mends B b es k s os xs h z =
    whole_append B b es (clear_stages k s ∷ map called os) xs
    ∙ whole_plain B _ os (happens B (clear_stages k s) (live B es xs)).image
    ∙ rw (z, le-leb 4 k h) (or-true (eqb k 0))

-- demand 3 holds again after a finished repair
pub card-again : (B : ℕ) (xs : List ℕ) (g : Guid) (es : List Event) (k : ℕ) (os : List Op) → (lay_outcome B xs g).answer ≡ accepted tt → GuidHeld g → length xs < 2 ^ 64 → array_blocks B + 2 ≤ k
    → Card B g (λ (s : ℕ). told_by B (es ++ (repair_stages k ∷ map called os)) (lay_outcome B xs g).image s empty_slot) (live B (es ++ (repair_stages k ∷ map called os)) (lay_outcome B xs g).image)
card-again B xs g es k os a gh fits h =
    let y = lived B xs g (es ++ (repair_stages k ∷ map called os)) a gh fits in
    y.card (y.whole (repair-mends B true es k os (lay_outcome B xs g).image h))

-- ---- the row that is lent to the reader

-- a filled slot as a row has it
abbrev pub row_entry : Listed → Entry
row_entry l = record { slot = record { 0 = l.slot }; partition = l.partition }

-- the records of an array's entries are its list
same_rows : (arr l : List ℕ) → map (entry_of arr 0) l ≡ map row_entry (map (λ (s : ℕ). record { slot = s; partition = entry_at arr (entry_place 0 (s - 1)) }) l)
unfolding entry_of
same_rows arr [] = refl
same_rows arr (s ∷ l) = ap (λ (r : List Entry). entry_of arr 0 s ∷ r) (same_rows arr l)

rows-listed : (arr : List ℕ) → present_entries arr 0 128 ≡ map row_entry (entries_of arr)
unfolding present_entries
rows-listed arr = same_rows arr (present_from arr 0 0 128)

-- the array that is listed is the one that is shown
taken-shown : (B n : ℕ) (t : Tables) (g arr : List ℕ) → shown B n t ≡ table g arr → taken_array B n t ≡ arr
unfolding shown
taken-shown B n t g arr h = by (passes B n Front t.front) (passes B n Back t.back) h
  where
    arrays : {g h a b : List ℕ} → table g a ≡ table h b → a ≡ b
    arrays e = cc

    by : (p q : Bool) → pick p (table_of t.front) (pick q (table_of t.back) none) ≡ table g arr → (copy_at (side_of (not p)) t).array ≡ arr
    by true q e = arrays e
    by false true e = arrays e
    by false false e = let z : ◌≡◌ {A = ℕ} 0 1 = cc in absurd (omega arith)

-- whatever was cut, the reader lists into a row of m places the slots that the history fills, with their records, and it answers 15 exactly if they are more
pub reader-row : (B : ℕ) (g : Guid) (es : List Event) (laid : List ℕ) → Lived B g es laid → (m : ℕ)
    → let filled : List Listed = filled_from (λ (s : ℕ). told_by B es laid s empty_slot) 0 128 in
    reader_read B (live B es laid) m ≡ pick (ltb m (length filled)) (refuse 15) (accepted (map row_entry filled))
unfolding roomed
reader-row B g es laid y m =
    let xs : List ℕ = live B es laid in
    let t : Tables = tables B (live B es laid) in
    let w : Why = reader_check B (length xs) t in
    let filled : List Listed = filled_from (λ (s : ℕ). told_by B es laid s empty_slot) 0 128 in
    let z : w.number ≡ 0 = judged-zero (shown_entries (shown B (length xs) t)) w filled y.reader in
    let q : accepted (shown_entries (shown B (length xs) t)) ≡ accepted filled = sym (judged-none (shown_entries (shown B (length xs) t)) w z) ∙ y.reader in
    let f : shown_entries (shown B (length xs) t) ≡ filled = cc in
    let rows : present_entries (taken_array B (length xs) t) 0 128 ≡ map row_entry filled =
    ap (λ (a : List ℕ). present_entries a 0 128) (taken-shown B (length xs) t (guid_bytes g) y.array y.shows)
    ∙ rows-listed y.array ∙ ap (map row_entry) (sym (ap shown_entries y.shows) ∙ f) in
    sym (read-within B xs m)
    ∙ ap (roomed m) (judged-none _ w z ∙ ap accepted rows)
    ∙ ap (λ (n : ℕ). pick (ltb m n) (refuse 15) (accepted (map row_entry filled))) (length-map row_entry filled)

-- ---- the reader's other answers are those of the table that is shown

-- what it says of an image, for the disk GUID and the array that it shows: the table that it takes has them, and its answers are by that array
pub record Says (B : ℕ) (xs g arr : List ℕ) : Type 0 where
  pub side : side_answer B xs ≡ accepted (taken_side B (length xs) (tables B xs))
  pub taken : table_of (copy_at (taken_side B (length xs) (tables B xs)) (tables B xs)) ≡ table g arr
  pub count : reader_count B xs ≡ accepted (length (present_from arr 0 0 128))
  pub next : (k : ℕ) → reader_next B xs k ≡ accepted (take 1 (present_from arr 0 k (128 - k)))
  pub slot : (s : ℕ) → reader_slot B xs s ≡ judged (when (bad_slot s) (plain 18)) (held_in arr s)

table_taken : (B n : ℕ) (t : Tables) (g arr : List ℕ) → shown B n t ≡ table g arr → table_of (copy_at (taken_side B n t) t) ≡ table g arr
unfolding shown
table_taken B n t g arr h = by (passes B n Front t.front) (passes B n Back t.back) h
  where
    by : (p q : Bool) → pick p (table_of t.front) (pick q (table_of t.back) none) ≡ table g arr → table_of (copy_at (side_of (not p)) t) ≡ table g arr
    by true q e = e
    by false true e = e
    by false false e = let z : ◌≡◌ {A = ℕ} 0 1 = cc in absurd (omega arith)

slot-said : (B n : ℕ) (t : Tables) (s : ℕ) (x : Found) → (reader_check B n t).number ≡ 0 → judged (reader_slot_check B n t s) x ≡ judged (when (bad_slot s) (plain 18)) x
unfolding reader_slot_check or_else
slot-said B n t s x z = rw z

pub reader-says : (B : ℕ) (xs g arr : List ℕ) → (reader_check B (length xs) (tables B xs)).number ≡ 0 → shown B (length xs) (tables B xs) ≡ table g arr → Says B xs g arr
reader-says B xs g arr z h =
    let n : ℕ = length xs in
    let t : Tables = tables B xs in
    let e : taken_array B (length xs) (tables B xs) ≡ arr = taken-shown B n t g arr h in
    record {
      side = judged-none _ (reader_check B n t) z;
      taken = table_taken B n t g arr h;
      count = judged-none _ (reader_check B n t) z ∙ ap (λ (a : List ℕ). accepted (length (present_from a 0 0 128))) e;
      next = λ k. judged-none _ (reader_check B n t) z ∙ ap (λ (a : List ℕ). accepted (take 1 (present_from a 0 k (128 - k)))) e;
      slot = λ s. slot-said B n t s _ z ∙ ap (λ (a : List ℕ). judged (when (bad_slot s) (plain 18)) (held_in a s)) e;
    }
