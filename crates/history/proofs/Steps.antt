-- A card and what its slots hold, through one call and any list of calls, accepted and refused. No contract cites this file. Assumes nothing.
use mathlib.Core.Path.{◌≡◌, refl, sym, ap, ◌∙◌, subst}
use mathlib.Core.Bool.{Bool, true, false}
use mathlib.Core.List.{List, [], ◌∷◌, ◌++◌}
use Prim.Native.Nat.{ℕ, zero, suc, ◌+◌, ◌*◌, ◌-◌, ◌/◌, ◌%◌, ◌≤◌, ◌<◌}
use native.Mathlib.Omega.{arith}
use borrow.Author.Tests.{eqb-true, eqb-false, eq-eqb, ne_eqb}
use lib.Dec.{eqb}
use lib.ListN.{length, get_or, get_or-eq_default, drop, take-append-drop, drop_of_length-le}
use lib.Seq.{drop-drop}
use Rattle.units.specs.declared.Guid.{Guid}
use Rattle.units.specs.Answer.{accepted, pick}
use Rattle.units.specs.Bytes.{part}
use Rattle.units.proofs.Lists.{get_d_part}
use Rattle.units.specs.Held.{Small}
use Rattle.units.specs.Guids.{guid_at, guid_bytes}
use Rattle.partition.specs.declared.Partition.{Partition}
use Rattle.partition.specs.Flags.{Joins}
use Rattle.partition.specs.Format.{entry_bytes, named}
use Rattle.partition.specs.Array.{Found}
use Rattle.partition.specs.Held.{PartitionHeld}
use Rattle.partition.proofs.FlagLaws.{flags-join}
use Rattle.partition.proofs.Laws.{length-entry}
use Rattle.tables.specs.Lens.{tables_at}
use Rattle.tables.specs.Entries.{zeros, entry, set_entry, used, first_of, last_of, part_guid_of}
use Rattle.tables.specs.Check.{guid_of, slot_check}
use Rattle.card.specs.Calls.{put_bytes, lay_at, put_at, put_check, clear_at, payload_at, payload_check, lay_outcome}
use Rattle.history.specs.History.{Op, put, clear, payload, taken, done_at, call, run, empty_slot, filled_slot, after, told, slot_bytes, array_of}
use Rattle.tables.proofs.Orders.{split, by-pick, by-test}
use Rattle.tables.proofs.EntryLaws.{entry_set, entry-zeros, unused-zeros}
use Rattle.tables.proofs.HeaderLaws.{guid-twice}
use Rattle.history.proofs.State.{taken-zero, untaken-image, State, state-guid, state-front, lay_done}
use Rattle.history.proofs.Changes.{put-ok, put-done, clear-slot, clear-done}
use Rattle.history.proofs.Payload.{payload-tables, payload-length}
use Rattle.history.proofs.Records.{small-record, record-first, record-last, record-guid, held-named, named-twice, tidied-is, length-put, held-zero, named-zero, zero-bytes-of}

-- what a slot holds is a record as the code can hold it, its flags such as can be joined and its name cleared; it is present exactly where its type is not nil, and all zero where it is absent
pub record Kept (f : Found) : Type 0 where
  pub held : PartitionHeld f.partition
  pub joins : Joins f.partition.flags
  pub clear : named f.partition ≡ f.partition
  pub seen : used (entry_bytes f.partition) ≡ f.present
  pub zero : f.present ≡ false → entry_bytes f.partition ≡ zeros 128

kept-empty : Kept empty_slot
kept-empty =
    record { held = held-zero; joins = flags-join 0; clear = named-zero; seen = ap used zero-bytes-of ∙ unused-zeros; zero = λ _. zero-bytes-of }

kept-filled : (p : Partition) → PartitionHeld p → p.flags.reserved ≡ 0 → used (put_bytes p) ≡ true → Kept (filled_slot p)
kept-filled p h r u =
    record { held = held-named p h; joins = omega arith; clear = named-twice p; seen = ap (λ (q : Partition). used (entry_bytes q)) (sym (tidied-is p r)) ∙ u; zero = λ e. let z : ◌≡◌ {A = ℕ} 0 1 = cc in absurd (omega arith) }

-- a card, and what its slots hold
pub record Holds (B n : ℕ) (g : List ℕ) (slots : ℕ → Found) (xs : List ℕ) : Type 0 where
  pub array : List ℕ
  pub state : State B n g array xs
  pub guid : guid_bytes (guid_at g 0) ≡ g
  pub kept : (s : ℕ) → Kept (slots s)
  pub places : (s : ℕ) → 1 ≤ s → s ≤ 128 → entry array (s - 1) ≡ entry_bytes (slots s).partition

-- the blocks and the GUID of an entry are those of its record
module _ {B n : ℕ} {g xs : List ℕ} {slots : ℕ → Found} (h : Holds B n g slots xs) (s : ℕ) (a : 1 ≤ s) (b : s ≤ 128) where
  pub slot-first : first_of (entry h.array (s - 1)) ≡ (slots s).partition.first_lba.0
  slot-first = ap first_of (h.places s a b) ∙ record-first (slots s).partition (h.kept s).held.fields.first

  pub slot-last : last_of (entry h.array (s - 1)) ≡ (slots s).partition.last_lba.0
  slot-last = ap last_of (h.places s a b) ∙ record-last (slots s).partition (h.kept s).held.fields.last

  pub slot-guid : part_guid_of (entry h.array (s - 1)) ≡ guid_bytes (slots s).partition.part_guid
  slot-guid = ap part_guid_of (h.places s a b) ∙ record-guid (slots s).partition

-- the array is, byte for byte, that of the slots
module _ {B n : ℕ} {g xs : List ℕ} {slots : ℕ → Found} (h : Holds B n g slots xs) where
  from-slot : (m k : ℕ) → k + m ≡ 128 → drop (128 * k) h.array ≡ slot_bytes slots k m
  unfolding slot_bytes entry
  from-slot zero k e = drop_of_length-le h.array {i = 128 * k} (omega (arith, h.state.array))
  from-slot (suc m) k e =
      let a : 128 * (k + 1 - 1) ≡ 128 * k = omega arith in
      let b : 128 * k + 128 ≡ 128 * (k + 1) = omega arith in
      let p : part h.array (128 * (k + 1 - 1)) 128 ≡ entry_bytes (slots (k + 1)).partition = h.places (k + 1) (omega arith) (omega arith) in
      sym (take-append-drop 128 (drop (128 * k) h.array))
      ∙ ap (λ (l : List ℕ). l ++ drop 128 (drop (128 * k) h.array)) (ap (λ (i : ℕ). part h.array i 128) (sym a) ∙ p)
      ∙ ap (λ (l : List ℕ). entry_bytes (slots (k + 1)).partition ++ l) (drop-drop 128 (128 * k) h.array ∙ ap (λ (i : ℕ). drop i h.array) b ∙ from-slot m (k + 1) (omega arith))

  pub array_told : h.array ≡ array_of slots
  array_told = from-slot 128 0 refl

-- every byte of the array is a byte
pub small-array : {B n : ℕ} {g xs : List ℕ} {slots : ℕ → Found} (h : Holds B n g slots xs) → Small h.array
unfolding entry
small-array {slots = slots} h i =
    let l : length h.array ≡ 16384 = h.state.array in
    split 16384 i
    (λ p. let z : get_or h.array i 0 ≡ 0 = get_or-eq_default h.array 0 (omega arith) in omega arith)
    (λ p.
    let k : ℕ = i / 128 in
    let e : 128 * (i / 128) + i % 128 ≡ i = omega arith in
    let q : entry h.array (i / 128 + 1 - 1) ≡ entry_bytes (slots (i / 128 + 1)).partition = h.places (i / 128 + 1) (omega arith) (omega arith) in
    let a : i / 128 + 1 - 1 ≡ i / 128 = omega arith in
    let b : get_or (entry h.array (i / 128)) (i % 128) 0 ≡ get_or h.array i 0 = get_d_part h.array (128 * (i / 128)) 128 (i % 128) (omega arith) ∙ ap (λ (j : ℕ). get_or h.array j 0) e in
    let c : get_or (entry h.array (i / 128)) (i % 128) 0 ≡ get_or (entry_bytes (slots (i / 128 + 1)).partition) (i % 128) 0 =
    ap (λ (x : List ℕ). get_or x (i % 128) 0) (ap (entry h.array) (sym a) ∙ q) in
    let d = small-record (slots (i / 128 + 1)).partition (h.kept (i / 128 + 1)).held (i % 128) in
    omega arith)

-- ---- one call

-- slots and array places are compared alike
slot-eqb : (k s : ℕ) → 1 ≤ k → 1 ≤ s → eqb (k - 1) (s - 1) ≡ eqb k s
slot-eqb k s a b =
    by-test (eqb k s)
    (λ e. let q = eqb-true k s e in eq-eqb (k - 1) (s - 1) (omega arith) ∙ sym e)
    (λ e. let q = eqb-false k s e in ne_eqb (k - 1) (s - 1) (λ z. q (omega arith)) ∙ sym e)

module _ {B n : ℕ} {g xs : List ℕ} {slots : ℕ → Found} (h : Holds B n g slots xs) where
  -- accepted put and clear alike
  set_holds : (s : ℕ) (f : Found) (i : List ℕ) → 1 ≤ s → s - 1 < 128 → Kept f
      → State B n (guid_of (tables_at B n xs).front) (set_entry (tables_at B n xs).front.array (s - 1) (entry_bytes f.partition)) i
      → Holds B n g (λ (k : ℕ). pick (eqb k s) f (slots k)) i
  set_holds s f i one p w q =
      let e : List ℕ = entry_bytes f.partition in
      let le : length (entry_bytes f.partition) ≡ 128 = length-entry f.partition w.held.fields.long in
      let q1 : State B n (guid_of (tables_at B n xs).front) (set_entry h.array (s - 1) (entry_bytes f.partition)) i =
      subst (λ (x : List ℕ). State B n (guid_of (tables_at B n xs).front) (set_entry x (s - 1) (entry_bytes f.partition)) i) (state-front h.state) q in
      record {
        array = set_entry h.array (s - 1) e;
        state = subst (λ (x : List ℕ). State B n x (set_entry h.array (s - 1) e) i) (state-guid h.state ∙ h.guid) q1;
        guid = h.guid;
        kept = λ k. by-pick (λ (x : Found). Kept x) (eqb k s) f (slots k) (λ _. w) (λ _. h.kept k);
        places = λ k a b.
            entry_set h.array (s - 1) e h.state.array p le (k - 1) (omega arith)
            ∙ ap (λ (t : Bool). pick t e (entry h.array (k - 1))) (slot-eqb k s a one)
            ∙ by-pick (λ (x : Found). pick (eqb k s) e (entry h.array (k - 1)) ≡ entry_bytes x.partition) (eqb k s) f (slots k)
            (λ t. ap (λ (c : Bool). pick c e (entry h.array (k - 1))) t)
            (λ t. ap (λ (c : Bool). pick c e (entry h.array (k - 1))) t ∙ h.places k a b);
      }

  same-holds : {i : List ℕ} → i ≡ xs → Holds B n g slots i
  same-holds e = subst (λ (x : List ℕ). Holds B n g slots x) (sym e) h

  put_holds : (s : ℕ) (p : Partition) (v : PartitionHeld p) (t : Bool) → taken (put_at B n xs s (put_bytes p) p.flags.reserved).answer ≡ t
      → Holds B n g (λ (k : ℕ). after t (put s p v) k (slots k)) (put_at B n xs s (put_bytes p) p.flags.reserved).image
  unfolding put_at
  put_holds s p v true q =
      let r : ℕ = p.flags.reserved in
      let z : (put_check B n (tables_at B n xs) s (put_bytes p) r).number ≡ 0 = taken-zero tt _ _ _ q in
      let o = put-ok B n (tables_at B n xs) s (put_bytes p) r z in
      set_holds s (filled_slot p) _ o.one o.slot (kept-filled p v o.flags o.taken)
      (subst (λ (x : Partition). State B n (guid_of (tables_at B n xs).front) (set_entry (tables_at B n xs).front.array (s - 1) (entry_bytes x)) (put_at B n xs s (put_bytes p) p.flags.reserved).image) (tidied-is p o.flags)
      (put-done B n xs h.state.size s (put_bytes p) r (length-put p v) z))
  put_holds s p v false q = same-holds (untaken-image tt _ _ _ q)

  clear-holds : (s : ℕ) (t : Bool) → taken (clear_at B n xs s).answer ≡ t
      → Holds B n g (λ (k : ℕ). after t (clear s) k (slots k)) (clear_at B n xs s).image
  unfolding clear_at
  clear-holds s true q =
      let z : (slot_check B n (tables_at B n xs) s).number ≡ 0 = taken-zero tt _ _ _ q in
      let o = clear-slot B n (tables_at B n xs) s z in
      set_holds s empty_slot _ o.0 o.1 kept-empty
      (subst (λ (e : List ℕ). State B n (guid_of (tables_at B n xs).front) (set_entry (tables_at B n xs).front.array (s - 1) e) (clear_at B n xs s).image) (sym zero-bytes-of)
      (clear-done B n xs h.state.size s z))
  clear-holds s false q = same-holds (untaken-image tt _ _ _ q)

  payload-holds : (s p : ℕ) (ys : List ℕ) (t : Bool) → taken (payload_at B n xs s p ys).answer ≡ t
      → Holds B n g (λ (k : ℕ). after t (payload s p ys) k (slots k)) (payload_at B n xs s p ys).image
  unfolding payload_at
  payload-holds s p ys true q =
      let z : (payload_check B n (tables_at B n xs) s p (length ys)).number ≡ 0 = taken-zero (length ys) _ _ _ q in
      let k = h.state in
      record {
        array = h.array;
        state = record {
          size = payload-length B n xs k.size s p ys z;
          room = k.room;
          array = k.array;
          entries = k.entries;
          tables = payload-tables B n xs k.size s p ys z ∙ k.tables;
        };
        guid = h.guid;
        kept = h.kept;
        places = h.places;
      }
  payload-holds s p ys false q = same-holds (untaken-image (length ys) _ _ _ q)

  step-at : (o : Op) → Holds B n g (λ (k : ℕ). after (done_at B n o xs).taken o k (slots k)) (done_at B n o xs).image
  step-at (put s p v) = put_holds s p v (taken (put_at B n xs s (put_bytes p) p.flags.reserved).answer) refl
  step-at (clear s) = clear-holds s (taken (clear_at B n xs s).answer) refl
  step-at (payload s p ys) = payload-holds s p ys (taken (payload_at B n xs s p ys).answer) refl

  pub step : (o : Op) → Holds B n g (λ (k : ℕ). after (call B o xs).taken o k (slots k)) (call B o xs).image
  step o =
      subst (λ (m : ℕ). Holds B n g (λ (k : ℕ). after (done_at B m o xs).taken o k (slots k)) (done_at B m o xs).image) (sym h.state.size) (step-at o)

-- ---- any list of calls

pub steps : {B n : ℕ} {g : List ℕ} (os : List Op) (xs : List ℕ) (slots : ℕ → Found) → Holds B n g slots xs → Holds B n g (λ (k : ℕ). told B os xs k (slots k)) (run B os xs)
unfolding run told
steps [] xs slots h = h
steps {B} (o ∷ os) xs slots h = steps os (call B o xs).image (λ (k : ℕ). after (call B o xs).taken o k (slots k)) (step h o)

-- a card that was just laid: every slot is empty
pub lay-holds : (B : ℕ) (xs : List ℕ) (g : Guid) → (lay_outcome B xs g).answer ≡ accepted tt
    → Holds B (length xs) (guid_bytes g) (λ (k : ℕ). empty_slot) (lay_outcome B xs g).image
unfolding lay_at
lay-holds B xs g h =
    record {
      array = zeros 16384;
      state = lay_done B (length xs) xs (guid_bytes g) refl (taken-zero tt _ _ _ (ap taken h));
      guid = guid-twice g;
      kept = λ _. kept-empty;
      places = λ s a b. entry-zeros (s - 1) (omega arith) ∙ sym zero-bytes-of;
    }
