-- What the plain card check answers between the stages of an update and of a repair, with the place that it names: an update's 6 names the table whose header is behind its
-- array, its 17 the slot that is updated, and a repair's 4 the table that is written. No contract cites this file. Assumes nothing.
use mathlib.Core.Path.{◌≡◌, refl, sym, ap, ◌∙◌}
use mathlib.Core.Bool.{Bool, true, false, not}
use mathlib.Core.List.{List}
use Prim.Native.Nat.{ℕ, zero, suc, ◌+◌, ◌*◌, ◌-◌, ◌^◌, ◌≤◌, ◌<◌}
use native.Mathlib.Omega.{arith}
use borrow.Author.Tests.{ne_eqb}
use lib.Dec.{eqb}
use lib.ListN.{length, get_or}
use lib.Seq.{sets, length-sets, ext_get_or}
use Rattle.units.specs.declared.Place.{Place}
use Rattle.units.specs.declared.Place.TheVariants as place
use Rattle.units.specs.declared.why.Why.{Why}
use Rattle.units.specs.Answer.{Answer, accepted, refused, plain, placed, when, judged}
use Rattle.units.specs.Bytes.{part, same}
use Rattle.units.specs.Held.{Small}
use Rattle.units.proofs.Lists.{get_d_part, get_d-in, get_d-out}
use Rattle.units.proofs.Laws.{same_true}
use Rattle.units.proofs.Chains.{here, on, last, past, past-at, found_at, number-of, else-first, else-second, none-when, judged-none, judged-some}
use Rattle.crc32.specs.Crc.{crc}
use Rattle.crc32.specs.HeaderSum.{header_sum}
use Rattle.header.specs.Format.{signature, header_at}
use Rattle.tables.specs.Places.{array_blocks}
use Rattle.tables.specs.Lens.{Side, Front, Back, Copy, Tables, other, with_copy, with_array}
use Rattle.tables.specs.Entries.{zeros, entry, set_entry}
use Rattle.tables.specs.Headers.{laid_fields, copy_of}
use Rattle.tables.specs.Check.{room_check, copy_check, table_check, head_of, guid_of, differs, pair_check, check, slot_check}
use Rattle.card.specs.Calls.{changed, put_check}
use Rattle.tables.proofs.Orders.{side, by-test, same_of}
use Rattle.tables.proofs.Room.{Room}
use Rattle.tables.proofs.LensLaws.{Whole}
use Rattle.tables.proofs.EntryLaws.{Entries, length-zeros, entry-same, entry_other}
use Rattle.tables.proofs.HeaderLaws.{passed, copy-passes, copy-array}
use Rattle.tables.proofs.Differ.{differ-first}
use Rattle.tables.proofs.Dropped.{bare-copy}
use Rattle.tables.proofs.Good.{Good, room-ok, good-check, check-good, card-good}
use Rattle.history.proofs.Changes.{small-zeros, put-ok, clear-check, clear-slot}
use Rattle.reader.specs.Reader.{reader_check, taken_side}
use Rattle.staged.specs.Stages.{fixed, after_stages}
use Rattle.staged.specs.declared.Repair.{Repair}
use Rattle.staged.specs.Repairs.{repair_of, after_repair}
use Rattle.pulled.proofs.Readers.{Held, AllBytes, guid-held, small-entry, passes-zero, lay-guid, zeroed-four}
use Rattle.pulled.proofs.Cuts.{after_more, after-1, after-2, after-3, after-4, put-fresh, clear-fresh}
use Rattle.pulled.proofs.Repairs.{zeroed-head, repair-mid, repair-front-of, repair-back-of, Reads, first, second, reads, reader-room}

same_false : {x y : List ℕ} → (x ≡ y → ⊥) → same x y ≡ false
same_false {x} {y} d = by-test (same x y) (λ t. absurd (d (same_true x y t))) (λ t. t)

-- ---- one table: its header knows of its array the sum alone

module _ (B n : ℕ) (s : Side) (x old new : List ℕ) where
  copy-alike : crc new ≡ crc old → (copy_check B n s x old).number ≡ 0 → (copy_check B n s x new).number ≡ 0
  unfolding copy_check
  copy-alike e h = rw e h

  -- another array under a header that passes: 6, unless the sums are equal
  copy-six : (crc new ≡ crc old → ⊥) → (copy_check B n s x old).number ≡ 0 → (copy_check B n s x new).number ≡ 6
  unfolding copy_check
  copy-six d h =
      let unsigned : Bool = not (same (part x 0 8) signature) in
      let summed : Bool = not (eqb (header_sum x 0) (header_at x 0).crc32) in
      let laid : Bool = not (laid_fields B n s (header_at x 0)) in
      let h5 = else-second (when unsigned (plain 4)) _ h in
      let h16 = else-second (when summed (plain 5)) _ h5 in
      let p : crc old ≡ (header_at x 0).crc32_parts = (passed B n s x old h).parts in
      sym
      (number-of
      (on (plain 4) (none-when unsigned (plain 4) tt (else-first (when unsigned (plain 4)) _ h))
      (on (plain 5) (none-when summed (plain 5) tt (else-first (when summed (plain 5)) _ h5))
      (on (plain 16) (none-when laid (plain 16) tt (else-first (when laid (plain 16)) _ h16))
      (last (plain 6) (ap not (ne_eqb (crc new) (header_at x 0).crc32_parts (λ z. d (z ∙ sym p)))))))))

-- ---- the ways through the check

module _ (B n : ℕ) (t : Tables) (r : (room_check B n).number ≡ 0) where
  at_front : (k : ℕ) → (table_check B n Front t.front).number ≡ suc k → check B n t ≡ placed (suc k) place.Front
  unfolding check
  at_front k f =
      sym (past {f = room_check B n} refl r (found_at place.Front (table_check B n Front t.front) _ (bare-copy B n Front (head_of t.front) t.front.array) (sym f) (λ z. omega arith)))

  module _ (f : (table_check B n Front t.front).number ≡ 0) where
    at_back : (k : ℕ) → (table_check B n Back t.back).number ≡ suc k → check B n t ≡ placed (suc k) place.Back
    unfolding check
    at_back k q =
        sym
        (past {f = room_check B n} refl r
        (past-at place.Front (table_check B n Front t.front) f
        (found_at place.Back (table_check B n Back t.back) _ (bare-copy B n Back (head_of t.back) t.back.array) (sym q) (λ z. omega arith))))

    at_slot : (table_check B n Back t.back).number ≡ 0 → guid_of t.front ≡ guid_of t.back → (t.front.array ≡ t.back.array → ⊥)
        → check B n t ≡ placed 17 (place.InSlot (record { 0 = differs t.front.array t.back.array + 1 }))
    unfolding check pair_check
    at_slot q g d =
        sym
        (past {f = room_check B n} refl r
        (past-at place.Front (table_check B n Front t.front) f
        (past-at place.Back (table_check B n Back t.back) q
        (on (placed 17 place.DiskGuid) (ap not (same_of g)) (here _ refl (ap not (same_false d)))))))

-- ---- the slot that is updated

module _ (arr : List ℕ) (s : ℕ) (e : List ℕ) (long : length arr ≡ 16384) (low : s - 1 < 128) (size : length e ≡ 128) where
  -- where its bytes change the arrays differ, and it is the first slot that does
  slot-changes : (entry arr (s - 1) ≡ e → ⊥) → arr ≡ set_entry arr (s - 1) e → ⊥
  slot-changes d z = d (ap (λ (a : List ℕ). entry a (s - 1)) z ∙ entry-same arr (s - 1) e long low size)

  slot-differs : 1 ≤ s → (entry arr (s - 1) ≡ e → ⊥) → differs arr (set_entry arr (s - 1) e) + 1 ≡ s
  slot-differs one d =
      let j =
      differ-first arr (set_entry arr (s - 1) e) (s - 1) low
      (λ i h. same_of (sym (entry_other arr (s - 1) e long low size i (omega arith) (λ z. omega arith))))
      (same_false (λ z. d (z ∙ entry-same arr (s - 1) e long low size))) in
      omega (arith, j)

  -- where they do not, neither does the array
  slot-stays : entry arr (s - 1) ≡ e → set_entry arr (s - 1) e ≡ arr
  unfolding set_entry entry
  slot-stays q =
      ext_get_or 0 _ _ (length-sets arr (128 * (s - 1)) e)
      (λ i h.
      side (128 * (s - 1)) (length e) i
      (λ out. get_d-out arr (128 * (s - 1)) e i out)
      (λ k b f.
      ap (λ (j : ℕ). get_or (sets arr (128 * (s - 1)) e) j 0) f ∙ get_d-in arr (128 * (s - 1)) e k (omega arith) b
      ∙ ap (λ (l : List ℕ). get_or l k 0) (sym q) ∙ get_d_part arr (128 * (s - 1)) 128 k (omega arith) ∙ sym (ap (λ (j : ℕ). get_or arr j 0) f)))

-- ---- between the stages of an update

-- what the check says after k stages of an update that gives slot s of an array the bytes e
pub record Between (old : List ℕ) (s : ℕ) (e : List ℕ) (says : ℕ → Answer Unit) : Type 0 where
  -- a slot of the back array is stored and not its sum, then both are, then a slot of the front array and not its sum, then all
  pub one : (crc (set_entry old (s - 1) e) ≡ crc old → ⊥) → says 1 ≡ refused (placed 6 place.Back)
  pub two : (entry old (s - 1) ≡ e → ⊥) → says 2 ≡ refused (placed 17 (place.InSlot (record { 0 = s })))
  pub three : (crc (set_entry old (s - 1) e) ≡ crc old → ⊥) → says 3 ≡ refused (placed 6 place.Front)
  pub four : (k : ℕ) → 4 ≤ k → says k ≡ accepted tt
  -- where other bytes have the same sum by accident, no header is behind its array
  pub one_alike : crc (set_entry old (s - 1) e) ≡ crc old → (entry old (s - 1) ≡ e → ⊥) → says 1 ≡ refused (placed 17 (place.InSlot (record { 0 = s })))
  pub three-alike : crc (set_entry old (s - 1) e) ≡ crc old → says 3 ≡ accepted tt
  -- where the slot has these bytes already the check accepts throughout
  pub stays : entry old (s - 1) ≡ e → (k : ℕ) → says k ≡ accepted tt

-- the same of answers that are equal one by one
pub between-as : {old : List ℕ} {s : ℕ} {e : List ℕ} {says seen : ℕ → Answer Unit} → ((k : ℕ) → seen k ≡ says k) → Between old s e says → Between old s e seen
between-as q b =
    record {
      one = λ d. q 1 ∙ b.one d;
      two = λ d. q 2 ∙ b.two d;
      three = λ d. q 3 ∙ b.three d;
      four = λ k h. q k ∙ b.four k h;
      one_alike = λ z d. q 1 ∙ b.one_alike z d;
      three-alike = λ z. q 3 ∙ b.three-alike z;
      stays = λ z k. q k ∙ b.stays z k;
    }

refuses : {w : Why} {m : ℕ} {p : Place} → w ≡ placed (suc m) p → ◌≡◌ {A = Answer Unit} (judged w tt) (refused (placed (suc m) p))
refuses {w} {m} {p} e = ap (λ (x : Why). judged x tt) e ∙ judged-some tt (placed (suc m) p) (λ z. omega arith)

module _ (B n : ℕ) (t : Tables) (whole : Whole B t) (small : AllBytes t) (few : n < 2 ^ 64) where
  module _ (s : ℕ) (e : List ℕ) (one : 1 ≤ s) (low : s - 1 < 128) (size : length e ≡ 128) (bytes : Small e) (good : Good B n t) (fresh : Entries B n (set_entry t.front.array (s - 1) e)) where
    abbrev old : List ℕ
    old = t.front.array

    abbrev new : List ℕ
    new = set_entry t.front.array (s - 1) e

    abbrev kept : List ℕ
    kept = guid_of t.front

    abbrev says : ℕ → Answer Unit
    says k = judged (check B n (after_stages B n (fixed B n t s e) k t)) tt

    room : Room B n
    room = room-ok B n good.room

    held : Held kept
    held = guid-held B n Front t.front (omega (arith, whole.front-header, (room-ok B n good.room).least)) small.front-header

    few_bytes : Small new
    few_bytes = small-entry old (s - 1) e whole.front-array low size small.front-array bytes

    -- the back header beside the old array, and lay's table of the new one
    back-old : (copy_check B n Back (head_of t.back) old).number ≡ 0
    back-old = ap (λ (a : List ℕ). (copy_check B n Back (head_of t.back) a).number) (sym good.arrays) ∙ good.back

    lay-new : (table_check B n Back (copy_of B n Back kept new)).number ≡ 0
    lay-new = copy-passes B n Back kept new room few held.held few_bytes

    lay-kept : kept ≡ guid_of (copy_of B n Back kept new)
    lay-kept = sym (lay-guid B n Back kept new held)

    -- tables after a stage, by what the check finds in them
    finds : (k : ℕ) {x : Tables} {m : ℕ} {p : Place} → after_stages B n (fixed B n t s e) k t ≡ x → check B n x ≡ placed (suc m) p → says k ≡ refused (placed (suc m) p)
    finds k q h = refuses (ap (λ (y : Tables). check B n y) q ∙ h)

    takes : (k : ℕ) {x : Tables} → after_stages B n (fixed B n t s e) k t ≡ x → Good B n x → says k ≡ accepted tt
    takes k q h = judged-none tt _ (ap (λ (y : Tables). (check B n y).number) q ∙ good-check h)

    -- the first slot that differs is the one that is updated
    slot_is : (entry old (s - 1) ≡ e → ⊥) → placed 17 (place.InSlot (record { 0 = differs old new + 1 })) ≡ placed 17 (place.InSlot (record { 0 = s }))
    slot_is d = ap (λ (i : ℕ). placed 17 (place.InSlot (record { 0 = i }))) (slot-differs old s e whole.front-array low size one d)

    -- other sums: the back header is behind after the first stage, the front one after the third
    one-sum : (crc new ≡ crc old → ⊥) → says 1 ≡ refused (placed 6 place.Back)
    one-sum d = finds 1 (after-1 B n t s e good) (at_back B n (with_array Back new t) good.room good.front 5 (copy-six B n Back (head_of t.back) old new d back-old))

    three-sum : (crc new ≡ crc old → ⊥) → says 3 ≡ refused (placed 6 place.Front)
    three-sum d = finds 3 (after-3 B n t s e good) (at_front B n _ good.room 5 (copy-six B n Front (head_of t.front) old new d good.front))

    -- other bytes: the back table is the new one after the second stage, and with equal sums after the first
    one-slot : crc new ≡ crc old → (entry old (s - 1) ≡ e → ⊥) → says 1 ≡ refused (placed 17 (place.InSlot (record { 0 = s })))
    unfolding guid_of
    one-slot q d =
        finds 1 (after-1 B n t s e good)
        (at_slot B n (with_array Back new t) good.room good.front (copy-alike B n Back (head_of t.back) old new q back-old) good.guids (slot-changes old s e whole.front-array low size d)
        ∙ slot_is d)

    two-slot : (entry old (s - 1) ≡ e → ⊥) → says 2 ≡ refused (placed 17 (place.InSlot (record { 0 = s })))
    unfolding copy_of
    two-slot d =
        finds 2 (after-2 B n t s e good)
        (at_slot B n (with_copy Back (copy_of B n Back kept new) t) good.room good.front lay-new lay-kept (slot-changes old s e whole.front-array low size d) ∙ slot_is d)

    -- equal sums: the front header is not behind after the third
    three-same : crc new ≡ crc old → says 3 ≡ accepted tt
    unfolding guid_of
    three-same q =
        takes 3 (after-3 B n t s e good)
        (record {
          room = good.room;
          front = copy-alike B n Front (head_of t.front) old new q good.front;
          back = lay-new;
          guids = lay-kept;
          arrays = copy-array B n Back kept new;
          entries = fresh;
        })

    all-four : (k : ℕ) → 4 ≤ k → says k ≡ accepted tt
    unfolding changed
    all-four zero h = absurd (omega arith)
    all-four (suc zero) h = absurd (omega arith)
    all-four (suc (suc zero)) h = absurd (omega arith)
    all-four (suc (suc (suc zero))) h = absurd (omega arith)
    all-four (suc (suc (suc (suc k)))) h = takes (suc (suc (suc (suc k)))) (after_more B n t s e k ∙ after-4 B n t s e good) (card-good B n kept new good.room few held.held few_bytes fresh)

    -- the same bytes
    one_kept : new ≡ old → says 1 ≡ accepted tt
    unfolding guid_of
    one_kept q =
        takes 1 (after-1 B n t s e good)
        (record {
          room = good.room;
          front = good.front;
          back = copy-alike B n Back (head_of t.back) old new (ap crc q) back-old;
          guids = good.guids;
          arrays = q;
          entries = good.entries;
        })

    two-kept : new ≡ old → says 2 ≡ accepted tt
    two-kept q =
        takes 2 (after-2 B n t s e good)
        (record {
          room = good.room;
          front = good.front;
          back = lay-new;
          guids = lay-kept;
          arrays = copy-array B n Back kept new ∙ q;
          entries = good.entries;
        })

    all-kept : new ≡ old → (k : ℕ) → says k ≡ accepted tt
    unfolding after_stages
    all-kept q zero = takes 0 refl good
    all-kept q (suc zero) = one_kept q
    all-kept q (suc (suc zero)) = two-kept q
    all-kept q (suc (suc (suc zero))) = three-same (ap crc q)
    all-kept q (suc (suc (suc (suc k)))) = all-four (suc (suc (suc (suc k)))) (omega arith)

    told : Between old s e says
    told =
        record {
          one = one-sum;
          two = two-slot;
          three = three-sum;
          four = all-four;
          one_alike = one-slot;
          three-alike = three-same;
          stays = λ q. all-kept (slot-stays old s e whole.front-array low size q);
        }

  pub put-checked : (s : ℕ) (e : List ℕ) (reserved : ℕ) → length e ≡ 128 → Small e → (put_check B n t s e reserved).number ≡ 0
      → Between t.front.array s e (λ (k : ℕ). judged (check B n (after_stages B n (fixed B n t s e) k t)) tt)
  put-checked s e reserved size bytes h =
      let o = put-ok B n t s e reserved h in
      told s e o.one o.slot size bytes (check-good B n t o.card) (put-fresh B n t whole small few s e reserved size h)

  pub clear-checked : (s : ℕ) → (slot_check B n t s).number ≡ 0
      → Between t.front.array s (zeros 128) (λ (k : ℕ). judged (check B n (after_stages B n (fixed B n t s (zeros 128)) k t)) tt)
  clear-checked s h =
      let o = clear-slot B n t s h in
      told s (zeros 128) o.0 o.1 (length-zeros 128) (small-zeros 128) (check-good B n t (clear-check B n t s h)) (clear-fresh B n t whole small few s h)

-- ---- between the stages of a repair

abbrev pub place_of : Side → Place
place_of Front = place.Front
place_of Back = place.Back

-- from the first stage to the last but one: 4 of the table that is written
module _ (B n : ℕ) (t : Tables) (whole : Whole B t) (small : AllBytes t) (h : (reader_check B n t).number ≡ 0) where
  pub repair-checked : (k : ℕ) → 1 ≤ k → k ≤ array_blocks B + 1
      → ◌≡◌ {A = Answer Unit} (judged (check B n (after_repair B n (repair_of B n t) k t)) tt) (refused (placed 4 (place_of (other (taken_side B n t)))))
  repair-checked zero a b = absurd (omega arith)
  repair-checked (suc j) a b = by (reads B n t h)
    where
      r : Room B n
      r = room-ok B n (reader-room B n t h)

      zeroed : (s : Side) (c : Copy) → c.header ≡ zeros B → (table_check B n s c).number ≡ 4
      zeroed s c z = zeroed-four B n s (head_of c) c.array (zeroed-head B c (omega (arith, (room-ok B n (reader-room B n t h)).least)) z)

      by : Reads B n t → ◌≡◌ {A = Answer Unit} (judged (check B n (after_repair B n (repair_of B n t) (suc j) t)) tt) (refused (placed 4 (place_of (other (taken_side B n t)))))
      by (first p) =
          rw p
          (refuses
          (ap (λ (x : Repair). check B n (after_repair B n x (suc j) t)) (repair-front-of B n t p)
          ∙ ap (λ (x : Tables). check B n x) (repair-mid B n r t whole small false j (omega arith))
          ∙ at_back B n _ (reader-room B n t h) (passes-zero B n Front t.front p) 3 (zeroed Back _ refl)))
      by (second p q) =
          rw p
          (refuses
          (ap (λ (x : Repair). check B n (after_repair B n x (suc j) t)) (repair-back-of B n t p)
          ∙ ap (λ (x : Tables). check B n x) (repair-mid B n r t whole small true j (omega arith))
          ∙ at_front B n _ (reader-room B n t h) 3 (zeroed Front _ refl)))
