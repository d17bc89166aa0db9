-- The ways of the card check's code: what each of its answers has found is what the definition says there. No contract cites this file. Assumes nothing.
use mathlib.Core.Path.{◌≡◌, refl, sym, ap, ◌∙◌}
use mathlib.Core.Bool.{Bool, true, false, not, ◌&&◌}
use mathlib.Core.List.{List}
use Prim.Native.Nat.{ℕ, ◌+◌, ◌*◌, ◌-◌, ◌<◌}
use native.Mathlib.Omega.{arith}
use borrow.Author.Tests.{eq-eqb, ne_eqb, not-true, not-false}
use lib.Dec.{eqb, ltb, leb}
use lib.ListN.{drop}
use lib.Seq.{take-take}
use Rattle.units.specs.Places.{good_size}
use Rattle.units.proofs.Chains.{past, past-at, found, found_at, found-bare, Named, named-is, named-at, named-when, named-else, named-within, none-when, else-first, else-second, none, last}
use Rattle.units.specs.declared.Slot.{Slot}
use Rattle.units.specs.declared.Place.{Place}
use Rattle.units.specs.declared.Place.TheVariants as place
use Rattle.units.specs.declared.why.Why.{Why}
use Rattle.units.specs.declared.Refusal.TheVariants.{BadBlockSize, InvalidGptSignature, InvalidCRC32Checksum, PartsCrc, ToSmallForBackup, BackupLbaToEarly, WrongLayout, Disagree, BadSlot}
use Rattle.units.specs.Answer.{or_else, fine, plain, placed, within, when}
use Rattle.units.specs.Bytes.{part, num, same, all_zero}
use Rattle.units.proofs.Laws.{num-part}
use Rattle.crc32.specs.Crc.{crc}
use Rattle.crc32.specs.HeaderSum.{header_sum}
use Rattle.header.specs.declared.Header.{Header}
use Rattle.header.specs.Format.{signature, header_at}
use Rattle.header.proofs.Laws.{sum-part}
use Rattle.tables.specs.Checks.{all}
use Rattle.tables.specs.Places.{first_usable_of, last_usable_of, array_blocks, blocks}
use Rattle.tables.specs.Lens.{Tables, Side, Front, Back}
use Rattle.tables.specs.Entries.{entry, used, first_of, last_of, usable, ok_entry, all_ok, overlaps, all_apart, all_single, entries_ok}
use Rattle.tables.specs.Headers.{laid_fields}
use Rattle.tables.specs.Check.{room_check, copy_check, head_of, guid_of, differs, check, table_check, pair_check, slot_check, bad_slot}
use Rattle.tables.proofs.Orders.{by-test, triangle}
use Rattle.tables.proofs.EntryLaws.{entry-part, used-part, overlaps-comm, zero-front}
use Rattle.tables.proofs.ReadCheck.{mark-part, header-part}
use Rattle.tables.proofs.Dropped.{bare-room, bare-copy}

-- ---- the parts that the code reads

-- the blocks of an entry
pub first_part : (xs : List ℕ) (at : ℕ) → first_of (part xs at 128) ≡ num xs (at + 32) 8
unfolding first_of
first_part xs at = num-part xs at 128 32 8 (omega arith)

pub last-part : (xs : List ℕ) (at : ℕ) → last_of (part xs at 128) ≡ num xs (at + 40) 8
unfolding last_of
last-part xs at = num-part xs at 128 40 8 (omega arith)

-- ---- one entry

module _ {z : Bool} (xs : List ℕ) (at : ℕ) (e : z ≡ all_zero (part xs at 16)) where
  -- an unused entry passes exactly if all of it is zero
  pub ok-unused : (B n : ℕ) → z ≡ true → all_zero (part xs at 128) ≡ ok_entry B n (part xs at 128)
  unfolding ok_entry
  ok-unused B n t =
      let u : used (part xs at 128) ≡ false = used-part xs at ∙ ap not (sym e ∙ t) in
      by-test (all_zero (part xs at 128)) (λ a. rw a) (λ a. rw (a, u))

  -- a used one is never all zero, so it has to be inside
  pub ok-inside : (B n : ℕ) {f l first last : ℕ} → z ≡ false → f ≡ num xs (at + 32) 8 → l ≡ num xs (at + 40) 8 → first ≡ first_usable_of B → last ≡ last_usable_of B n
      → leb f l && (leb first f && leb l last) ≡ ok_entry B n (part xs at 128)
  unfolding ok_entry usable
  ok-inside B n t f l p q =
      let u : used (part xs at 128) ≡ true = used-part xs at ∙ ap not (sym e ∙ t) in
      let a : all_zero (part xs at 128) ≡ false = by-test (all_zero (part xs at 128)) (λ h. absurd (unlike (sym t ∙ e ∙ sym (ap all_zero (take-take 16 128 (drop at xs) (omega arith))) ∙ zero-front 16 (part xs at 128) h))) (λ h. h) in
      rw (a, u, first_part xs at ∙ sym f, last-part xs at ∙ sym l, ← p, ← q)
    where
      unlike : false ≡ true → ⊥
      unlike q = let o : ◌≡◌ {A = ℕ} 0 1 = cc in omega arith

  pub overlaps-nil : (d : List ℕ) → z ≡ true → false ≡ overlaps d (part xs at 128)
  unfolding overlaps
  overlaps-nil d t =
      let u : used (part xs at 128) ≡ false = used-part xs at ∙ ap not (sym e ∙ t) in
      by-test (used d) (λ a. rw (a, u)) (λ a. rw a)

  pub overlaps-used : (d : List ℕ) {f l first last : ℕ} → z ≡ false → f ≡ num xs (at + 32) 8 → l ≡ num xs (at + 40) 8
      → used d ≡ true → first ≡ first_of d → last ≡ last_of d → leb first l && leb f last ≡ overlaps d (part xs at 128)
  unfolding overlaps
  overlaps-used d t f l w p q =
      let u : used (part xs at 128) ≡ true = used-part xs at ∙ ap not (sym e ∙ t) in
      rw (w, u, first_part xs at ∙ sym f, last-part xs at ∙ sym l, ← p, ← q)

-- ---- all entries

-- an unused entry shares no block
pub overlaps-unused : (d e : List ℕ) → used d ≡ false → overlaps d e ≡ false
unfolding overlaps
overlaps-unused d e u = rw u

-- it is enough to look below each entry
pub square : (arr : List ℕ) → all 128 (λ (k : ℕ). all k (λ (j : ℕ). not (overlaps (entry arr k) (entry arr j)))) ≡ all_apart arr
square arr = triangle 128 (λ (j k : ℕ). overlaps (entry arr j) (entry arr k)) (λ j k. overlaps-comm (entry arr j) (entry arr k))

-- what is read of entry k, which is then compared with others
module _ (xs : List ℕ) (at k : ℕ) (h : k < 128) where
  pub own_first : {f : ℕ} → f ≡ num xs (at + 128 * k + 32) 8 → f ≡ first_of (entry (part xs at 16384) k)
  own_first e = e ∙ sym (ap first_of (entry-part xs at k h) ∙ first_part xs (at + 128 * k))

  pub own-last : {l : ℕ} → l ≡ num xs (at + 128 * k + 40) 8 → l ≡ last_of (entry (part xs at 16384) k)
  own-last e = e ∙ sym (ap last_of (entry-part xs at k h) ∙ last-part xs (at + 128 * k))

-- ---- 4, 5, 16, 6

-- by what a reader finds at the header's place
module _ (B n : ℕ) (s : Side) (xs : List ℕ) (at : ℕ) (arr : List ℕ) {q : Bool} (e : q ≡ same (part xs at 8) signature) where
  signed : q ≡ same (part (part xs at 92) 0 8) signature
  signed = e ∙ ap (λ (l : List ℕ). same l signature) (sym (mark-part xs at))

  pub copy-unsigned : not q ≡ true → 4 ≡ (copy_check B n s (part xs at 92) arr).number
  unfolding copy_check or_else
  copy-unsigned t = rw (← signed, t)

  module _ (t : not q ≡ false) {h : Header} (r : h ≡ header_at xs at) {x : ℕ} (u : x ≡ header_sum xs at) where
    read : h ≡ header_at (part xs at 92) 0
    read = r ∙ sym (header-part xs at)

    own : h.crc32 ≡ (header_at (part xs at 92) 0).crc32
    own = ap (λ (y : Header). y.crc32) read

    parts : h.crc32_parts ≡ (header_at (part xs at 92) 0).crc32_parts
    parts = ap (λ (y : Header). y.crc32_parts) read

    pub copy-other : (x ≡ h.crc32 → ⊥) → 5 ≡ (copy_check B n s (part xs at 92) arr).number
    unfolding copy_check or_else
    copy-other d = rw (← signed, t, ne_eqb (header_sum (part xs at 92) 0) (header_at (part xs at 92) 0).crc32 (λ z. d (u ∙ sum-part xs at ∙ z ∙ sym own)))

    module _ (v : x ≡ h.crc32) {f : Bool} (w : f ≡ laid_fields B n s h) where
      summed : eqb (header_sum (part xs at 92) 0) (header_at (part xs at 92) 0).crc32 ≡ true
      summed = eq-eqb (header_sum (part xs at 92) 0) (header_at (part xs at 92) 0).crc32 (sym (u ∙ sum-part xs at) ∙ v ∙ own)

      fields : f ≡ laid_fields B n s (header_at (part xs at 92) 0)
      fields = w ∙ ap (laid_fields B n s) read

      pub copy-wrong : not f ≡ true → 16 ≡ (copy_check B n s (part xs at 92) arr).number
      unfolding copy_check or_else
      copy-wrong d = rw (← signed, t, summed, ← fields, d)

      module _ (l : not f ≡ false) {sum : ℕ} (m : sum ≡ crc arr) where
        pub copy-array : (sum ≡ h.crc32_parts → ⊥) → 6 ≡ (copy_check B n s (part xs at 92) arr).number
        unfolding copy_check or_else
        copy-array d = rw (← signed, t, summed, ← fields, l, ne_eqb (crc arr) (header_at (part xs at 92) 0).crc32_parts (λ z. d (m ∙ z ∙ sym parts)))

        pub copy-right : sum ≡ h.crc32_parts → 0 ≡ (copy_check B n s (part xs at 92) arr).number
        unfolding copy_check or_else
        copy-right d = rw (← signed, t, summed, ← fields, l, eq-eqb (crc arr) (header_at (part xs at 92) 0).crc32_parts (sym m ∙ d ∙ parts))

-- ---- 17, and 16 of the entries

module _ (B n : ℕ) (arr : List ℕ) {a : Bool} (e : a ≡ all_ok B n arr) where
  pub entries-bad : not a ≡ true → false ≡ entries_ok B n arr
  unfolding entries_ok
  entries-bad t = rw (← e, not-true a t)

  module _ (t : not a ≡ false) {d : Bool} (f : d ≡ all_apart arr) where
    pub entries-meet : not d ≡ true → false ≡ entries_ok B n arr
    unfolding entries_ok
    entries-meet u = rw (← e, not-false a t, ← f, not-true d u)

    pub entries-single : {s : Bool} → not d ≡ false → s ≡ all_single arr → s ≡ entries_ok B n arr
    unfolding entries_ok
    entries-single u g = g ∙ rw (← e, not-false a t, ← f, not-false d u)

module _ (B n : ℕ) (g h x y : List ℕ) {q : Bool} (e : q ≡ same g h) where
  pub pair-guids : not q ≡ true → placed 17 place.DiskGuid ≡ pair_check B n g h x y
  unfolding pair_check or_else
  pair-guids t = rw (← e, t)

  module _ (t : not q ≡ false) {agree : Bool} (f : agree ≡ same x y) where
    pub pair-slot : {s : Slot} → not agree ≡ true → s ≡ record { 0 = differs x y + 1 } → placed 17 (place.InSlot s) ≡ pair_check B n g h x y
    unfolding pair_check or_else
    pair-slot u d = rw (← e, t, ← f, u, ← d)

    module _ (u : not agree ≡ false) {o : Bool} (w : o ≡ entries_ok B n x) where
      pub pair-entries : not o ≡ true → placed 16 place.Front ≡ pair_check B n g h x y
      unfolding pair_check or_else
      pair-entries v = rw (← e, t, ← f, u, ← w, v)

      pub pair-fine : not o ≡ false → fine ≡ pair_check B n g h x y
      unfolding pair_check or_else
      pair-fine v = rw (← e, t, ← f, u, ← w, v)

-- ---- the order of the parts

pub check-room : (B n : ℕ) (t : Tables) {k : ℕ} → k ≡ (room_check B n).number → (k ≡ 0 → ⊥) → plain k ≡ check B n t
unfolding check
check-room B n t e d = found-bare (room_check B n) _ (bare-room B n) e d

module _ (B n : ℕ) (t : Tables) (r : (room_check B n).number ≡ 0) {f : ℕ} (e : f ≡ (table_check B n Front t.front).number) where
  pub check-front : (f ≡ 0 → ⊥) → placed f place.Front ≡ check B n t
  unfolding check
  check-front d = past refl r (found_at place.Front (table_check B n Front t.front) _ (bare-copy B n Front (head_of t.front) t.front.array) e d)

  module _ {k : ℕ} (z : f ≡ 0) (g : k ≡ (table_check B n Back t.back).number) where
    pub check-back : (k ≡ 0 → ⊥) → placed k place.Back ≡ check B n t
    unfolding check
    check-back d =
        past refl r
        (past-at place.Front (table_check B n Front t.front) (sym e ∙ z)
        (found_at place.Back (table_check B n Back t.back) _ (bare-copy B n Back (head_of t.back) t.back.array) g d))

    pub check-pair : {m : Why} → k ≡ 0 → m ≡ pair_check B n (guid_of t.front) (guid_of t.back) t.front.array t.back.array → m ≡ check B n t
    unfolding check
    check-pair y q =
        past refl r
        (past-at place.Front (table_check B n Front t.front) (sym e ∙ z)
        (past-at place.Back (table_check B n Back t.back) (sym g ∙ y) q))

-- ---- 18 after the check

module _ (B n : ℕ) (t : Tables) (s : ℕ) {f : Why} (e : f ≡ check B n t) where
  pub slot-checked : (f.number ≡ 0 → ⊥) → f ≡ slot_check B n t s
  unfolding slot_check
  slot-checked d = found _ e d

  module _ (o : f.number ≡ 0) {z : Bool} (k : z ≡ bad_slot s) where
    pub slot-bad : z ≡ true → plain 18 ≡ slot_check B n t s
    unfolding slot_check
    slot-bad q = past e o (last _ (sym k ∙ q))

    pub slot-fine : z ≡ false → fine ≡ slot_check B n t s
    unfolding slot_check
    slot-fine q = past e o (none _ (sym k ∙ q))

pub slot-good : (B n : ℕ) (t : Tables) (s : ℕ) → (slot_check B n t s).number ≡ 0 → ((check B n t).number ≡ 0) × (bad_slot s ≡ false)
unfolding slot_check
slot-good B n t s h = (else-first (check B n t) _ h, none-when (bad_slot s) (plain 18) tt (else-second (check B n t) _ h))

-- ---- the check's refusal has a name

pub named-room : (B n : ℕ) → Named (room_check B n)
unfolding room_check
named-room B n =
    named-else (when (not (good_size B)) (plain 1)) _ (named-when (not (good_size B)) _ (named-is BadBlockSize))
    (named-else (when (ltb n (3 * B)) (plain 8)) _ (named-when (ltb n (3 * B)) _ (named-is ToSmallForBackup))
    (named-when (ltb (blocks B n - 1) (2 * array_blocks B + 3)) _ (named-is BackupLbaToEarly)))

named-copy : (B n : ℕ) (s : Side) (x arr : List ℕ) → Named (copy_check B n s x arr)
unfolding copy_check
named-copy B n s x arr =
    let signed : Bool = not (same (part x 0 8) signature) in
    let summed : Bool = not (eqb (header_sum x 0) (header_at x 0).crc32) in
    let laid : Bool = not (laid_fields B n s (header_at x 0)) in
    let array : Bool = not (eqb (crc arr) (header_at x 0).crc32_parts) in
    named-else (when signed (plain 4)) _ (named-when signed _ (named-is InvalidGptSignature))
    (named-else (when summed (plain 5)) _ (named-when summed _ (named-is InvalidCRC32Checksum))
    (named-else (when laid (plain 16)) _ (named-when laid _ (named-is WrongLayout)) (named-when array _ (named-is PartsCrc))))

named-pair : (B n : ℕ) (g h x y : List ℕ) → Named (pair_check B n g h x y)
unfolding pair_check
named-pair B n g h x y =
    let guids : Bool = not (same g h) in
    let arrays : Bool = not (same x y) in
    let slot : Place = place.InSlot (record { 0 = differs x y + 1 }) in
    named-else (when guids (placed 17 place.DiskGuid)) _ (named-when guids _ (named-at Disagree place.DiskGuid))
    (named-else (when arrays (placed 17 slot)) _ (named-when arrays _ (named-at Disagree slot))
    (named-when (not (entries_ok B n x)) _ (named-at WrongLayout place.Front)))

pub named-check : (B n : ℕ) (t : Tables) → Named (check B n t)
unfolding check
named-check B n t =
    named-else (room_check B n) _ (named-room B n)
    (named-else (within place.Front (table_check B n Front t.front)) _ (named-within place.Front _ (named-copy B n Front (head_of t.front) t.front.array))
    (named-else (within place.Back (table_check B n Back t.back)) _ (named-within place.Back _ (named-copy B n Back (head_of t.back) t.back.array))
    (named-pair B n (guid_of t.front) (guid_of t.back) t.front.array t.back.array)))

pub named-slot : (B n : ℕ) (t : Tables) (s : ℕ) → Named (slot_check B n t s)
unfolding slot_check
named-slot B n t s = named-else (check B n t) _ (named-check B n t) (named-when (bad_slot s) _ (named-is BadSlot))
