-- The ways out of the reader's functions, one law for each: what the tests told, and what the definitions then give. No contract cites this file. Assumes nothing.
use mathlib.Core.Path.{◌≡◌, refl, sym, ap, ◌∙◌}
use mathlib.Core.Bool.{Bool, true, false, not}
use mathlib.Core.List.{List, [], ◌∷◌}
use Prim.Native.Nat.{ℕ, zero, suc, ◌+◌, ◌*◌, ◌-◌, ◌≤◌}
use native.Mathlib.Omega.{arith}
use borrow.Author.Tests.{eq-eqb, ne_eqb, le-leb}
use lib.ListN.{length, take, drop}
use Rattle.units.specs.declared.why.Why.{Why}
use Rattle.units.specs.declared.Refusal.{Refusal}
use Rattle.units.specs.Answer.{accepted, refused, plain, pick, when, or_else, if_zero, judged}
use Rattle.units.specs.Bytes.{part, all_zero}
use Rattle.units.specs.Places.{inside, inside_or_empty}
use Rattle.units.specs.declared.Refusal.TheVariants.{NoGoodCopy}
use Rattle.units.specs.declared.Place.{Place}
use Rattle.units.specs.Refusals.{why, number, slot_in, refusal_of, reason_of, refused_by}
use Rattle.units.proofs.Lists.{lent-part}
use Rattle.units.proofs.Chains.{found, past, judged-none, judged-some, Bare, bare-else, Named, named-is, named-else}
use Rattle.partition.specs.Format.{entry_at}
use Rattle.partition.specs.Array.{Found, entry_place, present_from}
use Rattle.tables.specs.Lens.{Side, Front, Back, Copy, Tables, side_of, copy_at, tables_at, tables}
use Rattle.tables.specs.Entries.{entries_ok}
use Rattle.tables.specs.Check.{room_check, table_check, bad_slot}
use Rattle.tables.proofs.Good.{slot_ok}
use Rattle.tables.proofs.Dropped.{bare-room}
use Rattle.checking.proofs.CheckWays.{named-room}
use Rattle.reader.specs.Reader.{passes, chosen_number, reader_check, takes_back, taken_array, array_byte_place, reader_next, reader_slot_check, held_in, reader_slot}

-- ---- one table

module _ (B n : ℕ) (s : Side) (c : Copy) {f : ℕ} (e : f ≡ (table_check B n s c).number) where
  pub passes-not : (f ≡ 0 → ⊥) → false ≡ passes B n s c
  unfolding passes
  passes-not d = rw (ne_eqb (table_check B n s c).number 0 (λ z. d (e ∙ z)))

  pub passes-by : {r : Bool} → f ≡ 0 → r ≡ entries_ok B n c.array → r ≡ passes B n s c
  unfolding passes
  passes-by z q = rw (eq-eqb (table_check B n s c).number 0 (sym e ∙ z)) q

-- ---- which of two

module _ (B n : ℕ) (t : Tables) {p : Bool} (e : p ≡ passes B n Front t.front) where
  pub takes_front : p ≡ true → (0 ≡ chosen_number B n t) × (false ≡ takes_back B n t)
  takes_front h = let k : passes B n Front t.front ≡ true = sym e ∙ h in (rw k, rw k)

  module _ {q : Bool} (f : q ≡ passes B n Back t.back) (h : p ≡ false) where
    pub takes-back : q ≡ true → (0 ≡ chosen_number B n t) × (true ≡ takes_back B n t)
    takes-back g =
        let k : passes B n Front t.front ≡ false = sym e ∙ h in
        let l : passes B n Back t.back ≡ true = sym f ∙ g in
        (rw (k, l), rw k)

    pub takes_none : q ≡ false → (27 ≡ chosen_number B n t) × (true ≡ takes_back B n t)
    takes_none g =
        let k : passes B n Front t.front ≡ false = sym e ∙ h in
        let l : passes B n Back t.back ≡ false = sym f ∙ g in
        (rw (k, l), rw k)

-- ---- a refusal by its number, which names neither slot nor place, and then by its name

pub why-by : (w : Why) → Bare w → Named w → {f : ℕ} {r : Refusal} → f ≡ w.number → (f ≡ 0 → ⊥) → r ≡ refusal_of (plain f) → why r ≡ w
unfolding reason_of
why-by w b k {f} e d q =
    ap why q
    ∙ ap (λ (i : ℕ). why (refusal_of (plain i))) e
    ∙ ap (λ (x : Why). why (refusal_of x)) (sym b.bare)
    ∙ ap (λ (p : Place). record { number = number (refusal_of w); slot = record { 0 = slot_in (refusal_of w) }; place = p }) (sym (ap (λ (x : Why). x.place) b.bare))
    ∙ k.name (λ z. d (e ∙ z))

-- ---- after the room

module _ (B n : ℕ) (t : Tables) where
  pub no_room : {f : ℕ} → f ≡ (room_check B n).number → (f ≡ 0 → ⊥) → f ≡ (reader_check B n t).number
  unfolding reader_check or_else
  no_room {f} e d = e ∙ by (room_check B n).number (λ z. d (e ∙ z))
    where
      by : (k : ℕ) → (k ≡ 0 → ⊥) → (room_check B n).number ≡ (if_zero k (plain (chosen_number B n t)) (room_check B n)).number
      by zero x = absurd (x refl)
      by (suc k) x = refl

  pub with-room : {f : ℕ} → (room_check B n).number ≡ 0 → f ≡ chosen_number B n t → f ≡ (reader_check B n t).number
  unfolding reader_check or_else
  with-room r e = rw r e

  -- where the reader accepts there is room
  pub read-room : (reader_check B n t).number ≡ 0 → (room_check B n).number ≡ 0
  unfolding reader_check or_else
  read-room h = by (room_check B n).number refl h
    where
      by : (k : ℕ) → (room_check B n).number ≡ k → (if_zero k (plain (chosen_number B n t)) (room_check B n)).number ≡ 0 → (room_check B n).number ≡ 0
      by zero e q = e
      by (suc k) e q = q

  -- what it refuses by has a name, and names neither slot nor place
  named-choice : Named (plain (chosen_number B n t))
  named-choice = by (passes B n Front t.front) (passes B n Back t.back)
    where
      by : (p q : Bool) → Named (plain (pick p 0 (pick q 0 27)))
      by true q = record { name = λ d. absurd (d refl) }
      by false true = record { name = λ d. absurd (d refl) }
      by false false = named-is NoGoodCopy

  pub named-reader : Named (reader_check B n t)
  unfolding reader_check
  named-reader = named-else (room_check B n) _ (named-room B n) named-choice

  pub bare-reader : Bare (reader_check B n t)
  unfolding reader_check
  bare-reader = bare-else (room_check B n) _ (bare-room B n) (record { bare = refl })

  pub reader-why : {f : ℕ} {r : Refusal} → f ≡ (reader_check B n t).number → (f ≡ 0 → ⊥) → r ≡ refusal_of (plain f) → why r ≡ reader_check B n t
  reader-why e d q = why-by (reader_check B n t) bare-reader named-reader e d q

-- ---- the array that is read

-- where it starts, and that it is the table's
module _ (B : ℕ) (xs : List ℕ) where
  array-is : (s : Side) {at : ℕ} → at ≡ array_byte_place B (length xs) s → part xs at 16384 ≡ (copy_at s (tables B xs)).array
  unfolding tables_at
  array-is Front e = ap (λ (j : ℕ). part xs j 16384) e
  array-is Back e = ap (λ (j : ℕ). part xs j 16384) e

  -- once the reader has chosen
  module _ {back : Bool} {at : ℕ} (q : back ≡ takes_back B (length xs) (tables B xs)) (e : at ≡ array_byte_place B (length xs) (side_of back)) where
    pub taken-array : part xs at 16384 ≡ taken_array B (length xs) (tables B xs)
    taken-array = array-is (side_of back) e ∙ ap (λ (b : Bool). (copy_at (side_of b) (tables B xs)).array) q

    -- as the code lends it
    pub lent-array : take (at + 16384 - at) (drop at xs) ≡ taken_array B (length xs) (tables B xs)
    lent-array = lent-part xs at 16384 ∙ taken-array

-- its 128 entries lie where it lies, and fill it
pub array-inside : (m at : ℕ) → at + 16384 ≤ m → inside_or_empty m at (128 * 128) ≡ true
unfolding inside_or_empty inside
array-inside m at h = rw (le-leb (at + 128 * 128) m h)

pub whole-array : (m : ℕ) → m ≡ 16384 → inside_or_empty m 0 (128 * 128) ≡ true
whole-array m l = array-inside m 0 (omega arith)

-- a slot's place in an array
pub slot-place : {k at : ℕ} (s : ℕ) → bad_slot s ≡ false → k ≡ s - 1 → at ≡ 0 + 128 * k → (at + 128 ≤ 16384) × (at ≡ entry_place 0 (s - 1))
slot-place s h e f = let r = slot_ok s h in (omega (arith, r.1), omega arith)

pub held-read : (arr : List ℕ) (s : ℕ) {at : ℕ} {g : Found} → at ≡ entry_place 0 (s - 1) → g ≡ record { present = not (all_zero (part arr at 128)); partition = entry_at arr at } → g ≡ held_in arr s
held-read arr s e q = rw (q, e)

-- ---- the calls

module _ (B : ℕ) (xs : List ℕ) {f : ℕ} (e : f ≡ (reader_check B (length xs) (tables B xs)).number) where
  -- refused
  pub refuses : {A : Type 0} (v : A) {r : Refusal} → (f ≡ 0 → ⊥) → r ≡ refusal_of (plain f) → refused_by r ≡ judged (reader_check B (length xs) (tables B xs)) v
  refuses v d q =
      ap refused (reader-why B (length xs) (tables B xs) e d q) ∙ sym (judged-some v (reader_check B (length xs) (tables B xs)) (λ z. d (e ∙ z)))

  slot-refuses : (s : ℕ) → (f ≡ 0 → ⊥) → reader_slot_check B (length xs) (tables B xs) s ≡ reader_check B (length xs) (tables B xs)
  unfolding reader_slot_check
  slot-refuses s d = sym (found _ refl (λ z. d (e ∙ z)))

  pub read-refused : (s : ℕ) {r : Refusal} → (f ≡ 0 → ⊥) → r ≡ refusal_of (plain f) → refused_by r ≡ reader_slot B xs s
  read-refused s d q =
      ap refused (reader-why B (length xs) (tables B xs) e d q)
      ∙ sym (ap (λ (w : Why). judged w (held_in (taken_array B (length xs) (tables B xs)) s)) (slot-refuses s d) ∙ judged-some _ (reader_check B (length xs) (tables B xs)) (λ z. d (e ∙ z)))

  -- accepted
  module _ (z : f ≡ 0) where
    pub accepts : {A : Type 0} {v w : A} → w ≡ v → accepted w ≡ judged (reader_check B (length xs) (tables B xs)) v
    accepts {A} {v} q = ap accepted q ∙ sym (judged-none v (reader_check B (length xs) (tables B xs)) (sym e ∙ z))

    pub room : (room_check B (length xs)).number ≡ 0
    room = read-room B (length xs) (tables B xs) (sym e ∙ z)

    pub next-given : (after : ℕ) {l arr : List ℕ} → arr ≡ taken_array B (length xs) (tables B xs) → l ≡ take 1 (present_from arr 0 after (128 - after)) → accepted l ≡ reader_next B xs after
    next-given after {l} {arr} e q = accepts (q ∙ ap (λ (a : List ℕ). take 1 (present_from a 0 after (128 - after))) e)

    slot-passed : (s : ℕ) → reader_slot_check B (length xs) (tables B xs) s ≡ when (bad_slot s) (plain 18)
    unfolding reader_slot_check
    slot-passed s = sym (past {f = reader_check B (length xs) (tables B xs)} refl (sym e ∙ z) refl)

    pub read-bad : (s : ℕ) {t : Bool} → t ≡ bad_slot s → t ≡ true → refused (plain 18) ≡ reader_slot B xs s
    unfolding judged
    read-bad s q t =
        let k : bad_slot s ≡ true = sym q ∙ t in
        sym (ap (λ (w : Why). judged w (held_in (taken_array B (length xs) (tables B xs)) s)) (slot-passed s ∙ ap (λ (b : Bool). when b (plain 18)) k))

    pub read-given : (s : ℕ) {t : Bool} {arr : List ℕ} {g : Found} → t ≡ bad_slot s → t ≡ false → arr ≡ taken_array B (length xs) (tables B xs) → g ≡ held_in arr s → accepted g ≡ reader_slot B xs s
    unfolding judged
    read-given s {t} {arr} q h l v =
        let k : bad_slot s ≡ false = sym q ∙ h in
        ap accepted (v ∙ ap (λ (a : List ℕ). held_in a s) l)
        ∙ sym (ap (λ (w : Why). judged w (held_in (taken_array B (length xs) (tables B xs)) s)) (slot-passed s ∙ ap (λ (b : Bool). when b (plain 18)) k))
