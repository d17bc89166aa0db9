-- The laws of the reader: a table that lay would write passes and shows its GUID and its array, a zeroed header does not pass, and what is then shown.
-- No contract cites this file. Assumes nothing.
use mathlib.Core.Path.{◌≡◌, refl, sym, ap, ◌∙◌, subst}
use mathlib.Core.Logic.{inl, inr}
use mathlib.Core.Bool.{Bool, true, false, not, ◌&&◌}
use mathlib.Core.List.{List, [], ◌∷◌}
use Prim.Native.Nat.{ℕ, zero, suc, ◌+◌, ◌*◌, ◌-◌, ◌^◌, ◌≤◌, ◌<◌}
use native.Mathlib.Nat.{pow-suc}
use native.Mathlib.Omega.{arith}
use borrow.Author.Tests.{eqb-true, eq-eqb, ne_eqb}
use lib.Dec.{eqb}
use lib.ListN.{length, take, get_or}
use lib.Seq.{sets, length-take-le}
use Rattle.units.specs.Answer.{pick}
use Rattle.units.specs.Bytes.{part, le, num, same}
use Rattle.units.specs.Guids.{guid_at, guid_bytes}
use Rattle.units.specs.Held.{Small, GuidHeld}
use Rattle.units.proofs.Chains.{here, number-of, else-none}
use Rattle.units.proofs.Lists.{length_part, part-all, get_d-in, get_d-out}
use Rattle.units.proofs.Laws.{small-part, small-eight}
use Rattle.units.proofs.GuidLaws.{guid-bytes-back}
use Rattle.header.specs.Format.{signature}
use Rattle.tables.specs.Places.{back_array, back_header}
use Rattle.tables.specs.Lens.{Side, Front, Back, Copy, Tables, tables_at}
use Rattle.tables.specs.Entries.{zeros, set_entry, entries_ok}
use Rattle.tables.specs.Headers.{copy_of}
use Rattle.tables.specs.Check.{room_check, copy_check, table_check, head_of, guid_of}
use Rattle.tables.proofs.Orders.{split, both, and_left, and_right}
use Rattle.tables.proofs.Room.{Room}
use Rattle.tables.proofs.EntryLaws.{Entries, entries-true, entries-of}
use Rattle.tables.proofs.HeaderLaws.{copy-guid, copy-array, copy-passes}
use Rattle.reader.specs.Reader.{passes, Shown, none, table, table_of, shown, reader_check}

-- ---- sixteen bytes are a GUID that the code can hold

le-fits : (n : ℕ) (l : List ℕ) → Small l → length l ≡ n → le l < 256 ^ n
unfolding le
le-fits zero [] s e = omega arith
le-fits zero (b ∷ l) s e = absurd (omega arith)
le-fits (suc n) [] s e = absurd (omega arith)
le-fits (suc n) (b ∷ l) s e =
    let z : b < 256 = s 0 in
    let r : le l < 256 ^ n = le-fits n l (λ k. s (suc k)) (omega arith) in
    let p : 256 ^ suc n ≡ 256 ^ n * 256 = pow-suc 256 n in
    omega arith

num-fits : (xs : List ℕ) (at n : ℕ) → Small xs → at + n ≤ length xs → num xs at n < 256 ^ n
unfolding num
num-fits xs at n s h = le-fits n (part xs at n) (small-part xs at n s) (length_part xs at n h)

-- what a header needs of a GUID's sixteen bytes
pub record Held (g : List ℕ) : Type 0 where
  pub held : GuidHeld (guid_at g 0)
  pub back : guid_bytes (guid_at g 0) ≡ g

pub held_of : (g : List ℕ) → length g ≡ 16 → Small g → Held g
held_of g l s =
    record {
      held = record {
        fields = record { low = num-fits g 0 4 s (omega arith); mid = num-fits g 4 2 s (omega arith); high = num-fits g 6 2 s (omega arith) };
        tail = small-eight (s 8) (s 9) (s 10) (s 11) (s 12) (s 13) (s 14) (s 15);
      };
      back = guid-bytes-back g 0 (omega arith) s ∙ part-all g 16 l;
    }

-- ---- bytes

-- bytes stored among bytes
pub small-sets : (xs : List ℕ) (at : ℕ) (vs : List ℕ) → at + length vs ≤ length xs → Small xs → Small vs → Small (sets xs at vs)
small-sets xs at vs l a b k =
    split at k
    (λ h.
    split (at + length vs) k
    (λ q. let z = get_d-out xs at vs k (inr q) in omega (arith, a k))
    (λ q.
    let j : k ≡ at + (k - at) = omega arith in
    let z : get_or (sets xs at vs) (at + (k - at)) 0 ≡ get_or vs (k - at) 0 = get_d-in xs at vs (k - at) l (omega arith) in
    let y : get_or (sets xs at vs) k 0 ≡ get_or (sets xs at vs) (at + (k - at)) 0 = ap (λ (i : ℕ). get_or (sets xs at vs) i 0) j in
    omega (arith, b (k - at))))
    (λ h. let z = get_d-out xs at vs k (inl h) in omega (arith, a k))

pub small-entry : (arr : List ℕ) (k : ℕ) (e : List ℕ) → length arr ≡ 16384 → k < 128 → length e ≡ 128 → Small arr → Small e → Small (set_entry arr k e)
unfolding set_entry
small-entry arr k e l h le a b = small-sets arr (128 * k) e (omega arith) a b

-- every byte of both tables is a byte
pub record AllBytes (t : Tables) : Type 0 where
  pub front-header : Small t.front.header
  pub front-array : Small t.front.array
  pub back-header : Small t.back.header
  pub back-array : Small t.back.array

pub bytes_of : (B n : ℕ) (xs : List ℕ) → Small xs → AllBytes (tables_at B n xs)
unfolding tables_at
bytes_of B n xs s =
    record {
      front-header = small-part xs B B s;
      front-array = small-part xs (B + B) 16384 s;
      back-header = small-part xs (back_header B n) B s;
      back-array = small-part xs (back_array B n) 16384 s;
    }

-- ---- one table

unsigned : same (zeros 8) signature ≡ false
unfolding zeros same
unsigned = refl

module _ (B n : ℕ) (s : Side) where
  pub passes-zero : (c : Copy) → passes B n s c ≡ true → (table_check B n s c).number ≡ 0
  unfolding passes
  passes-zero c h = eqb-true _ 0 (and_left _ _ h)

  pub passes-entries : (c : Copy) → passes B n s c ≡ true → Entries B n c.array
  unfolding passes
  passes-entries c h = entries-true B n c.array (and_right (eqb (table_check B n s c).number 0) _ h)

  pub zero-passes : (c : Copy) → (table_check B n s c).number ≡ 0 → Entries B n c.array → passes B n s c ≡ true
  unfolding passes
  zero-passes c h e = both (eq-eqb _ 0 h) (entries-of B n c.array e)

  pub guid-held : (c : Copy) → 92 ≤ length c.header → Small c.header → Held (guid_of c)
  unfolding guid_of
  guid-held c l b =
      let q : length (head_of c) ≡ 92 = length-take-le 92 c.header l in
      held_of (part (head_of c) 56 16) (length_part (head_of c) 56 16 (omega arith)) (small-part (head_of c) 56 16 (small-part c.header 0 92 b))

  -- lay's own table
  module _ (g arr : List ℕ) (k : Held g) where
    pub lay-guid : guid_of (copy_of B n s g arr) ≡ g
    lay-guid = copy-guid B n s g arr ∙ k.back

    pub lay-shows : table_of (copy_of B n s g arr) ≡ table g arr
    unfolding copy_of
    lay-shows = ap (λ (x : List ℕ). table x arr) lay-guid

    pub lay-passes : Room B n → n < 2 ^ 64 → Small arr → Entries B n arr → passes B n s (copy_of B n s g arr) ≡ true
    lay-passes r l b e =
        zero-passes (copy_of B n s g arr) (copy-passes B n s g arr r l k.held b) (subst (Entries B n) (sym (copy-array B n s g arr)) e)

  -- a header's block of zeros is no header: 4
  pub zeroed-four : (x arr : List ℕ) → take 8 x ≡ zeros 8 → (copy_check B n s x arr).number ≡ 4
  unfolding copy_check
  zeroed-four x arr e =
      let d : same (part x 0 8) signature ≡ false = ap (λ (y : List ℕ). same y signature) e ∙ unsigned in
      sym (number-of (here _ refl (ap not d)))

  pub zeroed-not : (c : Copy) → take 8 (head_of c) ≡ zeros 8 → passes B n s c ≡ false
  unfolding passes
  zeroed-not c e =
      let z : (copy_check B n s (head_of c) c.array).number ≡ 4 = zeroed-four (head_of c) c.array e in
      ap (λ (b : Bool). b && entries_ok B n c.array) (ne_eqb (table_check B n s c).number 0 (λ y. omega (arith, z)))

-- ---- what is shown

module _ (B n : ℕ) (t : Tables) where
  pub shown-front : passes B n Front t.front ≡ true → shown B n t ≡ table_of t.front
  unfolding shown
  shown-front h = rw h

  pub shown-back : passes B n Front t.front ≡ false → passes B n Back t.back ≡ true → shown B n t ≡ table_of t.back
  unfolding shown
  shown-back h k = rw (h, k)

  -- the reader accepts where it shows a table
  pub reads-shown : (g arr : List ℕ) → (room_check B n).number ≡ 0 → shown B n t ≡ table g arr → (reader_check B n t).number ≡ 0
  unfolding shown reader_check
  reads-shown g arr r h = else-none _ _ r (by (passes B n Front t.front) (passes B n Back t.back) (table_of t.front) (table_of t.back) h)
    where
      by : (p q : Bool) (x y : Shown) → pick p x (pick q y none) ≡ table g arr → ◌≡◌ {A = ℕ} (pick p 0 (pick q 0 27)) 0
      by true q x y e = refl
      by false true x y e = refl
      by false false x y e = let z : ◌≡◌ {A = ℕ} 0 1 = cc in absurd (omega arith)
