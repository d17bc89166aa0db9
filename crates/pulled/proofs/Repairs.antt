-- Repair's stages on the tables: what they are after each, that the reader shows the same after each, and that the check accepts what a finished repair leaves.
-- No contract cites this file. Assumes nothing.
use mathlib.Core.Path.{◌≡◌, refl, sym, ap, ◌∙◌, subst}
use mathlib.Core.Bool.{Bool, true, false, not}
use mathlib.Core.List.{List, ◌∷◌, ◌++◌}
use Prim.Native.Nat.{ℕ, zero, suc, ◌+◌, ◌*◌, ◌-◌, ◌^◌, ◌≤◌, ◌<◌}
use native.Mathlib.Nat.{add-zero, zero-add, suc-add, add-mul, suc-mul, zero-mul, mul-le-mul_right}
use native.Mathlib.Omega.{arith}
use borrow.Author.Tests.{lt-ltb, le-ltb, eq-eqb, ne_eqb}
use lib.Dec.{eqb, ltb}
use lib.ListN.{length, take, replicate}
use lib.Seq.{sets, length-sets, take_at}
use Rattle.units.specs.Answer.{pick}
use Rattle.units.specs.Bytes.{part}
use Rattle.units.specs.Guids.{guid_at}
use Rattle.units.specs.Held.{Small}
use Rattle.units.proofs.Laws.{small-part}
use Rattle.units.specs.declared.Guid.{Guid}
use Rattle.units.proofs.Chains.{else-first, else-second}
use Rattle.units.proofs.Lists.{length_part, part_join, part-all, sets_then, sets-all}
use Rattle.crc32.specs.Crc.{crc}
use Rattle.tables.specs.Places.{array_blocks, first_usable_of}
use Rattle.tables.specs.Lens.{Side, Front, Back, Copy, Tables, side_of, other, copy_at, with_copy}
use Rattle.tables.specs.Entries.{zeros}
use Rattle.tables.specs.Headers.{head_block, copy_of}
use Rattle.tables.specs.Check.{room_check, head_of, guid_of, check}
use Rattle.tables.proofs.Orders.{split}
use Rattle.tables.proofs.Room.{Room}
use Rattle.tables.proofs.LensLaws.{Whole}
use Rattle.tables.proofs.EntryLaws.{length-zeros}
use Rattle.tables.proofs.HeaderLaws.{copy-passes}
use Rattle.tables.proofs.Good.{room-ok, good-check}
use Rattle.reader.specs.Reader.{passes, shown, reader_check, takes_back}
use Rattle.staged.specs.declared.Repair.{Repair}
use Rattle.staged.specs.Stages.{header_stage}
use Rattle.staged.specs.Repairs.{repair_from, repair_of, zero_stage, block_stage, repair_stage, after_repair}
use Rattle.pulled.proofs.Readers.{Held, AllBytes, small-sets, guid-held, passes-zero, passes-entries, lay-guid, lay-passes, lay-shows, zeroed-not, shown-front, shown-back}

-- an array's bytes fill whole blocks
pub blocks-whole : (B n : ℕ) → Room B n → array_blocks B * B ≡ 16384
unfolding first_usable_of
blocks-whole B n r =
    let f : (2 + array_blocks B) * B ≡ 2 * B + array_blocks B * B = add-mul 2 (array_blocks B) B in
    omega (arith, r.first)

pub zeros-split : (a b : ℕ) → zeros (a + b) ≡ zeros a ++ zeros b
unfolding zeros
zeros-split zero b = ap (λ (m : ℕ). replicate m 0) (zero-add b)
zeros-split (suc a) b = ap (λ (m : ℕ). replicate m 0) (suc-add a b) ∙ ap (λ (l : List ℕ). 0 ∷ l) (zeros-split a b)

-- the first bytes of a zeroed header's block
pub zeros-head : (B : ℕ) → 92 ≤ B → take 92 (zeros B) ≡ zeros 92
zeros-head B h =
    let e : B ≡ 92 + (B - 92) = omega arith in
    ap (λ (m : ℕ). take 92 (zeros m)) e ∙ ap (λ (l : List ℕ). take 92 l) (zeros-split 92 (B - 92)) ∙ take_at (zeros 92) (zeros (B - 92)) 92 (length-zeros 92)

zeros-eight : take 8 (zeros 92) ≡ zeros 8
unfolding zeros
zeros-eight = refl

pub zeroed-head : (B : ℕ) (c : Copy) → 92 ≤ B → c.header ≡ zeros B → take 8 (head_of c) ≡ zeros 8
zeroed-head B c h e = ap (λ (l : List ℕ). take 8 (take 92 l)) e ∙ ap (λ (l : List ℕ). take 8 l) (zeros-head B h) ∙ zeros-eight

pub zeroed : (B n : ℕ) (s : Side) (c : Copy) → 92 ≤ B → c.header ≡ zeros B → passes B n s c ≡ false
zeroed B n s c h e = zeroed-not B n s c (zeroed-head B c h e)

-- ---- one stage, on tables whose other table is c

module _ (B n : ℕ) (t : Tables) where
  block_with : (s : Side) (c : Copy) (j : ℕ)
      → block_stage B (other s) j (with_copy (other s) c t)
      ≡ with_copy (other s) (record { header = c.header; array = sets c.array (j * B) (part (copy_at s t).array (j * B) B) }) t
  unfolding block_stage
  block_with Front c j = refl
  block_with Back c j = refl

  header-with : (s : Side) (c : Copy) (g : Guid) (p : ℕ)
      → header_stage B n (other s) g p (with_copy (other s) c t) ≡ with_copy (other s) (record { header = head_block B n (other s) g p; array = c.array }) t
  unfolding header_stage
  header-with Front c g p = refl
  header-with Back c g p = refl

  zero-with : (s : Side) → zero_stage B (other s) t ≡ with_copy (other s) (record { header = zeros B; array = (copy_at (other s) t).array }) t
  unfolding zero_stage
  zero-with s = refl

-- lay's table by its parts: its header's block is that of its array's sum
copy_parts : (B n : ℕ) (s : Side) (g arr : List ℕ) → copy_of B n s g arr ≡ record { header = head_block B n s (guid_at g 0) (crc arr); array = arr }
unfolding copy_of
copy_parts B n s g arr = refl

-- ---- after each stage

module _ (B n : ℕ) (r : Room B n) (t : Tables) (w : Whole B t) (small : AllBytes t) (back : Bool) where
  -- the table that is read, the array of it and that of the table that is written
  abbrev good : Copy
  good = copy_at (side_of back) t

  abbrev from : List ℕ
  from = (copy_at (side_of back) t).array

  abbrev into : List ℕ
  into = (copy_at (other (side_of back)) t).array

  long : (s : Side) → length (copy_at s t).array ≡ 16384
  long Front = w.front-array
  long Back = w.back-array

  low : (s : Side) → Small (copy_at s t).array
  low Front = small.front-array
  low Back = small.back-array

  -- the header's block is zero and j blocks are copied
  pub repair-mid : (j : ℕ) → j ≤ array_blocks B
      → after_repair B n (repair_from B n t back) (suc j) t ≡ with_copy (other (side_of back)) (record { header = zeros B; array = sets into 0 (part from 0 (j * B)) }) t
  unfolding after_repair repair_stage
  repair-mid zero h =
      zero-with B n t (side_of back)
      ∙ ap (λ (m : ℕ). with_copy (other (side_of back)) (record { header = zeros B; array = sets into 0 (part from 0 m) }) t) (sym (zero-mul B))
  repair-mid (suc j) h =
      let a : ℕ = array_blocks B in
      let q : j < array_blocks B = omega arith in
      let m : suc j * B ≤ array_blocks B * B = mul-le-mul_right B (omega arith) in
      let e : suc j * B ≡ j * B + B = suc-mul j B in
      let e2 : j * B + B ≡ suc j * B = sym (suc-mul j B) in
      let f = long (side_of back) in
      let b = blocks-whole B n r in
      let lp : length (part from 0 (j * B)) ≡ j * B = length_part from 0 (j * B) (omega arith) in
      ap (λ (x : Tables). pick (ltb j a) (block_stage B (other (side_of back)) j x) (pick (eqb j a) (header_stage B n (other (side_of back)) (guid_at (guid_of good) 0) (crc from) x) x)) (repair-mid j (omega arith))
      ∙ rw (lt-ltb j a q)
      (block_with B n t (side_of back) (record { header = zeros B; array = sets into 0 (part from 0 (j * B)) }) j
      ∙ ap (λ (x : List ℕ). with_copy (other (side_of back)) (record { header = zeros B; array = x }) t)
      (sets_then into 0 (part from 0 (j * B)) (j * B) (part from (j * B) B) (omega arith)
      ∙ ap (λ (x : List ℕ). sets into 0 x) (part_join from 0 (j * B) (j * B) B (suc j * B) (omega arith) e2)))

  -- the whole array is copied
  copied : sets into 0 (part from 0 (array_blocks B * B)) ≡ from
  copied =
      ap (λ (m : ℕ). sets into 0 (part from 0 m)) (blocks-whole B n r)
      ∙ ap (λ (x : List ℕ). sets into 0 x) (part-all from 16384 (long (side_of back)))
      ∙ sets-all into from (long (other (side_of back)) ∙ sym (long (side_of back)))

  -- finished: the other table is lay's for its place
  pub repair-done : after_repair B n (repair_from B n t back) (suc (suc (array_blocks B))) t ≡ with_copy (other (side_of back)) (copy_of B n (other (side_of back)) (guid_of good) from) t
  unfolding after_repair repair_stage
  repair-done =
      let a : ℕ = array_blocks B in
      ap (λ (x : Tables). pick (ltb a a) (block_stage B (other (side_of back)) a x) (pick (eqb a a) (header_stage B n (other (side_of back)) (guid_at (guid_of good) 0) (crc from) x) x)) (repair-mid a (omega arith))
      ∙ rw (le-ltb a a (omega arith), eq-eqb a a refl)
      (header-with B n t (side_of back) (record { header = zeros B; array = sets into 0 (part from 0 (a * B)) }) (guid_at (guid_of good) 0) (crc from)
      ∙ ap (λ (x : List ℕ). with_copy (other (side_of back)) (record { header = head_block B n (other (side_of back)) (guid_at (guid_of good) 0) (crc from); array = x }) t) copied
      ∙ ap (λ (c : Copy). with_copy (other (side_of back)) c t) (sym (copy_parts B n (other (side_of back)) (guid_of good) from)))

  -- and nothing more happens
  idle : (j : ℕ) → array_blocks B < j → after_repair B n (repair_from B n t back) (suc (suc j)) t ≡ after_repair B n (repair_from B n t back) (suc j) t
  unfolding after_repair repair_stage
  idle j h = rw (le-ltb j (array_blocks B) (omega arith), ne_eqb j (array_blocks B) (λ e. omega arith))

  pub repair-more : (k : ℕ) → after_repair B n (repair_from B n t back) (suc (suc (array_blocks B + k))) t ≡ with_copy (other (side_of back)) (copy_of B n (other (side_of back)) (guid_of good) from) t
  repair-more zero = ap (λ (m : ℕ). after_repair B n (repair_from B n t back) (suc (suc m)) t) (add-zero (array_blocks B)) ∙ repair-done
  repair-more (suc k) =
      let z : array_blocks B + suc k ≡ suc (array_blocks B + k) = omega arith in
      ap (λ (m : ℕ). after_repair B n (repair_from B n t back) (suc (suc m)) t) z ∙ idle (suc (array_blocks B + k)) (omega arith) ∙ repair-more k

  -- what holds before, of the other table with a zeroed header, and of the finished one holds after any number of stages
  pub repair-all : (P : Tables → Type 0) → P t
      → ((c : Copy) → c.header ≡ zeros B → length c.array ≡ 16384 → Small c.array → P (with_copy (other (side_of back)) c t))
      → P (with_copy (other (side_of back)) (copy_of B n (other (side_of back)) (guid_of good) from) t)
      → (k : ℕ) → P (after_repair B n (repair_from B n t back) k t)
  unfolding after_repair
  repair-all P a b c zero = a
  repair-all P a b c (suc j) =
      split j (array_blocks B)
      (λ h.
      let m : j * B ≤ array_blocks B * B = mul-le-mul_right B h in
      let lp : length (part from 0 (j * B)) ≡ j * B = length_part from 0 (j * B) (omega (arith, blocks-whole B n r, long (side_of back))) in
      subst P (sym (repair-mid j h))
      (b _ refl (length-sets into 0 (part from 0 (j * B)) ∙ long (other (side_of back)))
      (small-sets into 0 (part from 0 (j * B)) (omega (arith, blocks-whole B n r, long (other (side_of back)))) (low (other (side_of back))) (small-part from 0 (j * B) (low (side_of back))))))
      (λ h.
      let z : j ≡ suc (array_blocks B + (j - array_blocks B - 1)) = omega arith in
      subst P (sym (ap (λ (m : ℕ). after_repair B n (repair_from B n t back) (suc m) t) z ∙ repair-more (j - array_blocks B - 1))) c)

-- ---- what the reader shows, and what the check says

module _ (B n : ℕ) (t : Tables) where
  pub repair-front-of : passes B n Front t.front ≡ true → repair_of B n t ≡ repair_from B n t false
  unfolding repair_of
  repair-front-of h = ap (λ (p : Bool). repair_from B n t (not p)) h

  pub repair-back-of : passes B n Front t.front ≡ false → repair_of B n t ≡ repair_from B n t true
  unfolding repair_of
  repair-back-of h = ap (λ (p : Bool). repair_from B n t (not p)) h

  -- where the reader accepts, one of the two passes
  pub data Reads : Type 0 where
    first : passes B n Front t.front ≡ true → Reads
    second : passes B n Front t.front ≡ false → passes B n Back t.back ≡ true → Reads

  pub reads : (reader_check B n t).number ≡ 0 → Reads
  unfolding reader_check
  reads h = by (passes B n Front t.front) (passes B n Back t.back) refl refl (else-second (room_check B n) _ h)
    where
      by : (p q : Bool) → passes B n Front t.front ≡ p → passes B n Back t.back ≡ q → ◌≡◌ {A = ℕ} (pick p 0 (pick q 0 27)) 0 → Reads
      by true q f k e = first f
      by false true f k e = second f k
      by false false f k e = absurd (omega arith)

  pub reader-room : (reader_check B n t).number ≡ 0 → (room_check B n).number ≡ 0
  unfolding reader_check
  reader-room h = else-first (room_check B n) _ h

  -- what a finished repair leaves: the good table as it was, and the other as lay would write it for the same GUID and array
  abbrev pub mended_by : Bool → Tables
  mended_by back = with_copy (other (side_of back)) (copy_of B n (other (side_of back)) (guid_of (copy_at (side_of back) t)) (copy_at (side_of back) t).array) t

  unfoldable pub repaired : Tables
  repaired = mended_by (takes_back B n t)

  module _ (whole : Whole B t) (small : AllBytes t) (few : n < 2 ^ 64) (h : (reader_check B n t).number ≡ 0) where
    r : Room B n
    r = room-ok B n (reader-room h)

    big : 92 ≤ B
    big = omega (arith, r.least)

    held-front : Held (guid_of t.front)
    held-front = guid-held B n Front t.front (omega (arith, whole.front-header, r.least)) small.front-header

    held_back : Held (guid_of t.back)
    held_back = guid-held B n Back t.back (omega (arith, whole.back-header, r.least)) small.back-header

    -- a cut between the stages never changes what the reader shows, and neither does a finished repair
    pub repair-shows : (k : ℕ) → shown B n (after_repair B n (repair_of B n t) k t) ≡ shown B n t
    repair-shows k = by (reads h)
      where
        by : Reads → shown B n (after_repair B n (repair_of B n t) k t) ≡ shown B n t
        by (first p) =
            let keep : (c : Copy) → shown B n (with_copy Back c t) ≡ shown B n t = λ c. shown-front B n (with_copy Back c t) p ∙ sym (shown-front B n t p) in
            ap (λ (x : Repair). shown B n (after_repair B n x k t)) (repair-front-of p)
            ∙ repair-all B n r t whole small false (λ (x : Tables). shown B n x ≡ shown B n t) refl (λ c _ _ _. keep c) (keep _) k
        by (second p q) =
            let g : List ℕ = guid_of t.back in
            ap (λ (x : Repair). shown B n (after_repair B n x k t)) (repair-back-of p)
            ∙ repair-all B n r t whole small true (λ (x : Tables). shown B n x ≡ shown B n t) refl
            (λ c z _ _. shown-back B n (with_copy Front c t) (zeroed B n Front c big z) q ∙ sym (shown-back B n t p q))
            (shown-front B n (with_copy Front (copy_of B n Front g t.back.array) t) (lay-passes B n Front g t.back.array held_back r few small.back-array (passes-entries B n Back t.back q))
            ∙ lay-shows B n Front g t.back.array held_back ∙ sym (shown-back B n t p q)) k

    -- from the last stage on
    pub repair-finished : (k : ℕ) → array_blocks B + 2 ≤ k → after_repair B n (repair_of B n t) k t ≡ repaired
    unfolding repaired repair_of
    repair-finished k o =
        let z : k ≡ suc (suc (array_blocks B + (k - array_blocks B - 2))) = omega arith in
        ap (λ (m : ℕ). after_repair B n (repair_of B n t) m t) z ∙ repair-more B n r t whole small (takes_back B n t) (k - array_blocks B - 2)

    -- the check accepts it
    pub repaired-good : (check B n repaired).number ≡ 0
    unfolding repaired copy_of
    repaired-good = by (reads h)
      where
        by : Reads → (check B n (mended_by (takes_back B n t))).number ≡ 0
        by (first p) =
            subst (λ (b : Bool). (check B n (mended_by (not b))).number ≡ 0) (sym p)
            (good-check
            (record {
              room = reader-room h;
              front = passes-zero B n Front t.front p;
              back = copy-passes B n Back (guid_of t.front) t.front.array r few held-front.held small.front-array;
              guids = sym (lay-guid B n Back (guid_of t.front) t.front.array held-front);
              arrays = refl;
              entries = passes-entries B n Front t.front p;
            }))
        by (second p q) =
            subst (λ (b : Bool). (check B n (mended_by (not b))).number ≡ 0) (sym p)
            (good-check
            (record {
              room = reader-room h;
              front = copy-passes B n Front (guid_of t.back) t.back.array r few held_back.held small.back-array;
              back = passes-zero B n Back t.back q;
              guids = lay-guid B n Front (guid_of t.back) t.back.array held_back;
              arrays = refl;
              entries = passes-entries B n Back t.back q;
            }))
