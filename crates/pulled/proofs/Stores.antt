-- Each stage is one store, inside one block, and is the update of one part of one table; any number of stores are the tables' stages put into the image.
-- No contract cites this file. Assumes nothing.
use mathlib.Core.Path.{◌≡◌, refl, sym, ap, ◌∙◌, subst}
use mathlib.Core.Logic.{◌⊎◌, inl, inr}
use mathlib.Core.List.{List}
use Prim.Native.Nat.{ℕ, zero, suc, ◌+◌, ◌*◌, ◌-◌, ◌/◌, ◌≤◌, ◌<◌}
use native.Mathlib.Nat.{add-mul, suc-mul, mul-le-mul_right}
use native.Mathlib.Omega.{arith}
use borrow.Author.Tests.{ltb-true}
use lib.Dec.{eqb, ltb}
use lib.ListN.{length, get_or}
use lib.Seq.{sets, length-sets, ext_get_or}
use Rattle.units.specs.Bytes.{part}
use Rattle.units.proofs.Lists.{length_part, get_d_part, get_d-in, get_d-out, part-part, part_out, part_same}
use Rattle.units.proofs.Laws.{good-size}
use Rattle.tables.specs.Places.{array_blocks, back_array, back_header}
use Rattle.tables.specs.Lens.{Side, Front, Back, Tables, tables_at, with_tables_at, OutsideTables, other, copy_at, with_array, with_header}
use Rattle.tables.specs.Entries.{zeros, set_entry}
use Rattle.tables.specs.Headers.{own_block, array_start, head_block}
use Rattle.tables.proofs.Orders.{Outside, side, by-test, by-pick}
use Rattle.tables.proofs.Room.{Room}
use Rattle.tables.proofs.LensLaws.{Whole, tables-eq, whole-tables, get-put, length-with}
use Rattle.tables.proofs.EntryLaws.{length-zeros}
use Rattle.tables.proofs.HeaderLaws.{block-long}
use Rattle.staged.specs.declared.Update.{Update}
use Rattle.staged.specs.declared.Repair.{Repair}
use Rattle.staged.specs.Stages.{slot_stage, header_stage, stage, after_stages}
use Rattle.staged.specs.Repairs.{mended, zero_stage, block_stage, repair_stage, after_repair}
use Rattle.reader.specs.Reader.{array_byte_place}
use Rattle.staged.specs.Stores.{header_place, slot_store, header_store, stage_store, stored, slot_block, stage_block, zero_store, block_store, repair_store, repair_stored, repair_block}
use Rattle.pulled.proofs.Images.{is-with, put-get, put-put}
use Rattle.pulled.proofs.Repairs.{blocks-whole}

-- the places of a side, by its blocks
side-place : (B n : ℕ) (s : Side) → Room B n → own_block B n s * B ≡ header_place B n s
unfolding back_header
side-place B n Front r = omega arith
side-place B n Back r = refl

array-place : (B n : ℕ) (s : Side) → Room B n → (array_start B n s * B ≡ array_byte_place B n s) × (array_byte_place B n s + 16384 + B ≤ n)
array-place B n Front r = (omega arith, omega (arith, r.low, r.seam, r.top))
array-place B n Back r = (r.last, omega (arith, r.seam, r.top))

-- a store inside a part
pub part-store : (xs : List ℕ) (a m o : ℕ) (e : List ℕ) → a + m ≤ length xs → o + length e ≤ m → part (sets xs (a + o) e) a m ≡ sets (part xs a m) o e
part-store xs a m o e h q =
    let l : length (sets xs (a + o) e) ≡ length xs = length-sets xs (a + o) e in
    let lm : length (part xs a m) ≡ m = length_part xs a m h in
    let l1 : length (part (sets xs (a + o) e) a m) ≡ m = length_part (sets xs (a + o) e) a m (omega arith) in
    let l2 : length (sets (part xs a m) o e) ≡ m = length-sets (part xs a m) o e ∙ lm in
    ext_get_or 0 _ _ (l1 ∙ sym l2)
    (λ i b.
    get_d_part (sets xs (a + o) e) a m i (omega arith)
    ∙ side o (length e) i
    (λ out. get_d-out xs (a + o) e (a + i) (shift out) ∙ sym (get_d-out (part xs a m) o e i out ∙ get_d_part xs a m i (omega arith)))
    (λ k c f.
    let z : a + i ≡ a + o + k = omega arith in
    ap (λ (j : ℕ). get_or (sets xs (a + o) e) j 0) z ∙ get_d-in xs (a + o) e k (omega arith) c
    ∙ sym (ap (λ (j : ℕ). get_or (sets (part xs a m) o e) j 0) f ∙ get_d-in (part xs a m) o e k (omega arith) c)))
  where
    shift : {i : ℕ} → Outside o (length e) i → Outside (a + o) (length e) (a + i)
    shift (inl x) = inl (omega arith)
    shift (inr x) = inr (omega arith)

-- ---- one store is one part of one table

module _ (B n : ℕ) (r : Room B n) (xs : List ℕ) (l : length xs ≡ n) where
  abbrev t : Tables
  t = tables_at B n xs

  out : (at : ℕ) (ys : List ℕ) (a m : ℕ) → (a + m ≤ at) ⊎ (at + length ys ≤ a) → part (sets xs at ys) a m ≡ part xs a m
  out at ys a m o = part_out xs at ys a m o

  w : Whole B t
  w = whole-tables B n r xs l

  -- in the front table, or in the back one: no byte beside them
  front-only : (at : ℕ) (ys : List ℕ) → B ≤ at → at + length ys ≤ B + B + 16384
      → (k : ℕ) → OutsideTables B n k → get_or (sets xs at ys) k 0 ≡ get_or xs k 0
  front-only at ys a b k (inl o, p) = get_d-out xs at ys k (inl (omega arith))
  front-only at ys a b k (inr o, p) = get_d-out xs at ys k (inr (omega arith))

  back-only : (at : ℕ) (ys : List ℕ) → back_array B n ≤ at → at + length ys ≤ back_header B n + B
      → (k : ℕ) → OutsideTables B n k → get_or (sets xs at ys) k 0 ≡ get_or xs k 0
  back-only at ys a b k (o, inl p) = get_d-out xs at ys k (inl (omega arith))
  back-only at ys a b k (o, inr p) = get_d-out xs at ys k (inr (omega arith))

  pub header-stored : (s : Side) (h : List ℕ) → length h ≡ B → sets xs (header_place B n s) h ≡ with_tables_at B n xs (with_header s h t)
  unfolding tables_at
  header-stored Front h lh =
      is-with B n r xs (sets xs B h) _ l
      (record { front-header = lh; front-array = w.front-array; back-header = w.back-header; back-array = w.back-array })
      (length-sets xs B h ∙ l)
      (tables-eq
      (subst (λ (m : ℕ). part (sets xs B h) B m ≡ h) lh (part_same xs B h (omega (arith, r.enough))))
      (out B h (B + B) 16384 (inr (omega arith)))
      (out B h (back_header B n) B (inr (omega (arith, r.low, r.seam))))
      (out B h (back_array B n) 16384 (inr (omega (arith, r.low)))))
      (front-only B h (omega arith) (omega arith))
  header-stored Back h lh =
      is-with B n r xs (sets xs (back_header B n) h) _ l
      (record { front-header = w.front-header; front-array = w.front-array; back-header = lh; back-array = w.back-array })
      (length-sets xs (back_header B n) h ∙ l)
      (tables-eq
      (out (back_header B n) h B B (inl (omega (arith, r.low, r.seam))))
      (out (back_header B n) h (B + B) 16384 (inl (omega (arith, r.low, r.seam))))
      (subst (λ (m : ℕ). part (sets xs (back_header B n) h) (back_header B n) m ≡ h) lh (part_same xs (back_header B n) h (omega (arith, r.top))))
      (out (back_header B n) h (back_array B n) 16384 (inl (omega (arith, r.seam)))))
      (back-only (back_header B n) h (omega (arith, r.seam)) (omega arith))

  pub array-stored : (s : Side) (o : ℕ) (e : List ℕ) → o + length e ≤ 16384
      → sets xs (array_byte_place B n s + o) e ≡ with_tables_at B n xs (with_array s (sets (copy_at s t).array o e) t)
  unfolding tables_at
  array-stored Front o e h =
      is-with B n r xs (sets xs (B + B + o) e) _ l
      (record { front-header = w.front-header; front-array = length-sets _ o e ∙ w.front-array; back-header = w.back-header; back-array = w.back-array })
      (length-sets xs (B + B + o) e ∙ l)
      (tables-eq
      (out (B + B + o) e B B (inl (omega arith)))
      (part-store xs (B + B) 16384 o e (omega (arith, r.low, r.seam, r.top)) h)
      (out (B + B + o) e (back_header B n) B (inr (omega (arith, r.low, r.seam))))
      (out (B + B + o) e (back_array B n) 16384 (inr (omega (arith, r.low)))))
      (front-only (B + B + o) e (omega arith) (omega arith))
  array-stored Back o e h =
      is-with B n r xs (sets xs (back_array B n + o) e) _ l
      (record { front-header = w.front-header; front-array = w.front-array; back-header = w.back-header; back-array = length-sets _ o e ∙ w.back-array })
      (length-sets xs (back_array B n + o) e ∙ l)
      (tables-eq
      (out (back_array B n + o) e B B (inl (omega (arith, r.low))))
      (out (back_array B n + o) e (B + B) 16384 (inl (omega (arith, r.low))))
      (out (back_array B n + o) e (back_header B n) B (inr (omega (arith, r.seam))))
      (part-store xs (back_array B n) 16384 o e (omega (arith, r.seam, r.top)) h))
      (back-only (back_array B n + o) e (omega arith) (omega (arith, r.seam)))

-- outside a block is outside what lies in it
apart : (b w at m i : ℕ) → b ≤ at → at + m ≤ b + w → Outside b w i → Outside at m i
apart b w at m i p q (inl o) = inl (omega arith)
apart b w at m i p q (inr o) = inr (omega arith)

inside : (B : ℕ) → (B ≡ 512) ⊎ (B ≡ 4096) → (x : ℕ) → (128 * x / B * B ≤ 128 * x) × (128 * x + 128 ≤ 128 * x / B * B + B)
inside B (inl e) x = rw e (omega arith, omega arith)
inside B (inr e) x = rw e (omega arith, omega arith)

-- ---- the stages of an update

-- as an accepted stage one leaves it
pub record Fit (u : Update) : Type 0 where
  pub slot : u.slot.0 - 1 < 128
  pub entry : length u.entry ≡ 128

module _ (B n : ℕ) (r : Room B n) (u : Update) (f : Fit u) where
  long : (s : Side) → length (head_block B n s u.guid u.parts) ≡ B
  long s = block-long B n s u.guid u.parts (omega (arith, r.least))

  slot-fits : 128 * (u.slot.0 - 1) + length u.entry ≤ 16384
  slot-fits = omega (arith, f.slot, f.entry)

  stage-stored : (xs : List ℕ) → length xs ≡ n → (k : ℕ) → stage_store B n u k xs ≡ with_tables_at B n xs (stage B n u k (tables_at B n xs))
  unfolding slot_store slot_stage header_store header_stage set_entry
  stage-stored xs l zero = sym (put-get B n r xs l)
  stage-stored xs l (suc zero) = array-stored B n r xs l Back (128 * (u.slot.0 - 1)) u.entry slot-fits
  stage-stored xs l (suc (suc zero)) = header-stored B n r xs l Back (head_block B n Back u.guid u.parts) (long Back)
  stage-stored xs l (suc (suc (suc zero))) = array-stored B n r xs l Front (128 * (u.slot.0 - 1)) u.entry slot-fits
  stage-stored xs l (suc (suc (suc (suc zero)))) = header-stored B n r xs l Front (head_block B n Front u.guid u.parts) (long Front)
  stage-stored xs l (suc (suc (suc (suc (suc k))))) = sym (put-get B n r xs l)

  stage-whole : (t : Tables) → Whole B t → (k : ℕ) → Whole B (stage B n u k t)
  unfolding slot_stage header_stage set_entry
  stage-whole t w zero = w
  stage-whole t w (suc zero) =
      record { front-header = w.front-header; front-array = w.front-array; back-header = w.back-header; back-array = length-sets _ _ u.entry ∙ w.back-array }
  stage-whole t w (suc (suc zero)) =
      record { front-header = w.front-header; front-array = w.front-array; back-header = long Back; back-array = w.back-array }
  stage-whole t w (suc (suc (suc zero))) =
      record { front-header = w.front-header; front-array = length-sets _ _ u.entry ∙ w.front-array; back-header = w.back-header; back-array = w.back-array }
  stage-whole t w (suc (suc (suc (suc zero)))) =
      record { front-header = long Front; front-array = w.front-array; back-header = w.back-header; back-array = w.back-array }
  stage-whole t w (suc (suc (suc (suc (suc k))))) = w

  pub after-whole : (t : Tables) → Whole B t → (k : ℕ) → Whole B (after_stages B n u k t)
  unfolding after_stages
  after-whole t w zero = w
  after-whole t w (suc k) = stage-whole (after_stages B n u k t) (after-whole t w k) (suc k)

  -- the stores one after the other are the stages of the tables
  pub stored-stages : (xs : List ℕ) → length xs ≡ n → (k : ℕ) → stored B n u k xs ≡ with_tables_at B n xs (after_stages B n u k (tables_at B n xs))
  unfolding stored after_stages
  stored-stages xs l zero = sym (put-get B n r xs l)
  stored-stages xs l (suc k) =
      let t : Tables = tables_at B n xs in
      let a : Tables = after_stages B n u k (tables_at B n xs) in
      let wt : Whole B (tables_at B n xs) = whole-tables B n r xs l in
      let wa : Whole B (after_stages B n u k (tables_at B n xs)) = after-whole (tables_at B n xs) wt k in
      ap (λ (x : List ℕ). stage_store B n u (suc k) x) (stored-stages xs l k)
      ∙ stage-stored (with_tables_at B n xs a) (length-with B n r xs l a wa) (suc k)
      ∙ ap (λ (x : Tables). with_tables_at B n (with_tables_at B n xs a) (stage B n u (suc k) x)) (get-put B n r xs l a wa)
      ∙ put-put B n r xs l a (stage B n u (suc k) a) wa (stage-whole a wa (suc k))

  -- a slot's bytes lie in one block
  slot-in : (s : Side) → (slot_block B n s u.slot.0 * B ≤ array_byte_place B n s + 128 * (u.slot.0 - 1)) × (array_byte_place B n s + 128 * (u.slot.0 - 1) + length u.entry ≤ slot_block B n s u.slot.0 * B + B)
  slot-in s =
      let q = inside B (good-size B r.good) (u.slot.0 - 1) in
      let e : slot_block B n s u.slot.0 * B ≡ array_start B n s * B + 128 * (u.slot.0 - 1) / B * B = add-mul (array_start B n s) (128 * (u.slot.0 - 1) / B) B in
      let p = array-place B n s r in
      (omega (arith, q.0, q.1, p.0, f.entry), omega (arith, q.0, q.1, p.0, f.entry))

  -- each stage changes bytes of its block alone
  pub stage-one-block : (xs : List ℕ) (k : ℕ) (i : ℕ) → Outside (stage_block B n u k * B) B i → get_or (stage_store B n u k xs) i 0 ≡ get_or xs i 0
  unfolding slot_store header_store
  stage-one-block xs zero i o = refl
  stage-one-block xs (suc zero) i o = get_d-out xs _ u.entry i (apart _ _ _ _ i (slot-in Back).0 (slot-in Back).1 o)
  stage-one-block xs (suc (suc zero)) i o =
      let p = side-place B n Back r in
      get_d-out xs (header_place B n Back) (head_block B n Back u.guid u.parts) i (apart _ _ _ _ i (omega (arith, p)) (omega (arith, p, long Back)) o)
  stage-one-block xs (suc (suc (suc zero))) i o = get_d-out xs _ u.entry i (apart _ _ _ _ i (slot-in Front).0 (slot-in Front).1 o)
  stage-one-block xs (suc (suc (suc (suc zero)))) i o =
      let p = side-place B n Front r in
      get_d-out xs (header_place B n Front) (head_block B n Front u.guid u.parts) i (apart _ _ _ _ i (omega (arith, p)) (omega (arith, p, long Front)) o)
  stage-one-block xs (suc (suc (suc (suc (suc k))))) i o = refl

-- ---- the stages of a repair

module _ (B n : ℕ) (r : Room B n) (u : Repair) where
  head-long : (s : Side) → length (head_block B n s u.guid u.parts) ≡ B
  head-long s = block-long B n s u.guid u.parts (omega (arith, r.least))

  -- block j of an array is one of the array's blocks
  block-fits : (j : ℕ) → j < array_blocks B → j * B + B ≤ 16384
  block-fits j h =
      let m : suc j * B ≤ array_blocks B * B = mul-le-mul_right B (omega arith) in
      let e : suc j * B ≡ j * B + B = suc-mul j B in
      omega (arith, blocks-whole B n r)

  block-part : (xs : List ℕ) → length xs ≡ n → (s : Side) (j : ℕ) → j < array_blocks B
      → part xs (array_byte_place B n s + j * B) B ≡ part (copy_at s (tables_at B n xs)).array (j * B) B
  unfolding tables_at
  block-part xs l Front j h = sym (part-part xs (B + B) 16384 (j * B) B (block-fits j h))
  block-part xs l Back j h = sym (part-part xs (back_array B n) 16384 (j * B) B (block-fits j h))

  array_long : (t : Tables) → Whole B t → (s : Side) → length (copy_at s t).array ≡ 16384
  array_long t w Front = w.front-array
  array_long t w Back = w.back-array

  repair-stage-stored : (xs : List ℕ) → length xs ≡ n → (k : ℕ) → repair_store B n u k xs ≡ with_tables_at B n xs (repair_stage B n u k (tables_at B n xs))
  unfolding repair_store repair_stage zero_store zero_stage block_store block_stage header_store header_stage
  repair-stage-stored xs l zero = sym (put-get B n r xs l)
  repair-stage-stored xs l (suc zero) = header-stored B n r xs l (mended u) (zeros B) (length-zeros B)
  repair-stage-stored xs l (suc (suc j)) =
      by-test (ltb j (array_blocks B))
      (λ q.
      let h = ltb-true j (array_blocks B) q in
      let o : Side = mended u in
      let e : List ℕ = part (copy_at (other (mended u)) (tables_at B n xs)).array (j * B) B in
      let le : length e ≡ B = length_part _ (j * B) B (omega (arith, block-fits j h, array_long (tables_at B n xs) (whole-tables B n r xs l) (other (mended u)))) in
      rw q
      (ap (λ (x : List ℕ). sets xs (array_byte_place B n (mended u) + j * B) x) (block-part xs l (other (mended u)) j h)
      ∙ array-stored B n r xs l (mended u) (j * B) e (omega (arith, block-fits j h))))
      (λ q.
      by-test (eqb j (array_blocks B))
      (λ p. rw (q, p) (header-stored B n r xs l (mended u) (head_block B n (mended u) u.guid u.parts) (head-long (mended u))))
      (λ p. rw (q, p) (sym (put-get B n r xs l))))

  header-whole : (t : Tables) → Whole B t → (s : Side) (h : List ℕ) → length h ≡ B → Whole B (with_header s h t)
  header-whole t w Front h l = record { front-header = l; front-array = w.front-array; back-header = w.back-header; back-array = w.back-array }
  header-whole t w Back h l = record { front-header = w.front-header; front-array = w.front-array; back-header = l; back-array = w.back-array }

  array_whole : (t : Tables) → Whole B t → (s : Side) (o : ℕ) (e : List ℕ) → Whole B (with_array s (sets (copy_at s t).array o e) t)
  array_whole t w Front o e = record { front-header = w.front-header; front-array = length-sets _ o e ∙ w.front-array; back-header = w.back-header; back-array = w.back-array }
  array_whole t w Back o e = record { front-header = w.front-header; front-array = w.front-array; back-header = w.back-header; back-array = length-sets _ o e ∙ w.back-array }

  repair-stage-whole : (t : Tables) → Whole B t → (k : ℕ) → Whole B (repair_stage B n u k t)
  unfolding repair_stage zero_stage block_stage header_stage
  repair-stage-whole t w zero = w
  repair-stage-whole t w (suc zero) = header-whole t w (mended u) (zeros B) (length-zeros B)
  repair-stage-whole t w (suc (suc j)) =
      by-pick (λ (x : Tables). Whole B x) (ltb j (array_blocks B)) _ _
      (λ _. array_whole t w (mended u) (j * B) (part (copy_at (other (mended u)) t).array (j * B) B))
      (λ _. by-pick (λ (x : Tables). Whole B x) (eqb j (array_blocks B)) _ _ (λ _. header-whole t w (mended u) (head_block B n (mended u) u.guid u.parts) (head-long (mended u))) (λ _. w))

  pub after-repair-whole : (t : Tables) → Whole B t → (k : ℕ) → Whole B (after_repair B n u k t)
  unfolding after_repair
  after-repair-whole t w zero = w
  after-repair-whole t w (suc k) = repair-stage-whole (after_repair B n u k t) (after-repair-whole t w k) (suc k)

  -- the stores one after the other are the stages of the tables
  pub stored-repair : (xs : List ℕ) → length xs ≡ n → (k : ℕ) → repair_stored B n u k xs ≡ with_tables_at B n xs (after_repair B n u k (tables_at B n xs))
  unfolding repair_stored after_repair
  stored-repair xs l zero = sym (put-get B n r xs l)
  stored-repair xs l (suc k) =
      let a : Tables = after_repair B n u k (tables_at B n xs) in
      let wa : Whole B (after_repair B n u k (tables_at B n xs)) = after-repair-whole (tables_at B n xs) (whole-tables B n r xs l) k in
      ap (λ (x : List ℕ). repair_store B n u (suc k) x) (stored-repair xs l k)
      ∙ repair-stage-stored (with_tables_at B n xs a) (length-with B n r xs l a wa) (suc k)
      ∙ ap (λ (x : Tables). with_tables_at B n (with_tables_at B n xs a) (repair_stage B n u (suc k) x)) (get-put B n r xs l a wa)
      ∙ put-put B n r xs l a (repair_stage B n u (suc k) a) wa (repair-stage-whole a wa (suc k))

  -- each stage changes bytes of its block alone
  head-one : (xs : List ℕ) (s : Side) (h : List ℕ) → length h ≡ B → (i : ℕ) → Outside (own_block B n s * B) B i → get_or (sets xs (header_place B n s) h) i 0 ≡ get_or xs i 0
  head-one xs s h l i o = let p = side-place B n s r in get_d-out xs (header_place B n s) h i (apart _ _ _ _ i (omega (arith, p)) (omega (arith, p)) o)

  pub repair-one-block : (xs : List ℕ) → length xs ≡ n → (k : ℕ) (i : ℕ) → Outside (repair_block B n u k * B) B i → get_or (repair_store B n u k xs) i 0 ≡ get_or xs i 0
  unfolding repair_store zero_store block_store header_store
  repair-one-block xs l zero i o = refl
  repair-one-block xs l (suc zero) i o = head-one xs (mended u) (zeros B) (length-zeros B) i o
  repair-one-block xs l (suc (suc j)) i o =
      by-test (ltb j (array_blocks B))
      (λ q.
      let h = ltb-true j (array_blocks B) q in
      let s : Side = mended u in
      let v : Side = other (mended u) in
      let a = array-place B n (mended u) r in
      let b = array-place B n (other (mended u)) r in
      let e : (array_start B n (mended u) + j) * B ≡ array_start B n (mended u) * B + j * B = add-mul (array_start B n (mended u)) j B in
      let lp : length (part xs (array_byte_place B n (other (mended u)) + j * B) B) ≡ B = length_part xs (array_byte_place B n v + j * B) B (omega (arith, block-fits j h, b.1)) in
      let o2 : Outside ((array_start B n (mended u) + j) * B) B i = rw q at o in
      let ys : List ℕ = part xs (array_byte_place B n (other (mended u)) + j * B) B in
      let low : (array_start B n (mended u) + j) * B ≤ array_byte_place B n (mended u) + j * B = omega (arith, a.0) in
      let high : array_byte_place B n (mended u) + j * B + length ys ≤ (array_start B n (mended u) + j) * B + B = omega (arith, a.0) in
      rw q (get_d-out xs (array_byte_place B n (mended u) + j * B) ys i (apart _ _ _ _ i low high o2)))
      (λ q.
      let o2 : Outside (own_block B n (mended u) * B) B i = rw q at o in
      rw q
      (by-test (eqb j (array_blocks B))
      (λ p. rw p (head-one xs (mended u) (head_block B n (mended u) u.guid u.parts) (head-long (mended u)) i o2))
      (λ p. rw p)))
