-- The laws of the header's block that lay writes (`specs/Headers`): its length, the GUID in it, that its numbers fit their fields, that its table passes the
-- check, and that no other header does. No contract cites this file. Assumes nothing.
use mathlib.Core.Path.{◌≡◌, refl, sym, ap, ◌∙◌}
use mathlib.Core.Bool.{true, not}
use mathlib.Core.List.{List, [], ◌++◌, append-nil}
use Prim.Native.Nat.{ℕ, ◌+◌, ◌-◌, ◌^◌, ◌≤◌, ◌<◌}
use native.Mathlib.Omega.{arith}
use borrow.Author.Tests.{eq-eqb, eqb-true, not-false}
use lib.Dec.{eqb}
use lib.ListN.{length, take, replicate, length-append, length-replicate}
use lib.Seq.{take_all, take_at}
use Rattle.units.specs.declared.Guid.{Guid}
use Rattle.units.specs.Answer.{when, plain}
use Rattle.units.specs.Bytes.{part, le, num, bytes, same}
use Rattle.units.specs.Guids.{tail_bytes, guid_at, guid_bytes}
use Rattle.units.specs.Held.{Small, GuidHeld}
use Rattle.units.proofs.Chains.{else-none, else-first, else-second, when-none, none-when}
use Rattle.units.proofs.Laws.{length-bytes, low-bytes, bytes-num, same_true, and_both}
use Rattle.units.proofs.GuidLaws.{guid-part}
use Rattle.crc32.specs.Crc.{crc}
use Rattle.crc32.specs.Register.{crc-fits}
use Rattle.crc32.specs.HeaderSum.{header_sum}
use Rattle.header.specs.declared.Header.{Header}
use Rattle.header.specs.Format.{signature, header_at, header_bytes}
use Rattle.header.specs.Writing.{stored, summed, with_sums}
use Rattle.header.proofs.Laws.{length-header, FitHeader, header-here, header-bytes-back, sum-blind, fit-summed, sum-right}
use Rattle.tables.specs.Places.{last_usable_of}
use Rattle.tables.specs.Lens.{Side, Front, Back}
use Rattle.tables.specs.Headers.{own_block, other_block, array_start, card_header, head_block, copy_of, alike, laid_fields}
use Rattle.tables.specs.Check.{copy_check, table_check, guid_of}
use Rattle.tables.proofs.Orders.{same_of}
use Rattle.tables.proofs.Room.{Room}
use Rattle.tables.proofs.Builder.{last_fits}

-- the block is a whole block
pub block-long : (B n : ℕ) (s : Side) (g : Guid) (parts : ℕ) → 92 ≤ B → length (head_block B n s g parts) ≡ B
unfolding head_block
block-long B n s g parts h =
    let x : Header = stored (with_sums (card_header B n s g) parts) in
    length-append (header_bytes x) (replicate (B - 92) 0) ∙ omega (arith, length-header x, length-replicate {A = ℕ} (B - 92) 0)

pub copy-array : (B n : ℕ) (s : Side) (g arr : List ℕ) → (copy_of B n s g arr).array ≡ arr
unfolding copy_of
copy-array B n s g arr = refl

-- ---- the GUID

-- a number's bytes are those of the number that they make, whether or not it fits
bytes_le : (n x : ℕ) → bytes n (le (bytes n x)) ≡ bytes n x
unfolding num
bytes_le n x =
    let t : part (bytes n x) 0 n ≡ bytes n x = take_all n (bytes n x) (omega (arith, length-bytes n x)) in
    ap (λ (l : List ℕ). bytes n (le l)) (sym t) ∙ bytes-num (bytes n x) 0 n (omega (arith, length-bytes n x)) (low-bytes n x).each ∙ t

-- so are a GUID's
guid-fields : (g : Guid) → guid_bytes (guid_at (guid_bytes g) 0)
    ≡ bytes 4 (le (bytes 4 g.time_low)) ++ (bytes 2 (le (bytes 2 g.time_mid)) ++ (bytes 2 (le (bytes 2 g.time_high)) ++ tail_bytes g.tail))
unfolding num bytes
guid-fields g = refl

pub guid-twice : (g : Guid) → guid_bytes (guid_at (guid_bytes g) 0) ≡ guid_bytes g
guid-twice g = guid-fields g ∙ rw (bytes_le 4 g.time_low, bytes_le 2 g.time_mid, bytes_le 2 g.time_high)

-- a block holds no more of a GUID than its bytes
block_same : (B n : ℕ) (s : Side) (g h : Guid) (parts : ℕ) → guid_bytes g ≡ guid_bytes h → head_block B n s g parts ≡ head_block B n s h parts
unfolding head_block with_sums
block_same B n s g h parts e = rw e

pub block-twice : (B n : ℕ) (s : Side) (g : Guid) (parts : ℕ) → head_block B n s (guid_at (guid_bytes g) 0) parts ≡ head_block B n s g parts
block-twice B n s g parts = block_same B n s _ g parts (guid-twice g)

-- they are the disk GUID of the table
pub copy-guid : (B n : ℕ) (s : Side) (g arr : List ℕ) → guid_of (copy_of B n s g arr) ≡ guid_bytes (guid_at g 0)
unfolding guid_of copy_of head_block with_sums bytes
copy-guid B n s g arr = refl

-- ---- the fields

-- the numbers of a side's header fit their fields
pub fit-card : (B n : ℕ) (s : Side) (g : Guid) → Room B n → n < 2 ^ 64 → GuidHeld g → FitHeader (card_header B n s g)
fit-card B n s g r l h =
    let u : last_usable_of B n + 1 < 2 ^ 64 = last_fits B n r l in
    record {
      major = omega arith;
      minor = omega arith;
      size = omega arith;
      sum = omega arith;
      reserved = omega arith;
      current = own s;
      backup = other s;
      first = omega (arith, r.order);
      last = omega arith;
      disk = h;
      start = start s;
      count = omega arith;
      each = omega arith;
      parts = omega arith;
    }
  where
    own : (s : Side) → own_block B n s < 2 ^ 64
    own Front = omega arith
    own Back = omega (arith, r.few)

    other : (s : Side) → other_block B n s < 2 ^ 64
    other Front = omega (arith, r.few)
    other Back = omega arith

    start : (s : Side) → array_start B n s < 2 ^ 64
    start Front = omega arith
    start Back = last_fits B n r l

-- with its sums it is like what lay writes
laid : (B n : ℕ) (s : Side) (g : Guid) (parts : ℕ) → laid_fields B n s (stored (with_sums (card_header B n s g) parts)) ≡ true
unfolding laid_fields alike with_sums
laid B n s g parts = simp eqb-self
  where
    eqb-self : (a : ℕ) → eqb a a ≡ true
    eqb-self a = eq-eqb a a refl

parts : (h : Header) (p : ℕ) → p ≡ (stored (with_sums h p)).crc32_parts
unfolding with_sums
parts h p = refl

-- a header with the signature, its own sum, lay's fields and the array's sum passes
passes : (B n : ℕ) (s : Side) (x arr : List ℕ) (h : Header) → part x 0 8 ≡ signature → header_at x 0 ≡ h → h.crc32 ≡ header_sum x 0 → laid_fields B n s h ≡ true
    → crc arr ≡ h.crc32_parts → (copy_check B n s x arr).number ≡ 0
unfolding copy_check
passes B n s x arr h e r c l p =
    else-none _ _ (when-none _ (plain 4) (ap not (same_of e)))
    (else-none _ _ (when-none _ (plain 5) (ap not (eq-eqb _ _ (sym c ∙ ap (λ (k : Header). k.crc32) (sym r)))))
    (else-none _ _ (when-none _ (plain 16) (ap not (ap (laid_fields B n s) r ∙ l)))
    (when-none _ (plain 6) (ap not (eq-eqb _ _ (p ∙ ap (λ (k : Header). k.crc32_parts) (sym r)))))))

-- so the tables that lay writes pass, one by one
pub copy-passes : (B n : ℕ) (s : Side) (g arr : List ℕ) → Room B n → n < 2 ^ 64 → GuidHeld (guid_at g 0) → Small arr → (table_check B n s (copy_of B n s g arr)).number ≡ 0
unfolding copy_of head_block
copy-passes B n s g arr r l h a =
    let k : Header = card_header B n s (guid_at g 0) in
    let v : Header = stored (with_sums k (crc arr)) in
    let f : FitHeader v = fit-summed k (crc arr) (fit-card B n s (guid_at g 0) r l h) (crc-fits arr a) in
    let e : header_at (header_bytes v) 0 ≡ v = ap (λ (x : List ℕ). header_at x 0) (sym (append-nil (header_bytes v))) ∙ header-here v [] f in
    ap (λ (x : List ℕ). (copy_check B n s x arr).number) (take_at (header_bytes v) (replicate (B - 92) 0) 92 (length-header v))
    ∙ passes B n s (header_bytes v) arr v refl e (sum-right k (crc arr)) (laid B n s (guid_at g 0) (crc arr)) (parts k (crc arr))

-- ---- what passes

-- the equations that `alike` tests
pub record Alike (h k : Header) : Type 0 where
  pub minor : h.revision.1 ≡ k.revision.1
  pub major : h.revision.0 ≡ k.revision.0
  pub size : h.header_size_le ≡ k.header_size_le
  pub reserved : h.reserved ≡ k.reserved
  pub current : h.current_lba.0 ≡ k.current_lba.0
  pub backup : h.backup_lba.0 ≡ k.backup_lba.0
  pub first : h.first_usable.0 ≡ k.first_usable.0
  pub last : h.last_usable.0 ≡ k.last_usable.0
  pub start : h.part_start.0 ≡ k.part_start.0
  pub count : h.num_parts ≡ k.num_parts
  pub each : h.part_size ≡ k.part_size

pub alike-tells : (h k : Header) → alike h k ≡ true → Alike h k
unfolding alike
alike-tells h k e =
    let a = and_both _ _ e in
    let b = and_both _ _ a.1 in
    let c = and_both _ _ b.1 in
    let d = and_both _ _ c.1 in
    let f = and_both _ _ d.1 in
    let g = and_both _ _ f.1 in
    let i = and_both _ _ g.1 in
    let j = and_both _ _ i.1 in
    let l = and_both _ _ j.1 in
    let m = and_both _ _ l.1 in
    record {
      minor = eqb-true _ _ a.0;
      major = eqb-true _ _ b.0;
      size = eqb-true _ _ c.0;
      reserved = eqb-true _ _ d.0;
      current = eqb-true _ _ f.0;
      backup = eqb-true _ _ g.0;
      first = eqb-true _ _ i.0;
      last = eqb-true _ _ j.0;
      start = eqb-true _ _ l.0;
      count = eqb-true _ _ m.0;
      each = eqb-true _ _ m.1;
    }

-- what a header's bytes that pass tell, beside an array
pub record Passed (B n : ℕ) (s : Side) (x arr : List ℕ) : Type 0 where
  pub mark : part x 0 8 ≡ signature
  pub own : header_sum x 0 ≡ (header_at x 0).crc32
  pub laid : Alike (header_at x 0) (card_header B n s (header_at x 0).disk_guid)
  pub parts : crc arr ≡ (header_at x 0).crc32_parts

pub passed : (B n : ℕ) (s : Side) (x arr : List ℕ) → (copy_check B n s x arr).number ≡ 0 → Passed B n s x arr
unfolding copy_check laid_fields
passed B n s x arr h =
    let a = when (not (same (part x 0 8) signature)) (plain 4) in
    let b = when (not (eqb (header_sum x 0) (header_at x 0).crc32)) (plain 5) in
    let c = when (not (laid_fields B n s (header_at x 0))) (plain 16) in
    let h2 = else-second a _ h in
    let h3 = else-second b _ h2 in
    record {
      mark = same_true _ _ (not-false _ (none-when _ (plain 4) tt (else-first a _ h)));
      own = eqb-true _ _ (not-false _ (none-when _ (plain 5) tt (else-first b _ h2)));
      laid = alike-tells _ _ (not-false _ (none-when _ (plain 16) tt (else-first c _ h3)));
      parts = eqb-true _ _ (not-false _ (none-when _ (plain 6) tt (else-second c _ h3)));
    }

-- its fields are lay's, with the sums that it has
passed-fields : (B n : ℕ) (s : Side) (x arr : List ℕ) → Passed B n s x arr → header_at x 0 ≡ summed (card_header B n s (guid_at x 56)) (num x 16 4) (crc arr)
passed-fields B n s x arr p =
    let l = p.laid in
    rw (l.minor, l.major, l.size, l.reserved, l.current, l.backup, l.first, l.last, l.start, l.count, l.each, p.parts)

-- so are its bytes: no test of a field is missing, and what passes is, byte for byte, the header that lay writes for its GUID and its array
pub passed-header : (B n : ℕ) (s : Side) (x arr : List ℕ) → length x ≡ 92 → Small x → (copy_check B n s x arr).number ≡ 0 → x ≡ take 92 (copy_of B n s (part x 56 16) arr).header
unfolding copy_of head_block with_sums
passed-header B n s x arr l b h =
    let p : Passed B n s x arr = passed B n s x arr h in
    let k : Header = card_header B n s (guid_at x 56) in
    let e : header_bytes (summed k (num x 16 4) (crc arr)) ≡ x =
    ap header_bytes (sym (passed-fields B n s x arr p)) ∙ header-bytes-back x 0 (omega arith) b p.mark ∙ take_all 92 x (omega arith) in
    let o : num x 16 4 ≡ header_sum (header_bytes (summed k 0 (crc arr))) 0 =
    sym p.own ∙ ap (λ (y : List ℕ). header_sum y 0) (sym e) ∙ sum-blind k (num x 16 4) 0 (crc arr) in
    let g : guid_at (part x 56 16) 0 ≡ guid_at x 56 = guid-part x 56 16 0 (omega arith) in
    sym e
    ∙ ap (λ (c : ℕ). header_bytes (summed k c (crc arr))) o
    ∙ sym (take_at (header_bytes (summed k (header_sum (header_bytes (summed k 0 (crc arr))) 0) (crc arr))) (replicate (B - 92) 0) 92 (length-header _))
    ∙ ap (λ (i : Guid). take 92 (head_block B n s i (crc arr))) (sym g)
