-- What the check reads of a header's 92 bytes is what a reader finds at their place in an image. Then P7's card, whose header claims a block of the back table:
-- the check refuses it. No contract cites this file. Assumes nothing.
use mathlib.Core.Path.{◌≡◌, sym, ap, ◌∙◌}
use mathlib.Core.Bool.{true, false, not}
use mathlib.Core.List.{List}
use Prim.Native.Nat.{ℕ, suc, ◌+◌, ◌≤◌}
use native.Mathlib.Omega.{arith}
use borrow.Author.Tests.{not-false}
use lib.Dec.{eqb}
use lib.ListN.{length, take, drop}
use lib.Seq.{take-take}
use Rattle.units.specs.declared.Place.TheVariants as place
use Rattle.units.specs.declared.why.Why.{Why}
use Rattle.units.specs.Answer.{Answer, accepted, refused, or_else, judged, plain, placed, within}
use Rattle.units.specs.Bytes.{part, num, same}
use Rattle.units.specs.Places.{good_size, inside}
use Rattle.units.proofs.Lists.{part-part}
use Rattle.units.proofs.Laws.{num-part}
use Rattle.units.proofs.GuidLaws.{guid-part}
use Rattle.crc32.specs.HeaderSum.{header_sum}
use Rattle.header.specs.declared.Header.{Header}
use Rattle.header.specs.Format.{signature, header_at}
use Rattle.header.specs.Reading.{header_read, primary_read}
use Rattle.header.proofs.Laws.{sum-part}
use Rattle.tables.specs.Places.{last_usable_of}
use Rattle.tables.specs.Lens.{Tables, tables_at, Side, Front}
use Rattle.tables.specs.Headers.{laid_fields}
use Rattle.tables.specs.Check.{room_check, copy_check, head_of, check, check_answer, table_check}
use Rattle.tables.proofs.Orders.{by-pick, by-test}
use Rattle.tables.proofs.Room.{Room}
use Rattle.tables.proofs.HeaderLaws.{alike-tells}
use Rattle.tables.proofs.Good.{room-ok}

-- the signature and the fields of a header's 92 bytes alone
pub mark-part : (xs : List ℕ) (at : ℕ) → part (part xs at 92) 0 8 ≡ part xs at 8
mark-part xs at = take-take 8 92 (drop at xs) (omega arith)

pub header-part : (xs : List ℕ) (at : ℕ) → header_at (part xs at 92) 0 ≡ header_at xs at
header-part xs at =
    rw (
      num-part xs at 92 10 2 (omega arith),
      num-part xs at 92 8 2 (omega arith),
      num-part xs at 92 12 4 (omega arith),
      num-part xs at 92 16 4 (omega arith),
      num-part xs at 92 20 4 (omega arith),
      num-part xs at 92 24 8 (omega arith),
      num-part xs at 92 32 8 (omega arith),
      num-part xs at 92 40 8 (omega arith),
      num-part xs at 92 48 8 (omega arith),
      guid-part xs at 92 56 (omega arith),
      num-part xs at 92 72 8 (omega arith),
      num-part xs at 92 80 4 (omega arith),
      num-part xs at 92 84 4 (omega arith),
      num-part xs at 92 88 4 (omega arith),
    )

-- the 92 bytes of a header's block
pub head-part : (xs : List ℕ) (at b : ℕ) → 92 ≤ b → take 92 (part xs at b) ≡ part xs at 92
head-part xs at b h = take-take 92 b (drop at xs) h

-- ---- the whole check on an image

-- the disk GUID's bytes
pub guid-part-of : (xs : List ℕ) (at b : ℕ) → 92 ≤ b → part (take 92 (part xs at b)) 56 16 ≡ part xs (at + 56) 16
guid-part-of xs at b h = ap (λ (l : List ℕ). part l 56 16) (head-part xs at b h) ∙ part-part xs at 92 56 16 (omega arith)

-- ---- a header whose last usable block is not lay's

-- what a header that was read tells
read-tells : (xs : List ℕ) (at : ℕ) (h : Header) → header_read xs at ≡ accepted h
    → (same (part xs at 8) signature ≡ true) × ((eqb (header_sum xs at) (header_at xs at).crc32 ≡ true) × (header_at xs at ≡ h))
unfolding header_read
read-tells xs at h =
    by-pick Q (not (inside (length xs) at 92)) _ _ (λ _ e. never e)
    (λ _. by-pick Q (not (same (part xs at 8) signature)) _ _ (λ _ e. never e)
    (λ s. by-pick Q (not (eqb (header_sum xs at) (num xs (at + 16) 4))) _ _ (λ _ e. never e)
    (λ c e. (not-false _ s, (not-false _ c, let q : header_at xs at ≡ h = cc in q)))))
  where
    Q : Answer Header → Type 0
    Q a = a ≡ accepted h → (same (part xs at 8) signature ≡ true) × ((eqb (header_sum xs at) (header_at xs at).crc32 ≡ true) × (header_at xs at ≡ h))

    never : {w : Why} → refused w ≡ accepted h → (same (part xs at 8) signature ≡ true) × ((eqb (header_sum xs at) (header_at xs at).crc32 ≡ true) × (header_at xs at ≡ h))
    never e = absurd (let z : ◌≡◌ {A = ℕ} 0 1 = cc in omega arith)

other_last : (B n : ℕ) (s : Side) (h : Header) → (h.last_usable.0 ≡ last_usable_of B n → ⊥) → laid_fields B n s h ≡ false
unfolding laid_fields
other_last B n s h d = by-test (laid_fields B n s h) (λ t. absurd (d (alike-tells _ _ t).last)) (λ t. t)

copy-wrong : (B n : ℕ) (s : Side) (x arr : List ℕ) → same (part x 0 8) signature ≡ true → eqb (header_sum x 0) (header_at x 0).crc32 ≡ true
    → laid_fields B n s (header_at x 0) ≡ false → copy_check B n s x arr ≡ plain 16
unfolding copy_check or_else
copy-wrong B n s x arr a b c = rw (a, b, c)

front-wrong : (B n : ℕ) (t : Tables) (k : ℕ) → (room_check B n).number ≡ 0 → table_check B n Front t.front ≡ plain (suc k) → check B n t ≡ placed (suc k) place.Front
unfolding check or_else within
front-wrong B n t k r c = rw (r, c)

judged-16 : {A : Type 0} (v : A) (w : Why) → w ≡ placed 16 place.Front → judged w v ≡ refused (placed 16 place.Front)
unfolding judged
judged-16 v w e = rw e

-- P7: a primary header that reads well, but whose last usable block is not lay's, is refused by 16 of the front table
pub far-last-refused : (B : ℕ) (xs : List ℕ) (h : Header) → (room_check B (length xs)).number ≡ 0 → primary_read xs B ≡ accepted h
    → (h.last_usable.0 ≡ last_usable_of B (length xs) → ⊥) → check_answer B xs ≡ refused (placed 16 place.Front)
unfolding primary_read tables_at
far-last-refused B xs h r p d =
    let q : Room B (length xs) = room-ok B (length xs) r in
    let t = read-tells xs B h (sym (first_read q.good) ∙ p) in
    let m : same (part (part xs B 92) 0 8) signature ≡ true = ap (λ (l : List ℕ). same l signature) (mark-part xs B) ∙ t.0 in
    let s : eqb (header_sum (part xs B 92) 0) (header_at (part xs B 92) 0).crc32 ≡ true =
    ap (λ (k : ℕ). eqb k (header_at (part xs B 92) 0).crc32) (sym (sum-part xs B)) ∙ ap (λ (k : Header). eqb (header_sum xs B) k.crc32) (header-part xs B) ∙ t.1.0 in
    let f : laid_fields B (length xs) Front (header_at (part xs B 92) 0) ≡ false =
    ap (laid_fields B (length xs) Front) (header-part xs B ∙ t.1.1) ∙ other_last B (length xs) Front h d in
    let c : copy_check B (length xs) Front (head_of (tables_at B (length xs) xs).front) (part xs (B + B) 16384) ≡ plain 16 =
    ap (λ (x : List ℕ). copy_check B (length xs) Front x (part xs (B + B) 16384)) (head-part xs B B (omega arith))
    ∙ copy-wrong B (length xs) Front (part xs B 92) (part xs (B + B) 16384) m s f in
    judged-16 tt (check B (length xs) (tables_at B (length xs) xs)) (front-wrong B (length xs) (tables_at B (length xs) xs) 15 r c)
  where
    first_read : good_size B ≡ true → primary_read xs B ≡ header_read xs B
    first_read g = rw g
