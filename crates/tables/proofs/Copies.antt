-- The laws of a table by its own bytes (`specs/Lens`): an image's two parts and its tables, a table and its bytes. No contract cites this file. Assumes nothing.
use mathlib.Core.Path.{◌≡◌, refl, sym, ap, ◌∙◌}
use mathlib.Core.List.{List}
use Prim.Native.Nat.{ℕ, ◌+◌, ◌-◌, ◌≤◌}
use native.Mathlib.Omega.{arith}
use lib.ListN.{length, take, drop}
use Rattle.units.specs.Bytes.{part}
use Rattle.units.proofs.Lists.{part-part, lent-part}
use Rattle.tables.specs.Places.{back_array, back_header}
use Rattle.tables.specs.Lens.{Side, Front, Back, header_in, array_in, copy_in, copies, tables_at}
use Rattle.tables.specs.Check.{copy_check, table_check, guid_of}
use Rattle.tables.proofs.Room.{Room}
use Rattle.tables.proofs.LensLaws.{tables-eq}
use Rattle.tables.proofs.ReadCheck.{head-part, guid-part-of}

-- a part of a part, by the place where it stands in the whole
pub part_at : (xs : List ℕ) (a n o m k : ℕ) → o + m ≤ n → a + o ≡ k → part (part xs a n) o m ≡ part xs k m
part_at xs a n o m k h e = part-part xs a n o m h ∙ ap (λ (i : ℕ). part xs i m) e

-- ---- an image's two parts are its tables

pub copies-tables : (B n : ℕ) (xs : List ℕ) → Room B n → copies B (part xs B (B + 16384)) (part xs (back_array B n) (B + 16384)) ≡ tables_at B n xs
unfolding copy_in tables_at
copies-tables B n xs r =
    tables-eq
    (part_at xs B (B + 16384) 0 B B (omega arith) (omega arith))
    (part_at xs B (B + 16384) B 16384 (B + B) (omega arith) refl)
    (part_at xs (back_array B n) (B + 16384) 16384 B (back_header B n) (omega arith) r.seam)
    (part_at xs (back_array B n) (B + 16384) 0 16384 (back_array B n) (omega arith) (omega arith))

-- as the code lends them
pub lent-tables : (B n : ℕ) (xs : List ℕ) {at : ℕ} → Room B n → at ≡ back_array B n
    → copies B (take (B + (B + 16384) - B) (drop B xs)) (take (at + (B + 16384) - at) (drop at xs)) ≡ tables_at B n xs
lent-tables B n xs {at} r e = rw (lent-part xs B (B + 16384), lent-part xs at (B + 16384), e) (copies-tables B n xs r)

-- ---- a table and its bytes

pub array_of : (B : ℕ) (s : Side) (ys : List ℕ) {at : ℕ} → at ≡ array_in B s → part ys at 16384 ≡ (copy_in B s ys).array
unfolding copy_in
array_of B s ys e = ap (λ (i : ℕ). part ys i 16384) e

pub guid-of : (B : ℕ) (s : Side) (ys : List ℕ) → 92 ≤ B → guid_of (copy_in B s ys) ≡ part ys (header_in s + 56) 16
unfolding guid_of copy_in
guid-of B s ys h = guid-part-of ys (header_in s) B h

pub header-fits : (B : ℕ) (s : Side) (ys : List ℕ) → length ys ≡ B + 16384 → header_in s + B ≤ length ys
header-fits B Front ys l = omega arith
header-fits B Back ys l = omega arith

pub array-fits : (B : ℕ) (s : Side) (ys : List ℕ) → length ys ≡ B + 16384 → array_in B s + 16384 ≤ length ys
array-fits B Front ys l = omega arith
array-fits B Back ys l = omega arith

-- the table's check, by the place where its header stands
pub copy-by : (B n : ℕ) (s : Side) (ys : List ℕ) {at : ℕ} → at ≡ header_in s → 92 ≤ B
    → copy_check B n s (part ys at 92) (copy_in B s ys).array ≡ table_check B n s (copy_in B s ys)
unfolding copy_in
copy-by B n s ys e h =
    let arr : List ℕ = part ys (array_in B s) 16384 in
    ap (λ (i : ℕ). copy_check B n s (part ys i 92) arr) e ∙ sym (ap (λ (x : List ℕ). copy_check B n s x arr) (head-part ys (header_in s) B h))
