-- The laws of the reader's list in a lent row: it may be planned on the image, 15 comes last, and no refusal names a place. No contract cites this file. Assumes nothing.
use mathlib.Core.Path.{◌≡◌, refl, sym, ap, ◌∙◌}
use mathlib.Core.Bool.{Bool, true, false, not}
use mathlib.Core.List.{List, ◌∷◌, map}
use Prim.Native.Nat.{ℕ, zero, suc, ◌+◌, ◌*◌, ◌-◌, ◌≤◌, ◌<◌}
use native.Mathlib.Omega.{arith}
use lib.Dec.{ltb}
use lib.ListN.{length}
use Rattle.units.specs.declared.Refusal.{Refusal}
use Rattle.units.specs.declared.why.Why.{Why}
use Rattle.units.specs.Answer.{plain, pick, when, or_else, if_zero, judged, accepted, refused, refuse, and_then}
use Rattle.units.specs.Bytes.{part, all_zero}
use Rattle.units.specs.Refusals.{refusal_of}
use Rattle.units.proofs.Chains.{Bare, bare-when, bare-else, dropped-bare}
use Rattle.units.proofs.Lists.{part-part}
use Rattle.partition.specs.Format.{entry_at}
use Rattle.partition.specs.Array.{entry_place, present, present_from}
use Rattle.partition.proofs.Laws.{entry-part}
use Rattle.rows.specs.declared.Entry.{Entry}
use Rattle.rows.specs.declared.inner.Plan.{Plan}
use Rattle.rows.specs.Row.{entry_of, present_entries, row_outcome}
use Rattle.rows.specs.Plans.{Made, planned, no_plan, nowhere, roomed, plainly}
use Rattle.rows.proofs.Laws.{made_none, planned-none}
use Rattle.tables.specs.Lens.{side_of, tables}
use Rattle.reader.specs.Reader.{reader_check, takes_back, taken_array, array_byte_place, reader_entries, reader_row_check, reader_read}
use Rattle.reader.proofs.Ways.{refuses, accepts, taken-array, bare-reader}

-- ---- the entries of an array, in the image and in the part that it is

module _ (xs : List ℕ) (at : ℕ) where
  abbrev arr : List ℕ
  arr = part xs at 16384

  -- the bytes of one entry, whether it is present, and its record
  bytes-in-part : (k : ℕ) → k < 128 → part xs (entry_place at k) 128 ≡ part arr (entry_place 0 k) 128
  bytes-in-part k h =
      let e : at + k * 128 ≡ at + (0 + k * 128) = omega arith in
      ap (λ (j : ℕ). part xs j 128) e ∙ sym (part-part xs at 16384 (0 + k * 128) 128 (omega arith))

  present-in-part : (k : ℕ) → k < 128 → present xs at k ≡ present arr 0 k
  present-in-part k h = ap (λ (l : List ℕ). not (all_zero l)) (bytes-in-part k h)

  entry-in-part : (k : ℕ) → k < 128 → entry_of xs at (k + 1) ≡ entry_of arr 0 (k + 1)
  unfolding entry_of
  entry-in-part k h =
      let j : k + 1 - 1 ≡ k = omega arith in
      let e : entry_at xs (entry_place at k) ≡ entry_at arr (entry_place 0 k) =
      sym (entry-part xs (entry_place at k)) ∙ ap (λ (l : List ℕ). entry_at l 0) (bytes-in-part k h) ∙ entry-part arr (entry_place 0 k) in
      rw (j, e)

  from-in-part : (n k : ℕ) → k + n ≤ 128 → map (entry_of xs at) (present_from xs at k n) ≡ map (entry_of arr 0) (present_from arr 0 k n)
  unfolding present_from
  from-in-part zero k h = refl
  from-in-part (suc n) k h =
      let p : present xs at k ≡ present arr 0 k = present-in-part k (omega arith) in
      rw p (go (present arr 0 k) (entry-in-part k (omega arith)) (from-in-part n (k + 1) (omega arith)))
    where
      go : (t : Bool) → entry_of xs at (k + 1) ≡ entry_of arr 0 (k + 1) → map (entry_of xs at) (present_from xs at (k + 1) n) ≡ map (entry_of arr 0) (present_from arr 0 (k + 1) n)
          → map (entry_of xs at) (pick t ((k + 1) ∷ present_from xs at (k + 1) n) (present_from xs at (k + 1) n))
          ≡ map (entry_of arr 0) (pick t ((k + 1) ∷ present_from arr 0 (k + 1) n) (present_from arr 0 (k + 1) n))
      go true e r = cc
      go false e r = r

  pub entries-in-part : present_entries xs at 128 ≡ present_entries arr 0 128
  unfolding present_entries
  entries-in-part = from-in-part 128 0 (omega arith)

-- ---- the plan

module _ (B : ℕ) (xs : List ℕ) {f : ℕ} (e : f ≡ (reader_check B (length xs) (tables B xs)).number) {p : Plan} where
  pub plan-refused : {r : Refusal} → (f ≡ 0 → ⊥) → r ≡ refusal_of (plain f) → p ≡ no_plan (nowhere r) → Made xs p × (planned xs p ≡ reader_entries B xs)
  plan-refused {r} d q g = rw g (made_none xs (nowhere r), planned-none xs (nowhere r) ∙ refuses B xs e _ d q)

  pub plan-listed : {back : Bool} {at : ℕ} → f ≡ 0 → back ≡ takes_back B (length xs) (tables B xs) → at ≡ array_byte_place B (length xs) (side_of back)
      → Made xs p × (planned xs p ≡ accepted (present_entries xs at 128)) → Made xs p × (planned xs p ≡ reader_entries B xs)
  plan-listed {back} {at} z q a m =
      (m.0, m.1 ∙ accepts B xs e z (entries-in-part xs at ∙ ap (λ (l : List ℕ). present_entries l 0 128) (taken-array B xs q a)))

-- ---- 15 comes last

-- the test of the row, behind what is found before a row is lent
pub row_last : (m : ℕ) (es : List Entry) (w : Why) → roomed m (judged w es) ≡ judged (or_else w (when (ltb m (length es)) (plain 15))) es
unfolding roomed judged or_else
row_last m es w = by w.number refl
  where
    go : (t : Bool) → pick t (refuse 15) (accepted es) ≡ if_zero (when t (plain 15)).number (accepted es) (refused (when t (plain 15)))
    go true = refl
    go false = refl

    by : (n : ℕ) → w.number ≡ n
        → and_then (if_zero w.number (accepted es) (refused w)) (λ l. pick (ltb m (length l)) (refuse 15) (accepted l))
        ≡ if_zero (if_zero w.number (when (ltb m (length es)) (plain 15)) w).number (accepted es) (refused (if_zero w.number (when (ltb m (length es)) (plain 15)) w))
    by zero e = rw e (go (ltb m (length es)))
    by (suc n) e = rw e

pub read-within : (B : ℕ) (xs : List ℕ) (m : ℕ) → roomed m (reader_entries B xs) ≡ reader_read B xs m
unfolding reader_row_check
read-within B xs m = row_last m _ (reader_check B (length xs) (tables B xs))

-- ---- no refusal names a place

pub row-plainly : (w : Why) (es row : List Entry) → Bare w → plainly (row_outcome (judged w es) row).answer ≡ (row_outcome (judged w es) row).answer
unfolding judged row_outcome
row-plainly w es row b = by w.number
  where
    by : (n : ℕ) → plainly (row_outcome (if_zero n (accepted es) (refused w)) row).answer ≡ (row_outcome (if_zero n (accepted es) (refused w)) row).answer
    by zero = refl
    by (suc n) = ap refused (dropped-bare w b)

pub read-plainly : (B : ℕ) (xs : List ℕ) (m : ℕ) (row : List Entry) → plainly (row_outcome (reader_read B xs m) row).answer ≡ (row_outcome (reader_read B xs m) row).answer
unfolding reader_row_check
read-plainly B xs m row =
    row-plainly _ _ row (bare-else (reader_check B (length xs) (tables B xs)) _ (bare-reader B (length xs) (tables B xs)) (bare-when (ltb m (length (present_entries (taken_array B (length xs) (tables B xs)) 0 128))) 15))
