-- The laws of the rows in bytes: one row stored, the rows that are left, and what the lent bytes hold at the end. No contract cites this file. Assumes nothing.
use mathlib.Core.Path.{◌≡◌, ◌∙◌}
use mathlib.Core.List.{List, [], ◌∷◌}
use Prim.Native.Nat.{ℕ, ◌+◌, ◌*◌, ◌-◌, ◌/◌, ◌^◌, ◌≤◌, ◌<◌}
use native.Mathlib.Omega.{arith}
use lib.ListN.{length, length-append, drop_of_length-le}
use lib.Seq.{sets}
use Rattle.units.specs.declared.Slot.{Slot}
use Rattle.units.specs.Answer.{Answer, Ends}
use Rattle.units.specs.Bytes.{num, bytes}
use Rattle.units.proofs.Lists.{sets_then, and_then}
use Rattle.units.proofs.Laws.{length-bytes, num-here}
use Rattle.partition.specs.Flags.{Joins}
use Rattle.partition.specs.Format.{entry_at, entry_bytes}
use Rattle.partition.proofs.FlagLaws.{flags-join}
use Rattle.partition.proofs.Laws as partition
use Rattle.rows.specs.declared.Entry.{Entry}
use Rattle.rows.specs.declared.inner.Plan.{Plan}
use Rattle.rows.specs.Slots.{place_each}
use Rattle.rows.specs.Row.{entry_each}
use Rattle.rows.specs.Plans.{InArray, Made, entries_by, entry_by, slot_after, planned, plan_within, roomed, plan_count}
use Rattle.rows.proofs.Laws.{left, left_step, by-plan}
use Rattle.rows.specs.RowBytes.{row_bytes, rows_bytes, bytes_outcome}

-- ---- one row

module _ (e : Entry) where
  pub row-stored : (out : List ℕ) (at : ℕ) {o₁ o₂ : List ℕ} → o₁ ≡ sets out at (bytes 8 e.slot.0) → o₂ ≡ sets o₁ (at + 8) (entry_bytes e.partition) → o₂ ≡ sets out at (row_bytes e)
  unfolding row_bytes
  row-stored out at f g = and_then out at (bytes 8 e.slot.0) (at + 8) (entry_bytes e.partition) (rw length-bytes) f g

  -- the slot reads back
  pub row-slot : e.slot.0 < 2 ^ 32 → num (row_bytes e) 0 8 ≡ e.slot.0
  unfolding row_bytes
  row-slot h = num-here 8 e.slot.0 (entry_bytes e.partition) (omega arith)

-- a record that was read has 36 units in its name, so its bytes are 128
record-length : (xs : List ℕ) (at : ℕ) → length (entry_bytes (entry_at xs at)) ≡ 128
record-length xs at = partition.length-entry (entry_at xs at) (partition.length-cleared _ ∙ partition.length-units 36 xs (at + 56))

-- and the flags that were read can be joined again
pub row-joins : (xs : List ℕ) (p : Plan) (s : Slot) {e : Entry} → e ≡ entry_by xs p s → Joins e.partition.flags
unfolding entry_each
row-joins xs p s f = rw f (flags-join _)

pub row-length : (xs : List ℕ) (p : Plan) (s : Slot) → length (row_bytes (entry_by xs p s)) ≡ 136
unfolding row_bytes entry_each
row-length xs p s =
    let at : ℕ = place_each p.each p.place.0 (s.0 - 1) in
    omega (arith, length-append (bytes 8 s.0) (entry_bytes (entry_at xs at)), length-bytes 8 s.0, record-length xs at)

-- ---- the loop: i rows are stored, and the entries after slot s are left

module _ (xs : List ℕ) (q : Plan) (s : Slot) where
  -- where any are left, the next slot is one of the array's, and its entry is the first of them
  pub next-left : 0 < length (left xs q s) → {t : Slot} → t ≡ slot_after xs q s → InArray q t × (left xs q s ≡ entry_by xs q t ∷ left xs q t)
  next-left l f = rw f (left_step xs q s (length (left xs q s) - 1) (omega arith))

  -- its row, and then those that are left
  pub rows_more : (t : Slot) (i : ℕ) (out : List ℕ) {e : Entry} {o : List ℕ} → left xs q s ≡ entry_by xs q t ∷ left xs q t → e ≡ entry_by xs q t → o ≡ sets out (136 * i) (row_bytes e)
      → sets o (136 * (i + 1)) (rows_bytes (left xs q t)) ≡ sets out (136 * i) (rows_bytes (left xs q s))
  unfolding rows_bytes
  rows_more t i out f g h =
      rw (h, g, f) (sets_then out (136 * i) (row_bytes (entry_by xs q t)) (136 * (i + 1)) (rows_bytes (left xs q t)) (omega (arith, row-length xs q t)))

  -- after the last one there is nothing to store
  pub rows_none : (out : List ℕ) (at : ℕ) → length (left xs q s) ≡ 0 → sets out at (rows_bytes (left xs q s)) ≡ out
  unfolding rows_bytes
  rows_none out at l =
      let h : length (left xs q s) ≤ 0 = omega arith in
      let n : left xs q s ≡ [] = drop_of_length-le (left xs q s) h in
      rw n

-- ---- the lent bytes at the end

pub bytes-ends : (xs : List ℕ) (p : Plan) (out : List ℕ) → Made xs p → {q : Plan} {a : Answer ℕ} {ys : List ℕ}
    → q ≡ plan_within (length out / 136) p → a ≡ plan_count q → ys ≡ sets out 0 (rows_bytes (entries_by xs q))
    → Ends (bytes_outcome (roomed (length out / 136) (planned xs p)) out) a ys
unfolding bytes_outcome rows_bytes
bytes-ends xs p out d {q} {a} {ys} e =
    by-plan xs (length out / 136) p d e (λ o k es. a ≡ k → ys ≡ sets out 0 (rows_bytes es) → Ends (bytes_outcome o out) a ys)
    (λ es f g. record { answer = f; image = g }) (λ w f g. record { answer = f; image = g })
