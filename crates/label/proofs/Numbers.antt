-- The numbers of the tests before the slots: the card check's are up to 17, and 38 is the only other one. No contract cites this file. Assumes nothing.
use mathlib.Core.Path.{◌≡◌, refl}
use mathlib.Core.Logic.{◌⊎◌, inl, inr}
use mathlib.Core.Bool.{Bool, true, false, not}
use mathlib.Core.List.{List}
use Prim.Native.Nat.{ℕ, zero, suc, ◌+◌, ◌*◌, ◌-◌, ◌≤◌}
use native.Mathlib.Omega.{arith}
use lib.Dec.{T, eqb, leb, ltb, leb→le}
use lib.ListN.{length}
use Rattle.units.specs.declared.Place.{Place}
use Rattle.units.specs.declared.Place.TheVariants as place
use Rattle.units.specs.declared.why.Why.{Why}
use Rattle.units.specs.Answer.{plain, placed, fine, within, when, if_zero, or_else}
use Rattle.units.specs.Bytes.{part, same}
use Rattle.units.specs.Places.{good_size}
use Rattle.crc32.specs.Crc.{crc}
use Rattle.crc32.specs.HeaderSum.{header_sum}
use Rattle.header.specs.Format.{signature, header_at}
use Rattle.tables.specs.Places.{blocks, array_blocks}
use Rattle.tables.specs.Lens.{Side, Front, Back, Tables}
use Rattle.tables.specs.Entries.{entries_ok}
use Rattle.tables.specs.Headers.{laid_fields}
use Rattle.tables.specs.Check.{check, room_check, copy_check, pair_check, head_of, guid_of, differs}
use Rattle.label.specs.Judging.{set_check}

-- a refusal by a number up to 17, or none
pub record Low (w : Why) : Type 0 where
  pub low : w.number ≤ 17

low-else : (a b : Why) → Low a → Low b → Low (or_else a b)
unfolding or_else
low-else a b p q = by a.number
  where
    by : (n : ℕ) → Low (if_zero n b a)
    by zero = q
    by (suc n) = p

low-when : (t : Bool) (w : Why) → T (leb w.number 17) → Low (when t w)
low-when true w h = record { low = leb→le w.number 17 h }
low-when false w h = record { low = omega arith }

low-within : (p : Place) (w : Why) → Low w → Low (within p w)
unfolding within
low-within p w h = by w.number h.low
  where
    by : (n : ℕ) → n ≤ 17 → Low (if_zero n fine (record { number = n; slot = w.slot; place = p }))
    by zero q = record { low = omega arith }
    by (suc n) q = record { low = q }

module _ (B n : ℕ) where
  low-room : Low (room_check B n)
  unfolding room_check
  low-room = low-else _ _ (low-when (not (good_size B)) (plain 1) tt) (low-else _ _ (low-when (ltb n (3 * B)) (plain 8) tt) (low-when (ltb (blocks B n - 1) (2 * array_blocks B + 3)) (plain 10) tt))

  low-copy : (s : Side) (x arr : List ℕ) → Low (copy_check B n s x arr)
  unfolding copy_check
  low-copy s x arr =
      low-else _ _ (low-when (not (same (part x 0 8) signature)) (plain 4) tt)
      (low-else _ _ (low-when (not (eqb (header_sum x 0) (header_at x 0).crc32)) (plain 5) tt)
      (low-else _ _ (low-when (not (laid_fields B n s (header_at x 0))) (plain 16) tt) (low-when (not (eqb (crc arr) (header_at x 0).crc32_parts)) (plain 6) tt)))

  low-pair : (g h x y : List ℕ) → Low (pair_check B n g h x y)
  unfolding pair_check
  low-pair g h x y =
      low-else _ _ (low-when (not (same g h)) (placed 17 place.DiskGuid) tt)
      (low-else _ _ (low-when (not (same x y)) (placed 17 (place.InSlot (record { 0 = differs x y + 1 }))) tt) (low-when (not (entries_ok B n x)) (placed 16 place.Front) tt))

  -- the card check refuses by no number past 17
  pub low-check : (t : Tables) → Low (check B n t)
  unfolding check
  low-check t =
      low-else _ _ low-room
      (low-else _ _ (low-within place.Front _ (low-copy Front (head_of t.front) t.front.array))
      (low-else _ _ (low-within place.Back _ (low-copy Back (head_of t.back) t.back.array))
      (low-pair (guid_of t.front) (guid_of t.back) t.front.array t.back.array)))

  -- the tests before the slots refuse by such a number or by 38
  pub set-numbers : (t : Tables) (ss : List ℕ) → ((set_check B n t ss).number ≤ 17) ⊎ ((set_check B n t ss).number ≡ 38)
  unfolding set_check or_else
  set-numbers t ss = by (good_size B) (eqb (length ss) 0)
    where
      by : (g e : Bool) → ((or_else (when (not g) (plain 1)) (or_else (when e (plain 38)) (check B n t))).number ≤ 17) ⊎ ((or_else (when (not g) (plain 1)) (or_else (when e (plain 38)) (check B n t))).number ≡ 38)
      by false e = inl (omega arith)
      by true true = inr refl
      by true false = inl (low-check t).low
