-- The laws of the listing: it may be made on the image, and it lists exactly the slots that the card holds, with their records.
-- No contract cites this file. Assumes nothing.
use mathlib.Core.Path.{◌≡◌, refl, sym, ap, ◌∙◌}
use mathlib.Core.Bool.{Bool, true, false, not}
use mathlib.Core.List.{List, [], ◌∷◌, map}
use Prim.Native.Nat.{ℕ, zero, suc, ◌+◌, ◌*◌, ◌-◌, ◌≤◌, ◌<◌}
use native.Mathlib.Omega.{arith}
use lib.ListN.{length}
use Rattle.units.specs.Answer.{pick}
use Rattle.units.specs.Bytes.{part, all_zero}
use Rattle.partition.specs.Format.{entry_at, entry_bytes}
use Rattle.partition.specs.Array.{Found, entry_place, present, present_from}
use Rattle.tables.specs.Lens.{Tables, tables_at}
use Rattle.tables.specs.Entries.{entry}
use Rattle.listing.specs.Listing.{present_slots, listed}
use Rattle.history.specs.History.{filled_from}
use Rattle.history.proofs.State.{state-front}
use Rattle.history.proofs.Readers.{present-is, entry-reads}
use Rattle.history.proofs.Steps.{Holds}

-- ---- what is held is listed

-- as many as the slots that are listed
length-listed : (t : Tables) (l : List ℕ) → length (map (listed t) l) ≡ length l
length-listed t [] = refl
length-listed t (x ∷ l) = ap suc (length-listed t l)

module _ {B n : ℕ} {g xs : List ℕ} {slots : ℕ → Found} (h : Holds B n g slots xs) where
  -- what stands at array place k
  place-bytes : (k : ℕ) → k < 128 → part h.array (entry_place 0 k) 128 ≡ entry_bytes (slots (k + 1)).partition
  unfolding entry
  place-bytes k l =
      let e : 0 + k * 128 ≡ 128 * (k + 1 - 1) = omega arith in
      ap (λ (j : ℕ). part h.array j 128) e ∙ h.places (k + 1) (omega arith) (omega arith)

  present-told : (k : ℕ) → k < 128 → present h.array 0 k ≡ (slots (k + 1)).present
  present-told k l = ap (λ (x : List ℕ). not (all_zero x)) (place-bytes k l) ∙ present-is (slots (k + 1)) (h.kept (k + 1))

  record-told : (k : ℕ) → k < 128 → entry_at h.array (entry_place 0 (k + 1 - 1)) ≡ (slots (k + 1)).partition
  record-told k l =
      let e : k + 1 - 1 ≡ k = omega arith in
      entry-reads h.array (entry_place 0 (k + 1 - 1)) (slots (k + 1)) (h.kept (k + 1)) (rw e (place-bytes k l))

  listed-told : (k m : ℕ) → k + m ≤ 128
      → map (λ (s : ℕ). record { slot = s; partition = entry_at h.array (entry_place 0 (s - 1)) }) (present_from h.array 0 k m) ≡ filled_from slots k m
  unfolding present_from filled_from
  listed-told k zero l = refl
  listed-told k (suc m) l =
      rw (present-told k (omega arith))
      (go (slots (k + 1)).present (record-told k (omega arith)) (listed-told (k + 1) m (omega arith)))
    where
      go : (t : Bool) → entry_at h.array (entry_place 0 (k + 1 - 1)) ≡ (slots (k + 1)).partition
          → map (λ (s : ℕ). record { slot = s; partition = entry_at h.array (entry_place 0 (s - 1)) }) (present_from h.array 0 (k + 1) m) ≡ filled_from slots (k + 1) m
          → map (λ (s : ℕ). record { slot = s; partition = entry_at h.array (entry_place 0 (s - 1)) }) (pick t ((k + 1) ∷ present_from h.array 0 (k + 1) m) (present_from h.array 0 (k + 1) m))
          ≡ pick t (record { slot = k + 1; partition = (slots (k + 1)).partition } ∷ filled_from slots (k + 1) m) (filled_from slots (k + 1) m)
      go true e r = cc
      go false e r = r

  -- a card lists what its slots hold
  pub lists-held : map (listed (tables_at B n xs)) (present_slots (tables_at B n xs)) ≡ filled_from slots 0 128
  unfolding present_slots
  lists-held =
      ap (λ (a : List ℕ). map (λ (s : ℕ). record { slot = s; partition = entry_at a (entry_place 0 (s - 1)) }) (present_from a 0 0 128)) (state-front h.state)
      ∙ listed-told 0 128 (omega arith)

  pub counts-held : length (present_slots (tables_at B n xs)) ≡ length (filled_from slots 0 128)
  counts-held = sym (length-listed (tables_at B n xs) (present_slots (tables_at B n xs))) ∙ ap length lists-held
