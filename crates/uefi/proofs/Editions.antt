-- The two reading editions side by side: where both accept, their headers are equal, and a header of 92 bytes that UEFI accepts is one that document 01 accepts.
-- No contract cites this file. Assumes nothing.
use mathlib.Core.Path.{◌≡◌, refl, sym, ap, ◌∙◌}
use mathlib.Core.Bool.{Bool, true, false, not, ◌&&◌}
use mathlib.Core.List.{List, ◌∷◌, ◌++◌, map}
use Prim.Native.Nat.{ℕ, zero, suc, ◌+◌, ◌*◌, ◌-◌, ◌/◌, ◌≤◌, ◌<◌}
use native.Mathlib.Nat.{one-mul}
use native.Mathlib.Omega.{arith}
use lib.Dec.{eqb, ltb}
use lib.ListN.{length, take, drop}
use lib.Seq.{drop-drop}
use borrow.Author.Tests.{eq-eqb, le-leb, leb-true, eqb-true, not-true, not-false}
use Rattle.units.specs.declared.why.Why.{Why}
use Rattle.units.specs.Answer.{Answer, accepted, refused, refuse, pick, and_then}
use Rattle.units.specs.declared.BytePlace.{BytePlace}
use Rattle.units.specs.Bytes.{part, num, same, all_zero}
use Rattle.units.specs.Places.{good_size, inside}
use Rattle.units.proofs.Laws.{by-pick, zero-append}
use Rattle.units.proofs.Lists.{part-split}
use Rattle.crc32.specs.Crc.{crc}
use Rattle.crc32.specs.HeaderSum.{blanked, header_sum}
use Rattle.header.specs.declared.Header.{Header}
use Rattle.header.specs.Format.{signature, header_at}
use Rattle.header.specs.Reading.{header_read, primary_read, backup_read}
use Rattle.partition.specs.Array.{present, present_from, array_found}
use Rattle.partition.proofs.Ways.{array_tells}
use Rattle.rows.specs.Slots.{slots_from, typed_each}
use Rattle.rows.specs.Row.{entry_of, present_entries, entry_each, typed_entries, partitions_read}
use Rattle.rows.specs.Plans.{roomed, entries_found}
use Rattle.rows.proofs.Laws.{found_within}
use Rattle.uefi.specs.Sizes.{doubled, good_each}
use Rattle.uefi.specs.Array.{array_by_uefi, entries_by_uefi, primary_entries, backup_entries}
use Rattle.uefi.specs.Reading.{stated_at, bad_stated, sized_sum, header_in, block_read, primary_by_uefi, backup_by_uefi}
use Rattle.uefi.proofs.Ways.{stated-yes}

-- what an accepted header tells, by UEFI
pub record Accepted (xs : List ℕ) (b lba at : ℕ) (h : Header) : Type 0 where
  pub within : at + b ≤ length xs
  pub signed : same (part xs at 8) signature ≡ true
  pub least : 92 ≤ h.header_size_le
  pub most : h.header_size_le ≤ b
  pub sum : sized_sum xs at h.header_size_le ≡ h.crc32
  pub clean : all_zero (part xs (at + h.header_size_le) (b - h.header_size_le)) ≡ true
  pub own : h.current_lba.0 ≡ lba
  pub header : h ≡ header_at xs at

pub accepted-tells : (xs : List ℕ) (b lba at : ℕ) (h : Header) → header_in xs b lba at ≡ accepted h → Accepted xs b lba at h
unfolding header_in inside
accepted-tells xs b lba at h =
    by-pick Q (not (inside (length xs) at b)) _ _ (λ _ e. never e)
    (λ i. by-pick Q (not (same (part xs at 8) signature)) _ _ (λ _ e. never e)
    (λ s. by-pick Q (bad_stated n b) _ _ (λ _ e. never e)
    (λ z. by-pick Q (not (eqb (sized_sum xs at n) (num xs (at + 16) 4))) _ _ (λ _ e. never e)
    (λ c. by-pick Q (not (all_zero (part xs (at + n) (b - n)))) _ _ (λ _ e. never e)
    (λ d. by-pick Q (not (eqb (num xs (at + 24) 8) lba)) _ _ (λ _ e. never e)
    (λ o e.
    let q : header_at xs at ≡ h = cc in
    let r = stated-yes n b refl z in
    rw (← q)
    (record {
      within = leb-true (at + b) (length xs) (not-false _ i);
      signed = not-false _ s;
      least = r.0;
      most = r.1;
      sum = eqb-true (sized_sum xs at n) (num xs (at + 16) 4) (not-false _ c);
      clean = not-false _ d;
      own = eqb-true (num xs (at + 24) 8) lba (not-false _ o);
      header = refl;
    })))))))
  where
    n : ℕ
    n = stated_at xs at

    Q : Answer Header → Type 0
    Q a = a ≡ accepted h → Accepted xs b lba at h

    never : {w : Why} → refused w ≡ accepted h → Accepted xs b lba at h
    never e = absurd (let z : ◌≡◌ {A = ℕ} 0 1 = cc in omega arith)

-- of 92 bytes the sums are the same
pub sized-92 : (xs : List ℕ) (at : ℕ) → sized_sum xs at 92 ≡ header_sum xs at
unfolding sized_sum header_sum blanked
sized-92 xs at = ap (λ (l : List ℕ). crc (take 16 (drop at xs) ++ (0 ∷ 0 ∷ 0 ∷ 0 ∷ take 72 l))) (sym (drop-drop 20 at xs))

-- ---- one place

-- a header that the first edition accepts is the one at the place
first-tells : (xs : List ℕ) (at : ℕ) (g : Header) → header_read xs at ≡ accepted g → header_at xs at ≡ g
unfolding header_read
first-tells xs at g =
    by-pick Q (not (inside (length xs) at 92)) _ _ (λ _ e. never e)
    (λ _. by-pick Q (not (same (part xs at 8) signature)) _ _ (λ _ e. never e)
    (λ _. by-pick Q (not (eqb (header_sum xs at) (num xs (at + 16) 4))) _ _ (λ _ e. never e)
    (λ _ e. cc)))
  where
    Q : Answer Header → Type 0
    Q a = a ≡ accepted g → header_at xs at ≡ g

    never : {w : Why} → refused w ≡ accepted g → header_at xs at ≡ g
    never e = absurd (let z : ◌≡◌ {A = ℕ} 0 1 = cc in omega arith)

-- where both accept, the headers are equal, whatever size is stated
pub both_at : (xs : List ℕ) (b lba at : ℕ) (h g : Header) → header_in xs b lba at ≡ accepted h → header_read xs at ≡ accepted g → h ≡ g
both_at xs b lba at h g e f = (accepted-tells xs b lba at h e).header ∙ first-tells xs at g f

-- and of 92 bytes, what UEFI accepts document 01 accepts
pub first-at : (xs : List ℕ) (b lba at : ℕ) (h : Header) → header_in xs b lba at ≡ accepted h → h.header_size_le ≡ 92 → header_read xs at ≡ accepted h
unfolding header_read inside
first-at xs b lba at h e n =
    let a = accepted-tells xs b lba at h e in
    let own : num xs (at + 16) 4 ≡ h.crc32 = ap (λ (y : Header). y.crc32) (sym a.header) in
    let s : header_sum xs at ≡ num xs (at + 16) 4 = sym (sized-92 xs at) ∙ ap (sized_sum xs at) (sym n) ∙ a.sum ∙ sym own in
    rw (le-leb (at + 92) (length xs) (omega (arith, a.within, a.most)), a.signed, eq-eqb (header_sum xs at) (num xs (at + 16) 4) s) (ap accepted (sym a.header))

-- ---- the primary and the backup

-- one test in front: an accepted answer has passed it
past : {A : Type 0} (t : Bool) (n : ℕ) (a : Answer A) (x : A) → pick t (refuse n) a ≡ accepted x → (t ≡ false) × (a ≡ accepted x)
past true n a x e = absurd (let z : ◌≡◌ {A = ℕ} 0 1 = cc in omega arith)
past false n a x e = (refl, e)

module _ (xs : List ℕ) (b : ℕ) (h : Header) where
  primary-tells : primary_by_uefi xs b ≡ accepted h → (not (good_size b) ≡ false) × (header_in xs b 1 b ≡ accepted h)
  unfolding primary_by_uefi
  primary-tells e =
      let p = past (not (good_size b)) 1 (block_read xs b 1) h e in
      (p.0, rw (one-mul b) at p.1)

  backup-tells : backup_by_uefi xs b ≡ accepted h
      → (not (good_size b) ≡ false) × (ltb (length xs) (3 * b) ≡ false) × (block_read xs b ((length xs - b) / b) ≡ accepted h)
  unfolding backup_by_uefi
  backup-tells e =
      let p = past (not (good_size b)) 1 _ h e in
      let q = past (ltb (length xs) (3 * b)) 8 (block_read xs b ((length xs - b) / b)) h p.1 in
      (p.0, q.0, q.1)

  pub primary-both : (g : Header) → primary_by_uefi xs b ≡ accepted h → primary_read xs b ≡ accepted g → h ≡ g
  unfolding primary_read
  primary-both g e f =
      both_at xs b 1 b h g (primary-tells e).1 (past (not (good_size b)) 1 (header_read xs b) g f).1

  pub primary-first : primary_by_uefi xs b ≡ accepted h → h.header_size_le ≡ 92 → primary_read xs b ≡ accepted h
  unfolding primary_read
  primary-first e n = let p = primary-tells e in rw p.0 (first-at xs b 1 b h p.1 n)

  pub backup-both : (g : Header) → backup_by_uefi xs b ≡ accepted h → backup_read xs b ≡ accepted g → h ≡ g
  unfolding backup_read
  backup-both g e f =
      let l : ℕ = (length xs - b) / b in
      let p = past (not (good_size b)) 1 _ g f in
      both_at xs b l (l * b) h g (backup-tells e).2 (past (ltb (length xs) (3 * b)) 8 (header_read xs (l * b)) g p.1).1

  pub backup-first : backup_by_uefi xs b ≡ accepted h → h.header_size_le ≡ 92 → backup_read xs b ≡ accepted h
  unfolding backup_read
  backup-first e n =
      let l : ℕ = (length xs - b) / b in
      let p = backup-tells e in
      rw (p.0, p.1) (first-at xs b l (l * b) h p.2 n)

  -- an accepted backup names the last whole block as its own
  pub backup-own : backup_by_uefi xs b ≡ accepted h → h.current_lba.0 ≡ (length xs - b) / b
  backup-own e = let l : ℕ = (length xs - b) / b in (accepted-tells xs b l (l * b) h (backup-tells e).2).own

-- ---- the array

-- of entries of 128 bytes, both editions find the same array, with the same refusals
pub same-array : (xs : List ℕ) (h : Header) (b : ℕ) → h.part_size ≡ 128 → array_by_uefi xs h b ≡ array_found xs h b
unfolding array_by_uefi array_found good_each doubled
same-array xs h b e = rw e

-- an entry that is used by its type is present in the first edition
pub used-present : (xs : List ℕ) (at k : ℕ) → typed_each xs 128 at k ≡ true → present xs at k ≡ true
unfolding typed_each
used-present xs at k e =
    let p : ℕ = at + k * 128 in
    let s : all_zero (part xs p 128) ≡ (all_zero (part xs p 16) && all_zero (part xs (p + 16) 112)) =
    ap all_zero (part-split xs p 16 112) ∙ zero-append (part xs p 16) (part xs (p + 16) 112) in
    rw (s, not-true (all_zero (part xs p 16)) e)

-- no entry of n has a nil type and other bytes
pub Tidy : List ℕ → ℕ → ℕ → Type 0
Tidy xs at n = (k : ℕ) → k < n → typed_each xs 128 at k ≡ false → present xs at k ≡ false

-- then the two tests find the same slots
same_test : (xs : List ℕ) (at n k : ℕ) → Tidy xs at n → k < n → typed_each xs 128 at k ≡ present xs at k
unfolding Tidy
same_test xs at n k d h = go (typed_each xs 128 at k) refl
  where
    go : (t : Bool) → typed_each xs 128 at k ≡ t → t ≡ present xs at k
    go true e = sym (used-present xs at k e)
    go false e = sym (d k h e)

same-slots : (xs : List ℕ) (at n k m : ℕ) → Tidy xs at n → k + m ≤ n → slots_from (typed_each xs 128 at) k m ≡ present_from xs at k m
unfolding slots_from present_from
same-slots xs at n k zero d h = refl
same-slots xs at n k (suc m) d h = rw (same_test xs at n k d (omega arith), same-slots xs at n (k + 1) m d (omega arith))

same_entries : (xs : List ℕ) (at n : ℕ) → Tidy xs at n → typed_entries xs 128 at n ≡ present_entries xs at n
unfolding typed_entries present_entries entry_each entry_of
same_entries xs at n d = ap (map (entry_of xs at)) (same-slots xs at n 0 n d (omega arith))

-- and the rows are equal, with all refusals, whatever room they have
module _ (xs : List ℕ) (h : Header) (b : ℕ) (e : h.part_size ≡ 128) (d : Tidy xs (h.part_start.0 * b) h.num_parts) where
  pub same-found : entries_by_uefi xs h b ≡ entries_found xs h b
  unfolding entries_by_uefi entries_found
  same-found =
      ap (λ (a : Answer BytePlace). and_then a (λ at. accepted (typed_entries xs h.part_size at.0 h.num_parts))) (same-array xs h b e) ∙ go (array_found xs h b) refl
    where
      go : (a : Answer BytePlace) → array_found xs h b ≡ a
          → and_then a (λ at. accepted (typed_entries xs h.part_size at.0 h.num_parts)) ≡ and_then a (λ at. accepted (present_entries xs at.0 h.num_parts))
      go (refused w) f = refl
      go (accepted at) f =
          let p : at.0 ≡ h.part_start.0 * b = (array_tells xs h b at f).place in
          let t : Tidy xs at.0 h.num_parts = rw p d in
          ap accepted (ap (λ (s : ℕ). typed_entries xs s at.0 h.num_parts) e ∙ same_entries xs at.0 h.num_parts t)

  pub same_row : (m : ℕ) → roomed m (entries_by_uefi xs h b) ≡ partitions_read xs h b m
  same_row m = ap (roomed m) same-found ∙ found_within xs h b m

-- a table of a 92-byte header, read in one: what the first edition reads in two calls
module _ (xs : List ℕ) (b : ℕ) (h : Header) (n : h.header_size_le ≡ 92) (e : h.part_size ≡ 128) (d : Tidy xs (h.part_start.0 * b) h.num_parts) where
  pub primary-row : primary_by_uefi xs b ≡ accepted h → (m : ℕ) → (primary_read xs b ≡ accepted h) × (roomed m (primary_entries xs b) ≡ partitions_read xs h b m)
  unfolding primary_entries
  primary-row f m = (primary-first xs b h f n, rw f (same_row xs h b e d m))

  pub backup-row : backup_by_uefi xs b ≡ accepted h → (m : ℕ) → (backup_read xs b ≡ accepted h) × (roomed m (backup_entries xs b) ≡ partitions_read xs h b m)
  unfolding backup_entries
  backup-row f m = (backup-first xs b h f n, rw f (same_row xs h b e d m))
