-- The laws of the plans by UEFI: what each way of making one gives, that no refusal names a place, and how many entries a plan counts. No contract cites this file. Assumes nothing.
use mathlib.Core.Path.{◌≡◌, refl, ap, ◌∙◌}
use mathlib.Core.Bool.{Bool, true, false, not}
use mathlib.Core.List.{List}
use Prim.Native.Nat.{ℕ, ◌+◌, ◌*◌, ◌-◌, ◌/◌, ◌^◌}
use lib.Dec.{eqb, ltb, leb}
use lib.ListN.{length}
use Rattle.units.specs.declared.BytePlace.{BytePlace}
use Rattle.units.specs.declared.Refusal.{Refusal}
use Rattle.units.specs.Answer.{Answer, accepted, refused, refuse, pick, and_then}
use Rattle.units.specs.Bytes.{part, num, same, all_zero}
use Rattle.units.specs.Places.{good_size, inside, inside_or_empty}
use Rattle.units.specs.Refusals.{refused_by}
use Rattle.units.specs.Meanings.{card_means}
use Rattle.crc32.specs.Crc.{crc}
use Rattle.header.specs.declared.Header.{Header}
use Rattle.header.specs.Format.{signature}
use Rattle.header.specs.Writing.{array_bytes}
use Rattle.rows.specs.declared.Entry.{Entry}
use Rattle.rows.specs.declared.inner.Plan.{Plan}
use Rattle.rows.specs.Row.{typed_entries, row_outcome}
use Rattle.rows.specs.Plans.{Made, entries_by, planned, no_plan, nowhere, roomed, plan_count, plainly}
use Rattle.rows.proofs.Laws.{made_none, planned-none}
use Rattle.uefi.specs.Reading.{stated_at, bad_stated, sized_sum, header_in, primary_by_uefi, backup_by_uefi}
use Rattle.uefi.specs.Sizes.{good_each}
use Rattle.uefi.specs.Array.{array_by_uefi, entries_by_uefi, counted, primary_entries, backup_entries}

-- ---- the ways of making a plan

module _ (xs : List ℕ) (h : Header) (b : ℕ) {p : Plan} where
  pub array-refused : {w : Refusal} → array_by_uefi xs h b ≡ refused_by w → p ≡ no_plan (nowhere w) → Made xs p × (planned xs p ≡ entries_by_uefi xs h b)
  unfolding entries_by_uefi
  array-refused {w} e f = rw (f, e) (made_none xs (nowhere w), planned-none xs (nowhere w))

  pub array-listed : {at : BytePlace} → array_by_uefi xs h b ≡ accepted at
      → Made xs p × (planned xs p ≡ accepted (typed_entries xs h.part_size at.0 h.num_parts))
      → Made xs p × (planned xs p ≡ entries_by_uefi xs h b)
  unfolding entries_by_uefi
  array-listed e f = rw e f

-- a header that was read, or its refusal
module _ (xs : List ℕ) (b : ℕ) {a : Answer Header} {p : Plan} where
  pub read_none : {w : Refusal} → a ≡ refused_by w → p ≡ no_plan (nowhere w) → Made xs p × (planned xs p ≡ and_then a (λ h. entries_by_uefi xs h b))
  read_none {w} e f = rw (f, e) (made_none xs (nowhere w), planned-none xs (nowhere w))

  pub read_some : {h : Header} → a ≡ accepted h → Made xs p × (planned xs p ≡ entries_by_uefi xs h b) → Made xs p × (planned xs p ≡ and_then a (λ g. entries_by_uefi xs g b))
  read_some e f = rw e f

-- ---- no refusal names a place

plain-pick : {A : Type 0} (t : Bool) (n : ℕ) (a : Answer A) → plainly a ≡ a → plainly (pick t (refuse n) a) ≡ pick t (refuse n) a
plain-pick true n a e = refl
plain-pick false n a e = e

plain_then : {A B : Type 0} (a : Answer A) (f : A → Answer B) → plainly a ≡ a → ((x : A) → plainly (f x) ≡ f x) → plainly (and_then a f) ≡ and_then a f
plain_then (accepted x) f e g = g x
plain_then {A} {B} (refused w) f e g = ap (λ (a : Answer A). and_then {B = B} a (λ x. f x)) e

module _ (xs : List ℕ) where
  plain-header : (b lba at : ℕ) → plainly (header_in xs b lba at) ≡ header_in xs b lba at
  unfolding header_in
  plain-header b lba at =
      plain-pick (not (inside (length xs) at b)) 2 _ (plain-pick (not (same (part xs at 8) signature)) 4 _ (plain-pick (bad_stated (stated_at xs at) b) 29 _
      (plain-pick (not (eqb (sized_sum xs at (stated_at xs at)) (num xs (at + 16) 4))) 5 _ (plain-pick (not (all_zero (part xs (at + stated_at xs at) (b - stated_at xs at)))) 30 _
      (plain-pick (not (eqb (num xs (at + 24) 8) lba)) 31 _ refl)))))

  plain-primary : (b : ℕ) → plainly (primary_by_uefi xs b) ≡ primary_by_uefi xs b
  unfolding primary_by_uefi
  plain-primary b = plain-pick (not (good_size b)) 1 _ (plain-header b 1 (1 * b))

  plain-backup : (b : ℕ) → plainly (backup_by_uefi xs b) ≡ backup_by_uefi xs b
  unfolding backup_by_uefi
  plain-backup b = plain-pick (not (good_size b)) 1 _ (plain-pick (ltb (length xs) (3 * b)) 8 _ (plain-header b ((length xs - b) / b) ((length xs - b) / b * b)))

  plain-array : (h : Header) (b : ℕ) → plainly (array_by_uefi xs h b) ≡ array_by_uefi xs h b
  unfolding array_by_uefi
  plain-array h b =
      plain-pick (not (good_size b)) 1 _ (plain-pick (not (good_each h.part_size)) 7 _ (plain-pick (leb (2 ^ 64) (h.part_start.0 * b)) 3 _
      (plain-pick (not (inside_or_empty (length xs) (h.part_start.0 * b) (array_bytes h))) 2 _
      (plain-pick (not (eqb (crc (part xs (h.part_start.0 * b) (array_bytes h))) h.crc32_parts)) 6 _ refl))))

  pub plain-entries : (h : Header) (b : ℕ) → plainly (entries_by_uefi xs h b) ≡ entries_by_uefi xs h b
  unfolding entries_by_uefi
  plain-entries h b = plain_then (array_by_uefi xs h b) _ (plain-array h b) (λ at. refl)

  pub plain-primary-entries : (b : ℕ) → plainly (primary_entries xs b) ≡ primary_entries xs b
  unfolding primary_entries
  plain-primary-entries b = plain_then (primary_by_uefi xs b) (λ h. entries_by_uefi xs h b) (plain-primary b) (λ h. plain-entries h b)

  pub plain-backup-entries : (b : ℕ) → plainly (backup_entries xs b) ≡ backup_entries xs b
  unfolding backup_entries
  plain-backup-entries b = plain_then (backup_by_uefi xs b) (λ h. entries_by_uefi xs h b) (plain-backup b) (λ h. plain-entries h b)

-- nor does the row's answer
pub plain_row : (m : ℕ) (a : Answer (List Entry)) (row : List Entry) → plainly a ≡ a → plainly (row_outcome (roomed m a) row).answer ≡ (row_outcome (roomed m a) row).answer
unfolding roomed row_outcome
plain_row m (accepted es) row e = go (ltb m (length es))
  where
    go : (t : Bool) → plainly (row_outcome (pick t (refuse 15) (accepted es)) row).answer ≡ (row_outcome (pick t (refuse 15) (accepted es)) row).answer
    go true = refl
    go false = refl
plain_row m (refused w) row e = ap (λ (a : Answer (List Entry)). and_then a (λ es. accepted (length es))) e

-- ---- the count of a plan

pub plan-counts : (xs : List ℕ) (p : Plan) (a : Answer (List Entry)) → plainly a ≡ a → Made xs p × (planned xs p ≡ a) → plainly (plan_count p) ≡ counted a
unfolding plan_count planned
plan-counts xs p a e m = ap plainly (by (card_means p.verdict) ∙ ap counted m.1) ∙ plain_then a (λ es. accepted (length es)) e (λ es. refl)
  where
    by : (v : Answer Unit) → and_then v (λ u. accepted p.present) ≡ counted (and_then v (λ u. accepted (entries_by xs p)))
    by (accepted u) = ap accepted m.0.counted
    by (refused w) = refl
