-- What an accepted label write leaves: both tables as they were, every byte but 13 as it was, and a label that reads back. No contract cites this file. Assumes nothing.
use mathlib.Core.Path.{◌≡◌, refl, sym, ap, ◌∙◌, subst}
use mathlib.Core.Logic.{◌⊎◌}
use mathlib.Core.List.Memᴰ
use mathlib.Core.List.{List, [], ◌∷◌}
use Prim.Native.Nat.{ℕ, ◌+◌, ◌≤◌, ◌<◌}
use lib.ListN.{length, get_or}
use lib.Seq.{sets}
use Rattle.units.specs.Answer.{Outcome, Answer, accepted}
use Rattle.units.specs.Bytes.{part}
use Rattle.units.proofs.Lists.{part_same, get_d-out}
use Rattle.tables.specs.Lens.{Tables, tables_at, tables}
use Rattle.card.specs.Calls.{used_check, payload_at}
use Rattle.history.proofs.Payload.{payload-tables, payload-length, pay-fits}
use Rattle.label.specs.declared.Label.{Label}
use Rattle.label.specs.Labels.{label_bytes, label_of, dated_of, LabelHeld}
use Rattle.label.specs.Calls.{label_place, label_part, read_label_answer, write_label_outcome}
use Rattle.label.specs.Judging.{one_date, judge_answer}
use Rattle.label.specs.Sets.{Carries}
use Rattle.label.proofs.Ways.{read-labelled, length_label}
use Rattle.label.proofs.Shows.{carries}
use Rattle.label.proofs.Theorems.{label-back, written-used, written-date, written-image, written-pays, write-is-payload, set-accepted}

module _ (B : ℕ) (xs : List ℕ) (s : ℕ) (l : Label) (e : (write_label_outcome B xs s l).answer ≡ accepted tt) where
  as-payload : (payload_at B (length xs) xs s 0 (label_bytes l)).image ≡ (write_label_outcome B xs s l).image
  as-payload = ap (λ (o : Outcome (Answer ℕ)). o.image) (write-is-payload B xs s l e)

  -- the image keeps its length
  pub written-length : length (write_label_outcome B xs s l).image ≡ length xs
  written-length = ap length (sym as-payload) ∙ payload-length B (length xs) xs refl s 0 (label_bytes l) (written-pays B xs s l e)

  -- both tables are as they were
  pub written-tables : tables B (write_label_outcome B xs s l).image ≡ tables B xs
  written-tables =
      ap (λ (n : ℕ). tables_at B n (write_label_outcome B xs s l).image) written-length
      ∙ ap (λ (i : List ℕ). tables_at B (length xs) i) (sym as-payload)
      ∙ payload-tables B (length xs) xs refl s 0 (label_bytes l) (written-pays B xs s l e)

  -- every byte but the 13 is as it was
  pub written-beside : (i : ℕ) → (i < label_place B (tables B xs) s) ⊎ (label_place B (tables B xs) s + 13 ≤ i) → get_or (write_label_outcome B xs s l).image i 0 ≡ get_or xs i 0
  written-beside i o =
      ap (λ (x : List ℕ). get_or x i 0) (written-image B xs s l e)
      ∙ get_d-out xs (label_place B (tables B xs) s) (label_bytes l) i (subst (λ (n : ℕ). (i < label_place B (tables B xs) s) ⊎ (label_place B (tables B xs) s + n ≤ i)) (sym (length_label l)) o)

  written-part : label_part B (write_label_outcome B xs s l).image s ≡ label_bytes l
  written-part =
      ap (λ (t : Tables). part (write_label_outcome B xs s l).image (label_place B t s) 13) written-tables
      ∙ ap (λ (i : List ℕ). part i (label_place B (tables B xs) s) 13) (written-image B xs s l e)
      ∙ ap (λ (n : ℕ). part (sets xs (label_place B (tables B xs) s) (label_bytes l)) (label_place B (tables B xs) s) n) (sym (length_label l))
      ∙ part_same xs (label_place B (tables B xs) s) (label_bytes l) (pay-fits B (length xs) xs refl s 0 (label_bytes l) (written-pays B xs s l e))

  -- a label that was written reads back
  pub written-reads : LabelHeld l → read_label_answer B (write_label_outcome B xs s l).image s ≡ accepted l
  written-reads h =
      let z : (used_check B (length (write_label_outcome B xs s l).image) (tables B (write_label_outcome B xs s l).image) s).number ≡ 0 =
      ap (λ (n : ℕ). (used_check B n (tables B (write_label_outcome B xs s l).image) s).number) written-length
      ∙ ap (λ (t : Tables). (used_check B (length xs) t s).number) written-tables
      ∙ written-used B xs s l e in
      sym (read-labelled B (write_label_outcome B xs s l).image s z (sym (ap label_of written-part ∙ label-back l h (written-date B xs s l e))))

  -- and the slot alone is a set of its date
  pub written-judged : LabelHeld l → judge_answer B (write_label_outcome B xs s l).image (s ∷ []) ≡ one_date (dated_of l)
  written-judged h =
      set-accepted B (write_label_outcome B xs s l).image s []
      (λ t m. subst (λ (u : ℕ). Carries B (write_label_outcome B xs s l).image (dated_of l) u) (sym (Memᴰ.eq_of_singleton m)) (carries B (write_label_outcome B xs s l).image s (record { label = l; reads = written-reads h; dated = refl })))
