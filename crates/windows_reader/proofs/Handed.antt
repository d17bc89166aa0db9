-- What the part that is handed back has to do with the calls beside it: `good_copy` says which window it is of and where, and its list is what the reader shows. No contract cites this file. Assumes nothing.
use mathlib.Core.Path.{◌≡◌, refl, sym, ap, ◌∙◌}
use mathlib.Core.Bool.{false}
use mathlib.Core.List.{List}
use Prim.Native.Nat.{ℕ, ◌*◌}
use native.Mathlib.Omega.{arith}
use borrow.Author.Tests.{eqb-true, eqb-false, le-ltb}
use lib.Dec.{eqb, ltb}
use lib.ListN.{length}
use Rattle.units.specs.declared.why.Why.{Why}
use Rattle.units.specs.Answer.{Answer, accepted, refused, plain, when, judged, number_of}
use Rattle.units.proofs.Chains.{past, when-none, judged-none, judged-some}
use Rattle.rows.specs.Row.{present_entries}
use Rattle.tables.specs.Lens.{Side, Tables}
use Rattle.tables.proofs.Orders.{by-test}
use Rattle.reader.specs.Reader.{reader_check, reader_row_check, taken_side, taken_array, side_answer, reader_read}
use Rattle.windows.specs.Windows.{window_tables, window_why, window_answer}
use Rattle.windows.proofs.Ways.{asks-refused, asks-given, then-passed, why-fits, if-zero}
use Rattle.windows_reader.specs.Parts.{array_of, array_from, reader_why, good_part, good_from, part_check, part_read}
use Rattle.windows_reader.proofs.Ways.{array_long, taken, good-part}

module _ (B N : ℕ) (head tail : List ℕ) where
  abbrev T : Tables
  T = window_tables B head tail

  -- the reader accepts, or the windows and their tables refuse
  by-reader : {X : Type 0} → ((reader_why B N head tail).number ≡ 0 → X) → (((reader_why B N head tail).number ≡ 0 → ⊥) → X) → X
  by-reader f g = by-test (eqb (reader_why B N head tail).number 0) (λ e. f (eqb-true _ _ e)) (λ e. g (eqb-false _ _ e))

  -- where `good_copy` names a side, the part is that window's array and starts where that starts
  pub side-part : (h t : ℕ × ℕ) {s : Side} → window_answer B N head tail (side_answer B) ≡ accepted s → (good_part B N head tail ≡ array_of B s head tail) × (good_from B N head tail h t ≡ array_from B s h t)
  unfolding good_part good_from
  side-part h t {s} e =
      by-reader
      (λ z.
      let q : ◌≡◌ {A = Answer Side} (accepted (taken_side B (N * B) T)) (accepted s) = asks-given B N head tail (reader_check B) (taken_side B) refl z ∙ e in
      let k : taken_side B (N * B) T ≡ s = cc in
      (if-zero (reader_why B N head tail).number _ _ z ∙ ap (λ (d : Side). array_of B d head tail) k, if-zero (reader_why B N head tail).number _ _ z ∙ ap (λ (d : Side). array_from B d h t) k))
      (λ d.
      let q : ◌≡◌ {A = Answer Side} (refused (reader_why B N head tail)) (accepted s) = asks-refused B N head tail (reader_check B) (taken_side B) refl d ∙ e in
      let z : (reader_why B N head tail).number ≡ 0 = ap number_of q in
      absurd (d z))

  -- the row's test after those of the reader
  row-given : (m : ℕ) → (reader_why B N head tail).number ≡ 0
      → judged (when (ltb m (length (present_entries (taken_array B (N * B) T) 0 128))) (plain 15)) (present_entries (taken_array B (N * B) T) 0 128) ≡ window_answer B N head tail (λ xs. reader_read B xs m)
  unfolding reader_row_check
  row-given m z =
      let c : Why = when (ltb m (length (present_entries (taken_array B (N * B) T) 0 128))) (plain 15) in
      let e : when (ltb m (length (present_entries (taken_array B (N * B) T) 0 128))) (plain 15) ≡ window_why B N head tail (λ (n : ℕ) (t : Tables). reader_row_check B n t m) =
      then-passed B N head tail (reader_check B) (λ (n : ℕ) (t : Tables). when (ltb m (length (present_entries (taken_array B n t) 0 128))) (plain 15)) refl z refl in
      by-test (eqb (when (ltb m (length (present_entries (taken_array B (N * B) T) 0 128))) (plain 15)).number 0)
      (λ q. let y = eqb-true _ 0 q in judged-none _ c y ∙ asks-given B N head tail (λ (n : ℕ) (t : Tables). reader_row_check B n t m) (λ (n : ℕ) (t : Tables). present_entries (taken_array B n t) 0 128) e y)
      (λ q. let y = eqb-false _ 0 q in judged-some _ c y ∙ asks-refused B N head tail (λ (n : ℕ) (t : Tables). reader_row_check B n t m) (λ (n : ℕ) (t : Tables). present_entries (taken_array B n t) 0 128) e y)

  -- where the reader accepts, the list of the part in a row of m records is what the reader gives for that row
  pub part-listed-is : (m : ℕ) → (reader_why B N head tail).number ≡ 0 → part_read (good_part B N head tail) m ≡ window_answer B N head tail (λ xs. reader_read B xs m)
  unfolding part_check reader_row_check
  part-listed-is m z =
      let q = why-fits B N head tail (reader_check B) refl z in
      let g : good_part B N head tail ≡ taken_array B (N * B) T = sym (good-part B N head tail refl z refl) ∙ taken B N head tail refl z refl in
      let l : length (good_part B N head tail) ≡ 16384 = ap length (sym (good-part B N head tail refl z refl)) ∙ array_long B head tail (taken_side B (N * B) T) q.head-long q.tail-long in
      let f : ltb (length (good_part B N head tail)) 16384 ≡ false = le-ltb (length (good_part B N head tail)) 16384 (omega arith) in
      let w : when (ltb m (length (present_entries (good_part B N head tail) 0 128))) (plain 15) ≡ when (ltb m (length (present_entries (taken_array B (N * B) T) 0 128))) (plain 15) =
      ap (λ (x : List ℕ). when (ltb m (length (present_entries x 0 128))) (plain 15)) g in
      ap (λ (c : Why). judged c (present_entries (good_part B N head tail) 0 128)) (sym (past {f = when (ltb (length (good_part B N head tail)) 16384) (plain 2)} refl (when-none _ (plain 2) f) refl) ∙ w)
      ∙ ap (λ (x : List ℕ). judged (when (ltb m (length (present_entries (taken_array B (N * B) T) 0 128))) (plain 15)) (present_entries x 0 128)) g
      ∙ row-given m z
