-- The ways out of the reader of windows, one law for each: what the choice told, and what the whole image then gives. No contract cites this file. Assumes nothing.
use mathlib.Core.Path.{◌≡◌, refl, sym, ap, ◌∙◌}
use mathlib.Core.Bool.{Bool, true, false}
use mathlib.Core.List.{List}
use Prim.Native.Nat.{ℕ, ◌+◌, ◌*◌, ◌-◌}
use native.Mathlib.Omega.{arith}
use lib.ListN.{length, take}
use Rattle.units.specs.declared.why.Why.{Why}
use Rattle.units.specs.declared.Refusal.{Refusal}
use Rattle.units.specs.Answer.{accepted, refused, plain, when, judged}
use Rattle.units.specs.Bytes.{part}
use Rattle.units.specs.Refusals.{why, refusal_of, refused_by}
use Rattle.units.proofs.Chains.{number-of, found, past, last, none, Bare, bare-else}
use Rattle.units.proofs.Lists.{length_part, part-part}
use Rattle.partition.specs.Array.{Found, present_from}
use Rattle.rows.specs.declared.inner.Plan.{Plan}
use Rattle.rows.specs.Row.{present_entries}
use Rattle.rows.specs.Plans.{Made, planned, no_plan, nowhere}
use Rattle.rows.proofs.Laws.{made_none, planned-none}
use Rattle.tables.specs.Lens.{Side, Front, Back, Tables, side_of, copy_in, copy_at, tables}
use Rattle.tables.specs.Check.{bad_slot}
use Rattle.reader.specs.Reader.{chosen_number, reader_check, takes_back, taken_array, held_in, reader_slot_check, reader_next, reader_slot, reader_entries}
use Rattle.reader.proofs.Ways.{why-by, with-room, bare-reader, named-reader}
use Rattle.windows.specs.Windows.{window_tables, window_check, window_answer, head_long, tail_long}
use Rattle.windows.proofs.Whole.{Fits}
use Rattle.windows.proofs.Ways.{bare-window, named-why, why-fits, then_found, then-passed, asks-refused, asks-given, if-zero, if-not}
use Rattle.windows_reader.specs.Parts.{array_of, reader_why, good_part, ChosenIn}

-- the array in a window is the table's
pub array-side : (B : ℕ) (head tail : List ℕ) (s : Side) → array_of B s head tail ≡ (copy_at s (window_tables B head tail)).array
unfolding copy_in
array-side B head tail Front = sym (part-part head B (B + 16384) B 16384 (omega arith))
array-side B head tail Back = refl

pub array_long : (B : ℕ) (head tail : List ℕ) (s : Side) → length head ≡ head_long B → length tail ≡ tail_long B → length (array_of B s head tail) ≡ 16384
array_long B head tail Front h k = length_part head (B + B) 16384 (omega arith)
array_long B head tail Back h k = length_part tail 0 16384 (omega arith)

module _ (B N : ℕ) (head tail : List ℕ) where
  abbrev T : Tables
  T = window_tables B head tail

  abbrev R : Why
  R = reader_why B N head tail

  pub bare-why : Bare R
  bare-why = bare-else (window_check B N (length head) (length tail)) _ (bare-window B N (length head) (length tail)) (bare-reader B (N * B) T)

  -- what the choice tells
  pub wrong-window : {f : ℕ} {b : Bool} → f ≡ (window_check B N (length head) (length tail)).number → (f ≡ 0 → ⊥) → ChosenIn B N head tail (record { number = f; back = b })
  wrong-window e d = (e ∙ number-of (found _ refl (λ z. d (e ∙ z))), λ z. absurd (d z))

  pub chosen-in : {f : ℕ} {b : Bool} → (window_check B N (length head) (length tail)).number ≡ 0 → Fits B N head tail → f ≡ chosen_number B (N * B) T → b ≡ takes_back B (N * B) T
      → ChosenIn B N head tail (record { number = f; back = b })
  chosen-in z q e k = (with-room B (N * B) T q.roomy e ∙ number-of (past {f = window_check B N (length head) (length tail)} {m = reader_check B (N * B) T} refl z refl), λ _. k)

  module _ {f : ℕ} (e : f ≡ R.number) where
    why-is : {r : Refusal} → (f ≡ 0 → ⊥) → r ≡ refusal_of (plain f) → why r ≡ R
    why-is d q = why-by R bare-why (named-why B N head tail (reader_check B) (named-reader B)) e d q

    not-zero : (f ≡ 0 → ⊥) → R.number ≡ 0 → ⊥
    not-zero d z = d (e ∙ z)

    -- refused
    pub refuses : {A : Type 0} (v : ℕ → Tables → A) {r : Refusal} → (f ≡ 0 → ⊥) → r ≡ refusal_of (plain f)
        → refused_by r ≡ window_answer B N head tail (λ xs. judged (reader_check B (length xs) (tables B xs)) (v (length xs) (tables B xs)))
    refuses v d q = ap refused (why-is d q) ∙ asks-refused B N head tail (reader_check B) v refl (not-zero d)

    abbrev slots : ℕ → ℕ → Tables → Why
    slots s n t = when (bad_slot s) (plain 18)

    abbrev held : ℕ → ℕ → Tables → Found
    held s n t = held_in (taken_array B n t) s

    pub read-refused : (s : ℕ) {r : Refusal} → (f ≡ 0 → ⊥) → r ≡ refusal_of (plain f) → refused_by r ≡ window_answer B N head tail (λ xs. reader_slot B xs s)
    unfolding reader_slot_check
    read-refused s d q =
        ap refused (why-is d q)
        ∙ asks-refused B N head tail (λ (n : ℕ) (t : Tables). reader_slot_check B n t s) (held s) (then_found B N head tail (reader_check B) (slots s) refl (not-zero d)) (not-zero d)

    -- accepted
    module _ (z : f ≡ 0) where
      pub fits : Fits B N head tail
      fits = why-fits B N head tail (reader_check B) refl (sym e ∙ z)

      pub accepts : {A : Type 0} (v : ℕ → Tables → A) {w : A} → w ≡ v (N * B) T
          → accepted w ≡ window_answer B N head tail (λ xs. judged (reader_check B (length xs) (tables B xs)) (v (length xs) (tables B xs)))
      accepts v q = ap accepted q ∙ asks-given B N head tail (reader_check B) v refl (sym e ∙ z)

      module _ {back : Bool} (k : back ≡ takes_back B (N * B) T) where
        pub taken : array_of B (side_of back) head tail ≡ taken_array B (N * B) T
        taken = array-side B head tail (side_of back) ∙ ap (λ (b : Bool). (copy_at (side_of b) T).array) k

        pub good-part : array_of B (side_of back) head tail ≡ good_part B N head tail
        unfolding good_part
        good-part = ap (λ (b : Bool). array_of B (side_of b) head tail) k ∙ sym (if-zero R.number _ _ (sym e ∙ z))

        module _ {arr : List ℕ} (l : arr ≡ array_of B (side_of back) head tail) where
          pub next-given : (after : ℕ) {s : List ℕ} → s ≡ take 1 (present_from arr 0 after (128 - after)) → accepted s ≡ window_answer B N head tail (λ xs. reader_next B xs after)
          next-given after q =
              accepts (λ (n : ℕ) (t : Tables). take 1 (present_from (taken_array B n t) 0 after (128 - after)))
              (q ∙ ap (λ (a : List ℕ). take 1 (present_from a 0 after (128 - after))) (l ∙ taken))

          pub read-given : (s : ℕ) {t : Bool} {v : Found} → t ≡ bad_slot s → t ≡ false → v ≡ held_in arr s → accepted v ≡ window_answer B N head tail (λ xs. reader_slot B xs s)
          unfolding reader_slot_check
          read-given s q h v =
              ap accepted (v ∙ ap (λ (a : List ℕ). held_in a s) (l ∙ taken))
              ∙ asks-given B N head tail (λ (n : ℕ) (t : Tables). reader_slot_check B n t s) (held s) (then-passed B N head tail (reader_check B) (slots s) refl (sym e ∙ z) (none (plain 18) (sym q ∙ h))) refl

          -- the plan of the list
          pub plan-listed : {p : Plan} → Made arr p × (planned arr p ≡ accepted (present_entries arr 0 128)) → Made (good_part B N head tail) p × (planned (good_part B N head tail) p ≡ window_answer B N head tail (reader_entries B))
          plan-listed {p} m =
              let g : arr ≡ good_part B N head tail = l ∙ good-part in
              rw (← g) (m.0, m.1 ∙ accepts (λ (n : ℕ) (t : Tables). present_entries (taken_array B n t) 0 128) (ap (λ (a : List ℕ). present_entries a 0 128) (l ∙ taken)))

      pub read-bad : (s : ℕ) {t : Bool} → t ≡ bad_slot s → t ≡ true → refused (plain 18) ≡ window_answer B N head tail (λ xs. reader_slot B xs s)
      unfolding reader_slot_check
      read-bad s q t =
          asks-refused B N head tail (λ (n : ℕ) (t : Tables). reader_slot_check B n t s) (held s) (then-passed B N head tail (reader_check B) (slots s) refl (sym e ∙ z) (last (plain 18) (sym q ∙ t))) (λ y. omega arith)

    -- an empty part, and no plan
    pub no_part : (f ≡ 0 → ⊥) → part head 0 0 ≡ good_part B N head tail
    unfolding good_part
    no_part d = sym (if-not R.number _ _ (not-zero d))

    pub plan-refused : {r : Refusal} {p : Plan} → (f ≡ 0 → ⊥) → r ≡ refusal_of (plain f) → p ≡ no_plan (nowhere r)
        → Made (good_part B N head tail) p × (planned (good_part B N head tail) p ≡ window_answer B N head tail (reader_entries B))
    plan-refused {r} d q g =
        rw g (made_none (good_part B N head tail) (nowhere r), planned-none (good_part B N head tail) (nowhere r) ∙ refuses (λ (n : ℕ) (t : Tables). present_entries (taken_array B n t) 0 128) d q)
