-- The ways out of the listing of windows, one law for each: what the check told, and what the whole image then gives. No contract cites this file. Assumes nothing.
use mathlib.Core.Path.{◌≡◌, refl, sym, ap, ◌∙◌, subst}
use mathlib.Core.Bool.{false}
use mathlib.Core.List.{List, [], ◌∷◌}
use Prim.Native.Nat.{ℕ, zero, suc, ◌+◌, ◌*◌, ◌-◌}
use native.Mathlib.Omega.{arith}
use lib.Dec.{ltb}
use lib.ListN.{length, take, drop}
use Rattle.units.specs.declared.BytePlace.{BytePlace}
use Rattle.units.specs.declared.Reason.{Reason}
use Rattle.units.specs.declared.why.Why.{Why}
use Rattle.units.specs.Answer.{Answer, accepted, refused, refuse, plain, pick, when, if_zero, judged}
use Rattle.units.specs.Refusals.{why_at, reason_of}
use Rattle.units.proofs.Chains.{number-of, Named}
use Rattle.units.proofs.Lists.{lent-part}
use Rattle.partition.specs.declared.Partition.{Partition}
use Rattle.partition.specs.Format.{entry_at}
use Rattle.partition.specs.Array.{entry_place, present_from}
use Rattle.rows.specs.declared.inner.Plan.{Plan}
use Rattle.rows.specs.Row.{present_entries}
use Rattle.rows.specs.Plans.{Made, planned, no_plan}
use Rattle.rows.proofs.Laws.{made_none, planned-none}
use Rattle.tables.specs.Lens.{Front, copy_in, Tables, tables, tables_at}
use Rattle.tables.specs.Entries.{first_of, last_of}
use Rattle.tables.specs.Check.{check, check_answer, bad_slot}
use Rattle.checking.proofs.CheckWays.{named-check}
use Rattle.reader.proofs.LentRow.{entries-in-part}
use Rattle.listing.specs.Listing.{present_slots, nth_answer}
use Rattle.listing.proofs.Ways.{nth-good, nth-over, nth-given}
use Rattle.listing.specs.LentRow.{entries_in, card_entries}
use Rattle.ground.specs.Ground.{Run}
use Rattle.ground.specs.Search.{front_runs, Checked}
use Rattle.ground.specs.Answers.{Rows, RowsEnd, rows_outcome, ground_outcome}
use Rattle.ground.proofs.Ways.{lent, checked-lent, ground-refused, ground-given}
use Rattle.card.specs.Calls.{used_check, slot_entry, partition_bytes, payload_check, payload_place, place_answer}
use Rattle.card.proofs.PayWays.{Spanned, named-used, used-spanned, pay-placed}
use Rattle.slot_map.specs.declared.SlotMap.{SlotMap}
use Rattle.slot_map.specs.Bits.{map_of}
use Rattle.slot_map.specs.Map.{flags_from, made_answer}
use Rattle.windows.specs.Windows.{whole, window_tables, window_check, window_why, window_answer}
use Rattle.windows.proofs.Whole.{Fits, fits_by, length_whole, tables-whole, front-whole}
use Rattle.windows.proofs.Ways.{named-why, told-reason, why-fits, window-zero, passed-why, failed-why, then_found, at-whole, answer_at, found_at, asks-refused, asks-given}
use Rattle.windows_reader.specs.Parts.{array_of}
use Rattle.windows_reader.proofs.Ways.{array-side}
use Rattle.windows_listing.specs.Ground.{ground_in}

-- an outcome by a number, by the case
ends_by : (k : ℕ) (g h : Rows (Answer ℕ)) {a : Answer ℕ} {o p : List ℕ} → (k ≡ 0 → RowsEnd g a o p) → ((k ≡ 0 → ⊥) → RowsEnd h a o p) → RowsEnd (if_zero k g h) a o p
ends_by zero g h f n = f refl
ends_by (suc k) g h f n = n (λ z. omega arith)

module _ (B N : ℕ) (head tail : List ℕ) where
  abbrev T : Tables
  T = window_tables B head tail

  abbrev X : List ℕ
  X = whole B N head tail

  -- a call on windows that g refuses, and one that it does not
  module _ (g : ℕ → Tables → Why) (named : (n : ℕ) (t : Tables) → Named (g n t)) {f : Why} (e : f ≡ window_why B N head tail g) where
    pub refuses : {A : Type 0} (v : ℕ → Tables → A) {r : Reason} → (f.number ≡ 0 → ⊥) → r ≡ reason_of f
        → refused (why_at r) ≡ window_answer B N head tail (λ xs. judged (g (length xs) (tables B xs)) (v (length xs) (tables B xs)))
    refuses v d q = ap refused (told-reason (window_why B N head tail g) (named-why B N head tail g named) e d q) ∙ asks-refused B N head tail g v e d

    pub accepts : {A : Type 0} (v : ℕ → Tables → A) {w : A} → f.number ≡ 0 → w ≡ v (N * B) T
        → accepted w ≡ window_answer B N head tail (λ xs. judged (g (length xs) (tables B xs)) (v (length xs) (tables B xs)))
    accepts v z q = ap accepted q ∙ asks-given B N head tail g v e z

  -- the tables of the whole image
  pub tables-at : Fits B N head tail → tables B X ≡ T
  tables-at q = at-whole B N head tail (λ (n : ℕ) (t : Tables). t) q

  pub front_at : {arr : List ℕ} → Fits B N head tail → arr ≡ array_of B Front head tail → arr ≡ (tables B X).front.array
  front_at q l = l ∙ array-side B head tail Front ∙ ap (λ (t : Tables). t.front.array) (sym (tables-at q))

  -- past the card check
  module _ {f : Why} (e : f ≡ window_why B N head tail (check B)) where
    pub checked-at : f.number ≡ 0 → check_answer B X ≡ accepted tt
    checked-at z = sym (answer_at B N head tail (check B) e z (check_answer B)) ∙ sym (asks-given B N head tail (check B) (λ (n : ℕ) (t : Tables). tt) e z)

    -- used slot k, by the array in the head
    module _ (z : f.number ≡ 0) {arr : List ℕ} (l : arr ≡ array_of B Front head tail) (k : ℕ) where
      nth-whole : {ss : List ℕ} → ss ≡ take 1 (drop k (present_from arr 0 0 128)) → ss ≡ take 1 (drop k (present_slots (tables B X)))
      unfolding present_slots
      nth-whole q = q ∙ ap (λ (a : List ℕ). take 1 (drop k (present_from a 0 0 128))) (front_at (why-fits B N head tail (check B) e z) l)

      pub nth-good-at : {s : ℕ} → s ∷ [] ≡ take 1 (drop k (present_from arr 0 0 128)) → bad_slot s ≡ false
      nth-good-at q = nth-good B X k (nth-whole q)

      pub nth-over-at : [] ≡ take 1 (drop k (present_from arr 0 0 128)) → accepted [] ≡ window_answer B N head tail (λ xs. nth_answer B xs k)
      nth-over-at q = nth-over B X k (checked-at z) (nth-whole q) ∙ sym (answer_at B N head tail (check B) e z (λ xs. nth_answer B xs k))

      pub nth-given-at : {s : ℕ} → s ∷ [] ≡ take 1 (drop k (present_from arr 0 0 128)) → {p : Partition} → p ≡ entry_at arr (entry_place 0 (s - 1))
          → accepted (record { slot = s; partition = p } ∷ []) ≡ window_answer B N head tail (λ xs. nth_answer B xs k)
      nth-given-at {s} q h =
          nth-given B X k (checked-at z) (nth-whole q) (h ∙ ap (λ (a : List ℕ). entry_at a (entry_place 0 (s - 1))) (front_at (why-fits B N head tail (check B) e z) l))
          ∙ sym (answer_at B N head tail (check B) e z (λ xs. nth_answer B xs k))

    -- the plan of a listing
    pub plan-refused : {r : Reason} {p : Plan} → (f.number ≡ 0 → ⊥) → r ≡ reason_of f → p ≡ no_plan r → Made head p × (planned head p ≡ window_answer B N head tail (card_entries B))
    unfolding card_entries
    plan-refused {r} d q g = rw g (made_none head r, planned-none head r ∙ refuses (check B) (named-check B) e (λ (n : ℕ) (t : Tables). entries_in t) d q)

    pub plan-listed : {at : ℕ} {p : Plan} → f.number ≡ 0 → at ≡ B + B → Made head p × (planned head p ≡ accepted (present_entries head at 128)) → Made head p × (planned head p ≡ window_answer B N head tail (card_entries B))
    unfolding card_entries entries_in present_slots present_entries
    plan-listed {at} z a m = (
      m.0,
      m.1
          ∙ accepts (check B) (named-check B) e (λ (n : ℕ) (t : Tables). entries_in t) z
          (ap (λ (i : ℕ). present_entries head i 128) a ∙ entries-in-part head (B + B) ∙ ap (λ (l : List ℕ). present_entries l 0 128) (array-side B head tail Front)),
    )

    -- the slot map
    pub map-given : (m : SlotMap) → f.number ≡ 0 → map_of m ≡ flags_from (copy_in B Front (take (B + (B + 16384) - B) (drop B head))).array 0 128 → accepted (map_of m) ≡ window_answer B N head tail (made_answer B)
    map-given m z g =
        accepts (check B) (named-check B) e (λ (n : ℕ) (t : Tables). flags_from t.front.array 0 128) z
        (g ∙ ap (λ (l : List ℕ). flags_from (copy_in B Front l).array 0 128) (lent-part head B (B + 16384)))

    -- the free ground
    named-f : (f.number ≡ 0 → ⊥) → why_at (reason_of f) ≡ f
    named-f d = told-reason (window_why B N head tail (check B)) (named-why B N head tail (check B) (named-check B)) e d refl

    module _ (ss ls : List ℕ) where
      -- where a number of the windows' own refuses, neither row changes
      abbrev unchanged : Rows (Answer ℕ)
      unchanged = record { answer = refused (window_check B N (length head) (length tail)); starts = ss; lengths = ls }

      pub free-refused : {r : Reason} → (f.number ≡ 0 → ⊥) → r ≡ reason_of f → RowsEnd (ground_in B N head tail ss ls) (refused (why_at r)) ss ls
      unfolding ground_in
      free-refused {r} d q =
          ends_by (window_check B N (length head) (length tail)).number (ground_outcome B X ss ls) unchanged
          (λ z. ground-refused B X ss ls (found_at B N head tail (check B) e z) d q)
          (λ n.
          let w : why_at r ≡ window_check B N (length head) (length tail) = ap why_at q ∙ named-f d ∙ e ∙ failed-why B N head tail (check B) n in
          let a : ◌≡◌ {A = Answer ℕ} (refused (why_at r)) (refused (window_check B N (length head) (length tail))) = ap refused w in
          record { answer = a; starts = refl; lengths = refl })

      lent_same : Fits B N head tail → lent B X ≡ lent B head
      lent_same q = lent-part X B (B + 16384) ∙ front-whole B N q.room head tail q.head-long q.tail-long ∙ sym (lent-part head B (B + 16384))

      runs_same : Fits B N head tail → front_runs B (length X) (lent B X) ≡ front_runs B (N * B) (lent B head)
      runs_same q = ap (λ (n : ℕ). front_runs B n (lent B X)) (length_whole B N q.room head tail q.head-long q.tail-long) ∙ ap (λ (l : List ℕ). front_runs B (N * B) l) (lent_same q)

      pub free-given : {a : Answer ℕ} {o p : List ℕ} → f.number ≡ 0 → RowsEnd (rows_outcome (front_runs B (N * B) (lent B head)) ss ls) a o p → RowsEnd (ground_in B N head tail ss ls) a o p
      unfolding ground_in
      free-given {a} {o} {p} z g =
          let w = window-zero B N head tail (check B) e z in
          let h = fits_by B N head tail w in
          ends_by (window_check B N (length head) (length tail)).number (ground_outcome B X ss ls) unchanged
          (λ y.
          ground-given B X ss ls (found_at B N head tail (check B) e w) z
          (subst (λ (rs : List Run). RowsEnd (rows_outcome rs ss ls) a o p) (sym (runs_same h)) g))
          (λ d. absurd (d w))

    pub free-checked : f.number ≡ 0 → Checked B (N * B) (lent B head) B
    free-checked z =
        let w = window-zero B N head tail (check B) e z in
        let h = fits_by B N head tail w in
        let k = checked-lent B X (sym (number-of (found_at B N head tail (check B) e w)) ∙ z) in
        subst (λ (l : List ℕ). Checked B (N * B) l B) (lent_same [] [] h) (subst (λ (n : ℕ). Checked B n (lent B X) B) (length_whole B N h.room head tail h.head-long h.tail-long) k)

  -- the place of a payload
  module _ (s p m : ℕ) {f : Why} (e : f ≡ window_why B N head tail (λ (n : ℕ) (t : Tables). used_check B n t s)) where
    abbrev tests : ℕ → Tables → Why
    tests n t = used_check B n t s

    abbrev at : ℕ → Tables → BytePlace
    at n t = record { 0 = payload_place B t s p }

    pub place-refused : {r : Reason} → (f.number ≡ 0 → ⊥) → r ≡ reason_of f → refused (why_at r) ≡ window_answer B N head tail (λ xs. place_answer B xs s p m)
    unfolding payload_check
    place-refused d q =
        ap refused (told-reason (window_why B N head tail tests) (named-why B N head tail tests (λ (n : ℕ) (t : Tables). named-used B n t s)) e d q)
        ∙ asks-refused B N head tail (λ (n : ℕ) (t : Tables). payload_check B n t s p m) at
        (then_found B N head tail tests (λ (n : ℕ) (t : Tables). when (ltb (partition_bytes B (slot_entry t s)) (p + m)) (plain 24)) e d) d

    module _ (z : f.number ≡ 0) where
      pub place-spanned : Spanned B (N * B) (first_of (slot_entry T s)) (last_of (slot_entry T s))
      place-spanned =
          let w = window-zero B N head tail tests e z in
          let q = fits_by B N head tail w in
          let u = used-spanned B X s (sym (number-of (found_at B N head tail tests e w)) ∙ z) in
          subst (λ (t : Tables). Spanned B (N * B) (first_of (slot_entry t s)) (last_of (slot_entry t s))) (tables-whole B N q.room head tail q.head-long q.tail-long)
          (subst (λ (n : ℕ). Spanned B n (first_of (slot_entry (tables_at B n X) s)) (last_of (slot_entry (tables_at B n X) s))) (length_whole B N q.room head tail q.head-long q.tail-long) u)

      pub place-given : {a : Answer BytePlace} → a ≡ pick (ltb (partition_bytes B (slot_entry T s)) (p + m)) (refuse 24) (accepted (at (N * B) T)) → a ≡ window_answer B N head tail (λ xs. place_answer B xs s p m)
      place-given q =
          let w = window-zero B N head tail tests e z in
          pay-placed B (N * B) T s p m (at (N * B) T) (e ∙ passed-why B N head tail tests w) z q
          ∙ sym (at-whole B N head tail (λ (n : ℕ) (t : Tables). judged (payload_check B n t s p m) (at n t)) (fits_by B N head tail w))
          ∙ sym (answer_at B N head tail tests e z (λ xs. place_answer B xs s p m))
