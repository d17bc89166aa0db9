-- What put and clear tell where they are accepted, that they are accepted exactly where nothing speaks against it, and the card that they leave.
-- No contract cites this file. Assumes nothing.
use mathlib.Core.Path.{◌≡◌, refl, sym, ap, ◌∙◌, subst}
use mathlib.Core.Bool.{true, false, not, ◌||◌}
use mathlib.Core.List.{List}
use Prim.Native.Nat.{ℕ, ◌+◌, ◌-◌, ◌^◌, ◌≤◌, ◌<◌}
use native.Mathlib.Omega.{arith}
use borrow.Author.Tests.{not-false, ltb-false, le-ltb, eqb-true, eq-eqb}
use lib.Dec.{eqb, ltb}
use lib.ListN.{length, get_or, get_or-eq_default}
use Rattle.units.specs.declared.Guid.{Guid}
use Rattle.units.specs.Guids.{guid_bytes}
use Rattle.units.specs.Held.{Small, GuidHeld}
use Rattle.units.proofs.Chains.{else-none, else-first, else-second, when-none, none-when}
use Rattle.units.specs.Answer.{when, plain, of_slot}
use Rattle.tables.proofs.Good.{check-good, accepted-array, slot_ok}
use Rattle.tables.specs.Places.{first_usable_of, last_usable_of}
use Rattle.tables.specs.Lens.{Tables, tables_at, with_tables_at}
use Rattle.tables.specs.Entries.{zeros, entry, set_entry, used, first_of, last_of, part_guid_of, overlaps, bears, first_twin}
use Rattle.tables.specs.Check.{guid_of, check, bad_slot, slot_check}
use Rattle.card.specs.Calls.{first_overlap, changed, put_check, put_at, clear_at, record_check, overlap_check, twin_check, flag_check}
use Rattle.tables.proofs.Orders.{split, or_left, or_right, neither, others-at, others-of}
use Rattle.tables.proofs.EntryLaws.{length-zeros, get_d-zeros, length-set-entry, entry-zeros, Inside, ok_of, ok-zeros, unused-zeros, overlaps-comm, overlaps-zeros, bears-unused, twins-unused, twins-alone, Entries, entries-set}
use Rattle.history.proofs.State.{held_back, State, state-check, state-front, write-state, accepted-image}

-- what an accepted put says
pub record Puts (B n : ℕ) (t : Tables) (s : ℕ) (e : List ℕ) (reserved : ℕ) : Type 0 where
  pub card : (check B n t).number ≡ 0
  pub one : 1 ≤ s
  pub slot : s - 1 < 128
  pub taken : used e ≡ true
  pub inside : Inside B n e
  pub free : (j : ℕ) → j < 128 → (j ≡ s - 1 → ⊥) → overlaps e (entry t.front.array j) ≡ false
  pub alone : (j : ℕ) → j < 128 → (j ≡ s - 1 → ⊥) → bears (part_guid_of e) (entry t.front.array j) ≡ false
  pub flags : reserved ≡ 0

pub put-ok : (B n : ℕ) (t : Tables) (s : ℕ) (e : List ℕ) (reserved : ℕ) → (put_check B n t s e reserved).number ≡ 0 → Puts B n t s e reserved
unfolding put_check record_check overlap_check twin_check flag_check first_overlap first_twin
put-ok B n t s e reserved h =
    let h1 = else-second (check B n t) _ h in
    let r = else-first (record_check B n s e) _ h1 in
    let c18 : bad_slot s ≡ false = none-when _ (plain 18) tt (else-first (when (bad_slot s) (plain 18)) _ r) in
    let h2 = else-second (when (bad_slot s) (plain 18)) _ r in
    let c19 : not (used e) ≡ false = none-when _ (plain 19) tt (else-first (when (not (used e)) (plain 19)) _ h2) in
    let h3 = else-second (when (not (used e)) (plain 19)) _ h2 in
    let c20 : ltb (last_of e) (first_of e) ≡ false = none-when _ (plain 20) tt (else-first (when (ltb (last_of e) (first_of e)) (plain 20)) _ h3) in
    let c21 : ltb (first_of e) (first_usable_of B) || ltb (last_usable_of B n) (last_of e) ≡ false = none-when _ (plain 21) tt (else-second (when (ltb (last_of e) (first_of e)) (plain 20)) _ h3) in
    let j : ℕ = first_overlap t.front.array (s - 1) e in
    let k : ℕ = first_twin t.front.array (s - 1) (part_guid_of e) in
    let h4 = else-second (record_check B n s e) _ h1 in
    let c22 : ltb (first_overlap t.front.array (s - 1) e) 128 ≡ false = none-when _ (of_slot 22 (j + 1)) tt (else-first (when (ltb j 128) (of_slot 22 (j + 1))) _ h4) in
    let h5 = else-second (when (ltb j 128) (of_slot 22 (j + 1))) _ h4 in
    let c25 : ltb (first_twin t.front.array (s - 1) (part_guid_of e)) 128 ≡ false = none-when _ (of_slot 25 (k + 1)) tt (else-first (when (ltb k 128) (of_slot 25 (k + 1))) _ h5) in
    let c28 : not (eqb reserved 0) ≡ false = none-when _ (plain 28) tt (else-second (when (ltb k 128) (of_slot 25 (k + 1))) _ h5) in
    record {
      card = else-first (check B n t) _ h;
      one = (slot_ok s c18).0;
      slot = (slot_ok s c18).1;
      taken = not-false _ c19;
      inside = record {
        order = ltb-false _ _ c20;
        low = ltb-false _ _ (or_left _ _ c21);
        high = ltb-false _ _ (or_right (ltb (first_of e) (first_usable_of B)) _ c21);
      };
      free = others-at 128 (s - 1) (λ (j : ℕ). overlaps e (entry t.front.array j)) (ltb-false _ _ c22);
      alone = others-at 128 (s - 1) (λ (j : ℕ). bears (part_guid_of e) (entry t.front.array j)) (ltb-false _ _ c25);
      flags = eqb-true reserved 0 (not-false _ c28);
    }

-- and whatever it says makes a put accepted: 18 to 22, 25 and 28 are given exactly when they apply
pub ok-put : (B n : ℕ) (t : Tables) (s : ℕ) (e : List ℕ) (reserved : ℕ) → Puts B n t s e reserved → (put_check B n t s e reserved).number ≡ 0
unfolding put_check record_check overlap_check twin_check flag_check first_overlap first_twin
ok-put B n t s e reserved p =
    let i = p.inside in
    let m : first_overlap t.front.array (s - 1) e ≡ 128 = others-of 128 (s - 1) (λ (j : ℕ). overlaps e (entry t.front.array j)) p.free in
    let o : first_twin t.front.array (s - 1) (part_guid_of e) ≡ 128 = others-of 128 (s - 1) (λ (j : ℕ). bears (part_guid_of e) (entry t.front.array j)) p.alone in
    let j : ℕ = first_overlap t.front.array (s - 1) e in
    let k : ℕ = first_twin t.front.array (s - 1) (part_guid_of e) in
    else-none _ _ p.card
    (else-none _ _
    (else-none _ _ (when-none _ (plain 18) (neither (le-ltb s 1 p.one) (le-ltb 128 s (omega (arith, p.slot)))))
    (else-none _ _ (when-none _ (plain 19) (ap not p.taken))
    (else-none _ _ (when-none _ (plain 20) (le-ltb _ _ i.order))
    (when-none _ (plain 21) (neither (le-ltb _ _ i.low) (le-ltb _ _ i.high))))))
    (else-none _ _ (when-none (ltb (first_overlap t.front.array (s - 1) e) 128) (of_slot 22 (j + 1)) (le-ltb (first_overlap t.front.array (s - 1) e) 128 (omega (arith, m))))
    (else-none _ _ (when-none (ltb (first_twin t.front.array (s - 1) (part_guid_of e)) 128) (of_slot 25 (k + 1)) (le-ltb (first_twin t.front.array (s - 1) (part_guid_of e)) 128 (omega (arith, o))))
    (when-none (not (eqb reserved 0)) (plain 28) (ap not (eq-eqb reserved 0 p.flags))))))

pub small-zeros : (n : ℕ) → Small (zeros n)
small-zeros n i =
    split n i
    (λ p. let z : get_or (zeros n) i 0 ≡ 0 = get_or-eq_default (zeros n) 0 (omega (arith, length-zeros n)) in omega arith)
    (λ p. omega (arith, get_d-zeros n i p))

-- so a freshly laid card takes any used entry inside its usable blocks with no reserved flag, in any slot
pub fresh-put : (B n : ℕ) (g : Guid) (xs : List ℕ) (s : ℕ) (e : List ℕ) → State B n (guid_bytes g) (zeros 16384) xs → n < 2 ^ 64 → GuidHeld g → 1 ≤ s → s ≤ 128 → used e ≡ true
    → Inside B n e → (put_check B n (tables_at B n xs) s e 0).number ≡ 0
fresh-put B n g xs s e k l h a b u i =
    ok-put B n (tables_at B n xs) s e 0
    (record {
      card = state-check k l (held_back g h) (small-zeros 16384);
      one = a;
      slot = omega arith;
      taken = u;
      inside = i;
      free = λ j q _. ap (λ (r : List ℕ). overlaps e (entry r j)) (state-front k) ∙ ap (λ (x : List ℕ). overlaps e x) (entry-zeros j q) ∙ overlaps-comm e (zeros 128) ∙ overlaps-zeros e;
      alone = λ j q _. ap (λ (r : List ℕ). bears (part_guid_of e) (entry r j)) (state-front k) ∙ ap (λ (x : List ℕ). bears (part_guid_of e) x) (entry-zeros j q) ∙ bears-unused (part_guid_of e) (zeros 128) unused-zeros;
      flags = refl;
    })

pub clear-check : (B n : ℕ) (t : Tables) (s : ℕ) → (slot_check B n t s).number ≡ 0 → (check B n t).number ≡ 0
unfolding slot_check
clear-check B n t s h = else-first (check B n t) _ h

pub clear-slot : (B n : ℕ) (t : Tables) (s : ℕ) → (slot_check B n t s).number ≡ 0 → (1 ≤ s) × (s - 1 < 128)
unfolding slot_check
clear-slot B n t s h =
    let b : bad_slot s ≡ false = none-when _ (plain 18) tt (else-second (check B n t) _ h) in
    slot_ok s b

module _ (B n : ℕ) (xs : List ℕ) (l : length xs ≡ n) (s : ℕ) where
  -- one slot changed under lay's headers, on any card that the check accepts
  change-done : (e : List ℕ) → length e ≡ 128 → (check B n (tables_at B n xs)).number ≡ 0 → s - 1 < 128
      → Entries B n (set_entry (tables_at B n xs).front.array (s - 1) e)
      → State B n (guid_of (tables_at B n xs).front) (set_entry (tables_at B n xs).front.array (s - 1) e) (with_tables_at B n xs (changed B n (tables_at B n xs) s e))
  unfolding changed
  change-done e le c p q =
      write-state B n xs l _ _ (check-good B n (tables_at B n xs) c).room (length-set-entry _ (s - 1) e (accepted-array B n xs l c) p le) q

  pub put-done : (e : List ℕ) (reserved : ℕ) → length e ≡ 128 → (put_check B n (tables_at B n xs) s e reserved).number ≡ 0
      → State B n (guid_of (tables_at B n xs).front) (set_entry (tables_at B n xs).front.array (s - 1) e) (put_at B n xs s e reserved).image
  unfolding put_at
  put-done e reserved le h =
      let o = put-ok B n (tables_at B n xs) s e reserved h in
      let k = check-good B n (tables_at B n xs) o.card in
      subst (λ (i : List ℕ). State B n (guid_of (tables_at B n xs).front) (set_entry (tables_at B n xs).front.array (s - 1) e) i) (sym (accepted-image tt _ xs _ h))
      (change-done e le o.card o.slot
      (entries-set _ (s - 1) e (accepted-array B n xs l o.card) o.slot le B n k.entries (ok_of B n e o.taken o.inside) o.free (λ j p d. twins-alone e _ (o.alone j p d))))

  pub clear-done : (slot_check B n (tables_at B n xs) s).number ≡ 0
      → State B n (guid_of (tables_at B n xs).front) (set_entry (tables_at B n xs).front.array (s - 1) (zeros 128)) (clear_at B n xs s).image
  unfolding clear_at slot_check
  clear-done h =
      let c : (check B n (tables_at B n xs)).number ≡ 0 = else-first (check B n (tables_at B n xs)) _ h in
      let p : s - 1 < 128 = (clear-slot B n (tables_at B n xs) s h).1 in
      let k = check-good B n (tables_at B n xs) c in
      subst (λ (i : List ℕ). State B n (guid_of (tables_at B n xs).front) (set_entry (tables_at B n xs).front.array (s - 1) (zeros 128)) i) (sym (accepted-image tt _ xs _ h))
      (change-done (zeros 128) (length-zeros 128) c p
      (entries-set _ (s - 1) (zeros 128) (accepted-array B n xs l c) p (length-zeros 128) B n k.entries (ok-zeros B n) (λ j _ _. overlaps-zeros _) (λ j _ _. twins-unused (zeros 128) _ unused-zeros)))
