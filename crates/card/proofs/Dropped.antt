-- A reader who drops the place sees the old answer (document 02, 5/13): one law over all calls that begin with the card check. The slot that 22 or 25 carries stays, since it is
-- no place. No contract cites this file. Assumes nothing.
use mathlib.Core.Path.{◌≡◌, refl, ap, ap₂, ◌∙◌}
use mathlib.Core.Bool.{Bool, not, ◌||◌}
use mathlib.Core.List.{List}
use Prim.Native.Nat.{ℕ, zero, suc, ◌+◌, ◌-◌}
use lib.Dec.{eqb, ltb}
use lib.ListN.{length}
use Rattle.units.specs.declared.why.Why.{Why}
use Rattle.units.specs.Answer.{Answer, accepted, refused, plain, fine, of_slot, dropped, when, if_zero, or_else, judged, settle}
use Rattle.units.proofs.Chains.{dropped-else, dropped-when}
use Rattle.partition.specs.declared.Partition.{Partition}
use Rattle.partition.specs.Array.{Found}
use Rattle.rows.specs.declared.Entry.{Entry}
use Rattle.rows.specs.Plans.{plainly}
use Rattle.tables.specs.Places.{first_usable_of, last_usable_of}
use Rattle.tables.specs.Lens.{Tables, tables}
use Rattle.tables.specs.Entries.{used, first_of, last_of, part_guid_of, first_twin}
use Rattle.tables.specs.Check.{check, plain_check, slot_check, bad_slot, check_answer}
use Rattle.tables.proofs.Dropped.{drop-check}
use Rattle.listing.specs.Listing.{Listed, present_slots, count_answer, next_answer, nth_answer, slot_read, listing_check}
use Rattle.listing.specs.LentRow.{listing_read}
use Rattle.ground.specs.Answers.{runs_of, rows_check, ground_check, ground_outcome, settle_rows}
use Rattle.card.specs.Calls.{record_check, first_overlap, overlap_check, twin_check, flag_check, entry_check, put_check, put_bytes, put_at, put_outcome, clear_at, clear_outcome, slot_entry, used_check, partition_bytes, payload_check, payload_at, payload_outcome}

-- ---- the calls that begin with the check

pub data Asked : Type 0 where
  checked : Asked
  put : ℕ → Partition → Asked
  cleared : ℕ → Asked
  paid : ℕ → ℕ → List ℕ → Asked
  counted : Asked
  next : ℕ → Asked
  nth : ℕ → Asked
  slot : ℕ → Asked
  listed : ℕ → Asked
  runs : List ℕ → List ℕ → Asked

-- what each answers where it accepts
abbrev pub Value : Asked → Type 0
Value checked = Unit
Value (put s p) = Unit
Value (cleared s) = Unit
Value (paid s p ys) = ℕ
Value counted = ℕ
Value (next s) = List ℕ
Value (nth k) = List Listed
Value (slot s) = Found
Value (listed m) = List Entry
Value (runs ss ls) = ℕ

-- its answer with the place, as its contract has it. Both forms of the listing have the last, for a row or for bytes of m rows
abbrev pub answer_to : (q : Asked) → ℕ → List ℕ → Answer (Value q)
answer_to checked B xs = check_answer B xs
answer_to (put s p) B xs = (put_outcome B xs s p).answer
answer_to (cleared s) B xs = (clear_outcome B xs s).answer
answer_to (paid s p ys) B xs = (payload_outcome B xs s p ys).answer
answer_to counted B xs = count_answer B xs
answer_to (next s) B xs = next_answer B xs s
answer_to (nth k) B xs = nth_answer B xs k
answer_to (slot s) B xs = slot_read B xs s
answer_to (listed m) B xs = listing_read B xs m
answer_to (runs ss ls) B xs = (ground_outcome B xs ss ls).answer

-- its tests after the check, which name no place
abbrev pub rest : Asked → ℕ → ℕ → Tables → Why
rest checked B n t = fine
rest (put s p) B n t = entry_check B n t.front.array s (put_bytes p) p.flags.reserved
rest (cleared s) B n t = when (bad_slot s) (plain 18)
rest (paid s p ys) B n t =
    or_else (when (bad_slot s) (plain 18))
    (or_else (when (not (used (slot_entry t s))) (plain 23))
    (when (ltb (partition_bytes B (slot_entry t s)) (p + length ys)) (plain 24)))
rest counted B n t = fine
rest (next s) B n t = fine
rest (nth k) B n t = fine
rest (slot s) B n t = when (bad_slot s) (plain 18)
rest (listed m) B n t = when (ltb m (length (present_slots t))) (plain 15)
rest (runs ss ls) B n t = rows_check (length ss) (length ls) (length (runs_of B n t))

-- the old answer that would give v: the check before 5/13, and then those tests
abbrev pub old_answer : (q : Asked) → ℕ → List ℕ → Value q → Answer (Value q)
old_answer q B xs v = judged (or_else (plain_check B (length xs) (tables B xs)) (rest q B (length xs) (tables B xs))) v

-- ---- chains

else-assoc : (a b c : Why) → or_else (or_else a b) c ≡ or_else a (or_else b c)
unfolding or_else
else-assoc a b c = by a.number refl
  where
    by : (k : ℕ) → a.number ≡ k → if_zero (if_zero k b a).number c (if_zero k b a) ≡ if_zero k (if_zero b.number c b) a
    by zero e = refl
    by (suc k) e = rw e

pub dropped-judged : {A : Type 0} (w : Why) (v : A) → plainly (judged w v) ≡ judged (dropped w) v
unfolding judged
dropped-judged {A} w v = by w.number
  where
    by : (k : ℕ) → plainly {A = A} (if_zero k (accepted v) (refused w)) ≡ if_zero k (accepted v) (refused (dropped w))
    by zero = refl
    by (suc k) = refl

judged-fine : {A : Type 0} (w : Why) (v : A) → judged w v ≡ judged (or_else w fine) v
unfolding judged or_else
judged-fine {A} w v = by w.number refl
  where
    by : (k : ℕ) → w.number ≡ k → if_zero {X = Answer A} k (accepted v) (refused w) ≡ if_zero (if_zero k fine w).number (accepted v) (refused (if_zero k fine w))
    by zero e = refl
    by (suc k) e = rw e

-- ---- tests that name no place

same-else : (a b : Why) → dropped a ≡ a → dropped b ≡ b → dropped (or_else a b) ≡ or_else a b
same-else a b p q = dropped-else a b ∙ ap₂ or_else p q

same-when : (t : Bool) (w : Why) → dropped w ≡ w → dropped (when t w) ≡ when t w
same-when t w e = dropped-when t w ∙ ap (when t) e

same-entry : (B n : ℕ) (arr : List ℕ) (s : ℕ) (e : List ℕ) (reserved : ℕ) → dropped (entry_check B n arr s e reserved) ≡ entry_check B n arr s e reserved
unfolding record_check overlap_check twin_check flag_check
same-entry B n arr s e reserved =
    let out : Bool = ltb (first_of e) (first_usable_of B) || ltb (last_usable_of B n) (last_of e) in
    let order : Bool = ltb (last_of e) (first_of e) in
    let met : ℕ = first_overlap arr (s - 1) e in
    let twin : ℕ = first_twin arr (s - 1) (part_guid_of e) in
    same-else (or_else (when (bad_slot s) (plain 18)) (or_else (when (not (used e)) (plain 19)) (or_else (when order (plain 20)) (when out (plain 21))))) _
    (same-else (when (bad_slot s) (plain 18)) _ (same-when (bad_slot s) _ refl)
    (same-else (when (not (used e)) (plain 19)) _ (same-when (not (used e)) _ refl)
    (same-else (when order (plain 20)) _ (same-when order _ refl) (same-when out _ refl))))
    (same-else (when (ltb met 128) (of_slot 22 (met + 1))) _ (same-when (ltb met 128) _ refl)
    (same-else (when (ltb twin 128) (of_slot 25 (twin + 1))) _ (same-when (ltb twin 128) _ refl) (same-when (not (eqb reserved 0)) _ refl)))

same_rest : (q : Asked) (B n : ℕ) (t : Tables) → dropped (rest q B n t) ≡ rest q B n t
unfolding rows_check
same_rest checked B n t = refl
same_rest (put s p) B n t = same-entry B n t.front.array s (put_bytes p) p.flags.reserved
same_rest (cleared s) B n t = same-when (bad_slot s) _ refl
same_rest (paid s p ys) B n t =
    same-else (when (bad_slot s) (plain 18)) _ (same-when (bad_slot s) _ refl)
    (same-else (when (not (used (slot_entry t s))) (plain 23)) _ (same-when (not (used (slot_entry t s))) _ refl) (same-when (ltb (partition_bytes B (slot_entry t s)) (p + length ys)) _ refl))
same_rest counted B n t = refl
same_rest (next s) B n t = refl
same_rest (nth k) B n t = refl
same_rest (slot s) B n t = same-when (bad_slot s) _ refl
same_rest (listed m) B n t = same-when (ltb m (length (present_slots t))) _ refl
same_rest (runs ss ls) B n t = same-when (ltb (length ss) (length (runs_of B n t)) || ltb (length ls) (length (runs_of B n t))) _ refl

-- ---- the law

-- every call answers as the check and then its own tests do, for some value
record Says (q : Asked) (B : ℕ) (xs : List ℕ) : Type 0 where
  value : Value q
  says : answer_to q B xs ≡ judged (or_else (check B (length xs) (tables B xs)) (rest q B (length xs) (tables B xs))) value

says-for : (q : Asked) (B : ℕ) (xs : List ℕ) → Says q B xs
unfolding put_at put_check clear_at slot_check payload_at payload_check used_check listing_read listing_check settle ground_outcome ground_check settle_rows
says-for checked B xs = record { value = _; says = judged-fine (check B (length xs) (tables B xs)) _ }
says-for (put s p) B xs = record { value = _; says = refl }
says-for (cleared s) B xs = record { value = _; says = refl }
says-for (paid s p ys) B xs =
    let c : Why = check B (length xs) (tables B xs) in
    let a : Why = when (bad_slot s) (plain 18) in
    let b : Why = when (not (used (slot_entry (tables B xs) s))) (plain 23) in
    let d : Why = when (ltb (partition_bytes B (slot_entry (tables B xs) s)) (p + length ys)) (plain 24) in
    record { value = length ys; says = ap (λ (w : Why). judged w (length ys)) (else-assoc (or_else c a) b d ∙ else-assoc c a (or_else b d)) }
says-for counted B xs = record { value = _; says = judged-fine (check B (length xs) (tables B xs)) _ }
says-for (next s) B xs = record { value = _; says = judged-fine (check B (length xs) (tables B xs)) _ }
says-for (nth k) B xs = record { value = _; says = judged-fine (check B (length xs) (tables B xs)) _ }
says-for (slot s) B xs = record { value = _; says = refl }
says-for (listed m) B xs = record { value = _; says = refl }
says-for (runs ss ls) B xs = record { value = _; says = refl }

-- dropping the place from any of these answers gives the old one
pub record Drops (q : Asked) (B : ℕ) (xs : List ℕ) : Type 0 where
  pub value : Value q
  pub new : answer_to q B xs ≡ judged (or_else (check B (length xs) (tables B xs)) (rest q B (length xs) (tables B xs))) value
  pub old : plainly (answer_to q B xs) ≡ old_answer q B xs value

pub drop-place : (q : Asked) (B : ℕ) (xs : List ℕ) → Drops q B xs
drop-place q B xs =
    let k = says-for q B xs in
    let c : Why = check B (length xs) (tables B xs) in
    let r : Why = rest q B (length xs) (tables B xs) in
    record {
      value = k.value;
      new = k.says;
      old =
          ap plainly k.says
          ∙ dropped-judged (or_else c r) k.value
          ∙ ap (λ (w : Why). judged w k.value) (dropped-else c r ∙ ap₂ or_else (drop-check B (length xs) (tables B xs)) (same_rest q B (length xs) (tables B xs)));
    }
