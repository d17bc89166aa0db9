-- The flags of a card: the scans over them, one entry changed, and a map carried through any calls. No contract cites this file. Assumes nothing.
use mathlib.Core.Path.{◌≡◌, refl, sym, ap, ◌∙◌}
use mathlib.Core.Bool.{Bool, true, false, not, ◌&&◌}
use mathlib.Core.List.{List, [], ◌∷◌}
use Prim.Native.Nat.{ℕ, zero, suc, ◌+◌, ◌-◌, ◌<◌}
use native.Mathlib.Omega.{arith}
use borrow.Author.Tests.{eqb-true, eqb-false}
use lib.Dec.{eqb}
use lib.ListN.{length, take, set, get_or, length-set}
use lib.Seq.{ext_get_or, get_or-set_same, get_or-set_other}
use Rattle.units.specs.Answer.{pick}
use Rattle.units.specs.Bytes.{all_zero}
use Rattle.partition.specs.Array.{present, present_from}
use Rattle.tables.specs.Checks.{lowest}
use Rattle.tables.specs.Lens.{Tables, tables, tables_at}
use Rattle.tables.specs.Entries.{zeros, entry, set_entry, used, usable, ok_entry}
use Rattle.tables.specs.Check.{check, slot_check}
use Rattle.card.specs.Calls.{put_at, put_check, put_bytes, clear_at, payload_at, payload_check}
use Rattle.history.specs.History.{Op, put, clear, payload, call, run, taken}
use Rattle.listing.specs.Listing.{present_slots}
use Rattle.tables.proofs.Orders.{by-test, and_left}
use Rattle.tables.proofs.EntryLaws.{length-zeros, entry_set, zero-front, zeros-zero}
use Rattle.tables.proofs.Good.{check-good, accepted-array}
use Rattle.history.proofs.State.{State, state-front, taken-zero, untaken-image}
use Rattle.history.proofs.Changes.{put-ok, put-done, clear-done, clear-slot, clear-check}
use Rattle.history.proofs.Payload.{payload-tables, payload-length}
use Rattle.listing.proofs.Scans.{entry-place}
use Rattle.history.proofs.Records.{length-put}
use Rattle.slot_map.specs.Bits.{first_false, count_true}
use Rattle.slot_map.specs.Map.{flags_from, flags_in, free_place, marked, after_map, carried}

-- ---- the scans

pub length-flags : (arr : List ℕ) (k n : ℕ) → length (flags_from arr k n) ≡ n
unfolding flags_from
length-flags arr k zero = refl
length-flags arr k (suc n) = ap suc (length-flags arr (k + 1) n)

flag-from : (arr : List ℕ) (n k i : ℕ) → i < n → get_or (flags_from arr k n) i false ≡ present arr 0 (k + i)
unfolding flags_from
flag-from arr zero k i h = absurd (omega arith)
flag-from arr (suc n) k zero h = let e : k + 0 ≡ k = omega arith in ap (present arr 0) (sym e)
flag-from arr (suc n) k (suc i) h = let e : k + 1 + i ≡ k + suc i = omega arith in flag-from arr n (k + 1) i (omega arith) ∙ ap (present arr 0) e

pub flag_at : (arr : List ℕ) (k : ℕ) → k < 128 → get_or (flags_from arr 0 128) k false ≡ present arr 0 k
flag_at arr k h = let e : 0 + k ≡ k = omega arith in flag-from arr 128 0 k h ∙ ap (present arr 0) e

-- as many as the listing has
count-from : (arr : List ℕ) (n k : ℕ) → count_true (flags_from arr k n) ≡ length (present_from arr 0 k n)
unfolding flags_from count_true present_from
count-from arr zero k = refl
count-from arr (suc n) k = by-test (present arr 0 k) (λ e. rw e (ap suc (count-from arr n (k + 1)))) (λ e. rw e (count-from arr n (k + 1)))

pub count-is : (B : ℕ) (xs : List ℕ) → count_true (flags_in B xs) ≡ length (present_slots (tables B xs))
unfolding present_slots
count-is B xs = count-from (tables B xs).front.array 128 0

-- the lowest that is free
lowest-ext : (n : ℕ) (f g : ℕ → Bool) → ((k : ℕ) → f k ≡ g k) → lowest n f ≡ lowest n g
unfolding lowest
lowest-ext zero f g h = refl
lowest-ext (suc n) f g h = rw (h 0, lowest-ext n (λ (k : ℕ). f (suc k)) (λ (k : ℕ). g (suc k)) (λ k. h (suc k)))

free-from : (arr : List ℕ) (n k : ℕ) → first_false (flags_from arr k n) ≡ lowest n (λ (j : ℕ). not (present arr 0 (k + j)))
unfolding flags_from first_false lowest
free-from arr zero k = refl
free-from arr (suc n) k =
    let z : k + 0 ≡ k = omega arith in
    let r : first_false (flags_from arr (k + 1) n) ≡ lowest n (λ (j : ℕ). not (present arr 0 (k + suc j))) =
    free-from arr n (k + 1) ∙ lowest-ext n (λ (j : ℕ). not (present arr 0 (k + 1 + j))) (λ (j : ℕ). not (present arr 0 (k + suc j))) (λ j. let e : k + 1 + j ≡ k + suc j = omega arith in ap (λ (i : ℕ). not (present arr 0 i)) e) in
    by-test (present arr 0 k)
    (λ e. let t : present arr 0 (k + 0) ≡ true = ap (present arr 0) z ∙ e in rw (e, t) (ap suc r))
    (λ e. let t : present arr 0 (k + 0) ≡ false = ap (present arr 0) z ∙ e in rw (e, t))

pub free-is : (B : ℕ) (xs : List ℕ) → first_false (flags_in B xs) ≡ free_place (tables B xs).front.array
free-is B xs =
    free-from (tables B xs).front.array 128 0
    ∙ lowest-ext 128 (λ (j : ℕ). not (present (tables B xs).front.array 0 (0 + j))) (λ (j : ℕ). not (present (tables B xs).front.array 0 j)) (λ j. let e : 0 + j ≡ j = omega arith in ap (λ (i : ℕ). not (present (tables B xs).front.array 0 i)) e)

-- ---- one entry changed

present-entry : (arr : List ℕ) (k : ℕ) → present arr 0 k ≡ not (all_zero (entry arr k))
present-entry arr k = ap (λ (l : List ℕ). not (all_zero l)) (sym (entry-place arr k))

pub flags-set : (arr : List ℕ) (k : ℕ) (e : List ℕ) → length arr ≡ 16384 → k < 128 → length e ≡ 128 → flags_from (set_entry arr k e) 0 128 ≡ set (flags_from arr 0 128) k (not (all_zero e))
flags-set arr k e la h le =
    let l : length (flags_from arr 0 128) ≡ 128 = length-flags arr 0 128 in
    ext_get_or false _ _ (length-flags (set_entry arr k e) 0 128 ∙ sym (length-set (flags_from arr 0 128) k (not (all_zero e)) ∙ l))
    (λ i b.
    let m : i < 128 = omega (arith, length-flags (set_entry arr k e) 0 128) in
    let q : get_or (flags_from (set_entry arr k e) 0 128) i false ≡ not (all_zero (pick (eqb i k) e (entry arr i))) =
    flag_at (set_entry arr k e) i m ∙ present-entry (set_entry arr k e) i ∙ ap (λ (x : List ℕ). not (all_zero x)) (entry_set arr k e la h le i m) in
    by-test (eqb i k)
    (λ t.
    let d : i ≡ k = eqb-true i k t in
    q ∙ ap (λ (c : Bool). not (all_zero (pick c e (entry arr i)))) t ∙ sym (ap (λ (j : ℕ). get_or (set (flags_from arr 0 128) k (not (all_zero e))) j false) d ∙ get_or-set_same (flags_from arr 0 128) k (not (all_zero e)) false (omega arith)))
    (λ t.
    let d = eqb-false i k t in
    q ∙ ap (λ (c : Bool). not (all_zero (pick c e (entry arr i)))) t ∙ sym (present-entry arr i) ∙ sym (flag_at arr i m) ∙ sym (get_or-set_other (flags_from arr 0 128) k i (not (all_zero e)) false d)))

-- ---- a map carried through calls is the one that a fresh making would give

-- a used entry is not all zero
used-flag : (e : List ℕ) → used e ≡ true → not (all_zero e) ≡ true
unfolding used
used-flag e u =
    by-test (all_zero e)
    (λ z. let s : all_zero (take 16 e) ≡ true = zero-front 16 e z in let o : ◌≡◌ {A = ℕ} 0 1 = cc in absurd (omega arith))
    (λ z. ap not z)

-- where the check accepts, an entry is present exactly if it is used: a flag is that of a used slot
flag_ok : (B n : ℕ) (e : List ℕ) → ok_entry B n e ≡ true → not (all_zero e) ≡ used e
unfolding ok_entry
flag_ok B n e h =
    by-test (used e)
    (λ u. used-flag e u ∙ sym u)
    (λ u.
    by-test (all_zero e)
    (λ z. ap not z ∙ sym u)
    (λ z.
    let q : used e && usable B n e ≡ true = rw z at h in
    let o : ◌≡◌ {A = ℕ} 0 1 = let w : used e ≡ true = and_left (used e) (usable B n e) q in cc in
    absurd (omega arith)))

pub flag-used : (B n : ℕ) (t : Tables) → (check B n t).number ≡ 0 → (k : ℕ) → k < 128 → present t.front.array 0 k ≡ used (entry t.front.array k)
flag-used B n t h k l =
    ap (λ (x : List ℕ). not (all_zero x)) (sym (entry-place t.front.array k)) ∙ flag_ok B n (entry t.front.array k) ((check-good B n t h).entries.each k l)

-- the flags of an image whose card has an array
flags-state : {B n : ℕ} {g arr xs : List ℕ} → State B n g arr xs → flags_in B xs ≡ flags_from arr 0 128
flags-state {B} {n} {g} {arr} {xs} k =
    ap (λ (m : ℕ). flags_from (tables_at B m xs).front.array 0 128) k.size ∙ ap (λ (a : List ℕ). flags_from a 0 128) (state-front k)

-- each call, accepted or refused, on any image
pub step-put : (B : ℕ) (xs : List ℕ) (s : ℕ) (e : List ℕ) (r : ℕ) → length e ≡ 128 → (t : Bool) → taken (put_at B (length xs) xs s e r).answer ≡ t → flags_in B (put_at B (length xs) xs s e r).image ≡ marked t s true (flags_in B xs)
unfolding put_at
step-put B xs s e r l true h =
    let z : (put_check B (length xs) (tables B xs) s e r).number ≡ 0 = taken-zero tt _ xs _ h in
    let o = put-ok B (length xs) (tables B xs) s e r z in
    let a : length (tables B xs).front.array ≡ 16384 = accepted-array B (length xs) xs refl o.card in
    flags-state (put-done B (length xs) xs refl s e r l z)
    ∙ flags-set (tables B xs).front.array (s - 1) e a o.slot l
    ∙ ap (λ (b : Bool). set (flags_in B xs) (s - 1) b) (used-flag e o.taken)
step-put B xs s e r l false h = ap (flags_in B) (untaken-image tt _ xs _ h)

pub step_clear : (B : ℕ) (xs : List ℕ) (s : ℕ) (t : Bool) → taken (clear_at B (length xs) xs s).answer ≡ t → flags_in B (clear_at B (length xs) xs s).image ≡ marked t s false (flags_in B xs)
unfolding clear_at
step_clear B xs s true h =
    let z : (slot_check B (length xs) (tables B xs) s).number ≡ 0 = taken-zero tt _ xs _ h in
    let a : length (tables B xs).front.array ≡ 16384 = accepted-array B (length xs) xs refl (clear-check B (length xs) (tables B xs) s z) in
    flags-state (clear-done B (length xs) xs refl s z)
    ∙ flags-set (tables B xs).front.array (s - 1) (zeros 128) a (clear-slot B (length xs) (tables B xs) s z).1 (length-zeros 128)
    ∙ ap (λ (b : Bool). set (flags_in B xs) (s - 1) (not b)) zeros-zero
step_clear B xs s false h = ap (flags_in B) (untaken-image tt _ xs _ h)

pub step-payload : (B : ℕ) (xs : List ℕ) (s p : ℕ) (ys : List ℕ) (t : Bool) → taken (payload_at B (length xs) xs s p ys).answer ≡ t → flags_in B (payload_at B (length xs) xs s p ys).image ≡ flags_in B xs
unfolding payload_at
step-payload B xs s p ys true h =
    let z : (payload_check B (length xs) (tables B xs) s p (length ys)).number ≡ 0 = taken-zero (length ys) _ xs _ h in
    ap (λ (m : ℕ). flags_from (tables_at B m (payload_at B (length xs) xs s p ys).image).front.array 0 128) (payload-length B (length xs) xs refl s p ys z)
    ∙ ap (λ (t : Tables). flags_from t.front.array 0 128) (payload-tables B (length xs) xs refl s p ys z)
step-payload B xs s p ys false h = ap (flags_in B) (untaken-image (length ys) _ xs _ h)

-- one call
pub carried-one : (B : ℕ) (o : Op) (xs : List ℕ) → flags_in B (call B o xs).image ≡ after_map (call B o xs).taken o (flags_in B xs)
carried-one B (put s p h) xs = step-put B xs s (put_bytes p) p.flags.reserved (length-put p h) (call B (put s p h) xs).taken refl
carried-one B (clear s) xs = step_clear B xs s (call B (clear s) xs).taken refl
carried-one B (payload s p ys) xs = step-payload B xs s p ys (call B (payload s p ys) xs).taken refl

-- any calls
pub carried-is : (B : ℕ) (os : List Op) (xs : List ℕ) → carried B os xs (flags_in B xs) ≡ flags_in B (run B os xs)
unfolding carried run
carried-is B [] xs = refl
carried-is B (o ∷ os) xs = ap (carried B os (call B o xs).image) (sym (carried-one B o xs)) ∙ carried-is B os (call B o xs).image
