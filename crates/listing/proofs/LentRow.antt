-- The laws of the lent listing: it may be made on the image, 15 comes last, and it lists what the calls by value give. No contract cites this file.
-- Assumes nothing.
use mathlib.Core.Path.{◌≡◌, refl, sym, ap, ◌∙◌}
use mathlib.Core.Bool.{Bool, true, false}
use mathlib.Core.List.{List, [], ◌∷◌, map}
use Prim.Native.Nat.{ℕ, zero, suc, ◌+◌, ◌-◌, ◌≤◌, ◌<◌}
use native.Mathlib.Omega.{arith}
use lib.Dec.{ltb}
use lib.ListN.{length}
use Rattle.units.specs.declared.Reason.{Reason}
use Rattle.units.specs.declared.why.Why.{Why}
use Rattle.units.specs.Answer.{plain, when, or_else, if_zero, judged, accepted, refused, refuse, pick, and_then}
use Rattle.units.specs.Refusals.{why_at}
use Rattle.partition.specs.Format.{entry_at}
use Rattle.partition.specs.Array.{entry_place, present, present_from}
use Rattle.rows.specs.declared.Entry.{Entry}
use Rattle.rows.specs.declared.inner.Plan.{Plan}
use Rattle.rows.specs.Row.{entry_of, present_entries}
use Rattle.rows.specs.Plans.{Made, planned, no_plan, roomed}
use Rattle.rows.proofs.Laws.{length-map, made_none, planned-none}
use Rattle.tables.specs.Lens.{Tables, tables}
use Rattle.tables.specs.Check.{check, check_answer}
use Rattle.listing.proofs.Ways.{judged-refuses, judged-accepts}
use Rattle.listing.proofs.Agree.{judged-map}
use Rattle.listing.specs.Listing.{present_slots, listing_check, Listed, listed, entries_answer}
use Rattle.listing.proofs.Scans.{entry-in-image, present-in-image}
use Rattle.listing.specs.LentRow.{entries_in, card_entries, listing_read}

-- ---- the image and its front table

-- two scans that find the same entries give the same records
entries-same : (xs ys : List ℕ) (a b k n m : ℕ) → k + n ≤ m
    → ((j : ℕ) → j < m → present xs a j ≡ present ys b j) → ((j : ℕ) → j < m → entry_at xs (entry_place a j) ≡ entry_at ys (entry_place b j))
    → map (entry_of xs a) (present_from xs a k n) ≡ map (entry_of ys b) (present_from ys b k n)
unfolding present_from entry_of
entries-same xs ys a b k zero m h f g = refl
entries-same xs ys a b k (suc n) m h f g =
    let j : k + 1 - 1 ≡ k = omega arith in
    let e : present xs a k ≡ present ys b k = f k (omega arith) in
    rw e (go (present ys b k) (rw j (g k (omega arith))) (entries-same xs ys a b (k + 1) n m (omega arith) f g))
  where
    go : (t : Bool) → entry_at xs (entry_place a (k + 1 - 1)) ≡ entry_at ys (entry_place b (k + 1 - 1))
        → map (entry_of xs a) (present_from xs a (k + 1) n) ≡ map (entry_of ys b) (present_from ys b (k + 1) n)
        → map (entry_of xs a) (pick t ((k + 1) ∷ present_from xs a (k + 1) n) (present_from xs a (k + 1) n))
        ≡ map (entry_of ys b) (pick t ((k + 1) ∷ present_from ys b (k + 1) n) (present_from ys b (k + 1) n))
    go true p r = cc
    go false p r = r

entries-in-image : (B : ℕ) (xs : List ℕ) → present_entries xs (B + B) 128 ≡ entries_in (tables B xs)
unfolding present_entries entries_in present_slots
entries-in-image B xs =
    entries-same xs (tables B xs).front.array (B + B) 0 0 128 128 (omega arith)
    (λ j h. sym (present-in-image B (length xs) xs j h)) (λ j h. sym (entry-in-image B (length xs) xs j h))

-- ---- the plan

module _ (B : ℕ) (xs : List ℕ) {p : Plan} where
  pub plan-refused : {w : Reason} → check_answer B xs ≡ refused (why_at w) → p ≡ no_plan w → Made xs p × (planned xs p ≡ card_entries B xs)
  unfolding card_entries
  plan-refused {w} e f = rw f (made_none xs w, planned-none xs w ∙ sym (judged-refuses (entries_in (tables B xs)) (check B (length xs) (tables B xs)) e))

  pub plan-listed : {at : ℕ} → check_answer B xs ≡ accepted tt → at ≡ B + B → Made xs p × (planned xs p ≡ accepted (present_entries xs at 128))
      → Made xs p × (planned xs p ≡ card_entries B xs)
  unfolding card_entries
  plan-listed e f q =
      (q.0, q.1 ∙ ap (λ (a : ℕ). accepted (present_entries xs a 128)) f ∙ ap accepted (entries-in-image B xs) ∙ sym (judged-accepts (entries_in (tables B xs)) (check B (length xs) (tables B xs)) e))

-- ---- 15 comes last

as_many : (t : Tables) → length (entries_in t) ≡ length (present_slots t)
unfolding entries_in
as_many t = length-map (entry_of t.front.array 0) (present_slots t)

-- the test of the row, before or after the check
tested : (m : ℕ) (es : List Entry) (k : Why) → and_then (judged k es) (λ l. pick (ltb m (length l)) (refuse 15) (accepted l)) ≡ judged (or_else k (when (ltb m (length es)) (plain 15))) es
unfolding judged or_else
tested m es k = by k.number refl
  where
    go : (t : Bool) → pick t (refuse 15) (accepted es) ≡ if_zero (when t (plain 15)).number (accepted es) (refused (when t (plain 15)))
    go true = refl
    go false = refl

    by : (n : ℕ) → k.number ≡ n
        → and_then (if_zero k.number (accepted es) (refused k)) (λ l. pick (ltb m (length l)) (refuse 15) (accepted l))
        ≡ if_zero (if_zero k.number (when (ltb m (length es)) (plain 15)) k).number (accepted es) (refused (if_zero k.number (when (ltb m (length es)) (plain 15)) k))
    by zero e = rw e (go (ltb m (length es)))
    by (suc n) e = rw e

pub listed-within : (B : ℕ) (xs : List ℕ) (m : ℕ) → roomed m (card_entries B xs) ≡ listing_read B xs m
unfolding roomed card_entries listing_read listing_check
listed-within B xs m =
    let k : Why = check B (length xs) (tables B xs) in
    let es : List Entry = entries_in (tables B xs) in
    tested m es k ∙ ap (λ (n : ℕ). judged (or_else k (when (ltb m n) (plain 15))) es) (as_many (tables B xs))

-- ---- the row holds what the calls by value give

abbrev entry_for : Listed → Entry
entry_for l = record { slot = record { 0 = l.slot }; partition = l.partition }

same_entries : (t : Tables) (l : List ℕ) → map (entry_of t.front.array 0) l ≡ map entry_for (map (listed t) l)
unfolding entry_of
same_entries t [] = refl
same_entries t (s ∷ l) = ap (λ (r : List Entry). entry_for (listed t s) ∷ r) (same_entries t l)

-- the entries of the row are those of the listing by value, one by one
pub row-is-listed : (B : ℕ) (xs : List ℕ) → card_entries B xs ≡ and_then (entries_answer B xs) (λ l. accepted (map entry_for l))
unfolding card_entries entries_in
row-is-listed B xs =
    ap (judged (check B (length xs) (tables B xs))) (same_entries (tables B xs) (present_slots (tables B xs)))
    ∙ sym (judged-map (map entry_for) (check B (length xs) (tables B xs)) (map (listed (tables B xs)) (present_slots (tables B xs))))
