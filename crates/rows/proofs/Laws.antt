-- The laws of a plan and of the row that it fills: what each way of making a plan gives, how the entries that are left are taken one by one, and what the row holds at the end.
-- No contract cites this file. Assumes nothing.
use mathlib.Core.Path.{◌≡◌, refl, sym, ap, subst, ◌∙◌}
use mathlib.Core.Bool.{Bool, true, false, not}
use mathlib.Core.List.{List, [], ◌∷◌, ◌++◌, map}
use Prim.Native.Nat.{ℕ, zero, suc, ◌+◌, ◌*◌, ◌-◌, ◌^◌, ◌≤◌, ◌<◌}
use native.Mathlib.Nat.{sub-zero}
use native.Mathlib.Omega.{arith}
use lib.Dec.{eqb, ltb, leb}
use lib.ListN.{length, take, drop, get_or, set, drop_of_length-le}
use Rattle.std.proofs.lemmas.List.{append_assoc, append-nil, take_more_set, take-append-drop, drop-set-lt, nil_from_length}
use Rattle.std.proofs.lemmas.Grind.{drop_more_same}
use borrow.Author.Tests.{ltb-false, lt-ltb, le-ltb}
use Rattle.units.specs.declared.BytePlace.{BytePlace}
use Rattle.units.specs.declared.Slot.{Slot}
use Rattle.units.specs.declared.Reason.{Reason}
use Rattle.units.specs.declared.Refusal.{Refusal}
use Rattle.units.specs.declared.Refusal.TheVariants as refusal
use Rattle.std.specs.Prelude.{Ok}
use Rattle.units.specs.declared.why.Why.{Why}
use Rattle.units.specs.Answer.{Answer, accepted, refused, refuse, pick, and_then}
use Rattle.units.specs.Bytes.{part}
use Rattle.units.specs.Places.{good_size, inside_or_empty}
use Rattle.units.specs.Refusals.{refused_by, why_at}
use Rattle.units.specs.Meanings.{card_means}
use Rattle.units.proofs.Laws.{by-pick}
use Rattle.crc32.specs.Crc.{crc}
use Rattle.header.specs.declared.Header.{Header}
use Rattle.partition.specs.declared.Partition.{Partition}
use Rattle.partition.specs.Format.{entry_at}
use Rattle.partition.specs.Array.{present, present_from, array_found}
use Rattle.rows.specs.declared.Entry.{Entry}
use Rattle.rows.specs.declared.inner.Plan.{Plan}
use Rattle.rows.specs.Slots.{slots_from, first_after, place_each, typed_each}
use Rattle.rows.specs.Row.{entry_of, present_entries, entry_each, typed_entries, partitions_read, row_outcome, RowEnds}
use Rattle.rows.specs.Plans.{Lies, listed_by, InArray, Made, entries_by, entry_by, slot_after, planned, no_plan, nowhere, plan_within, roomed, plan_count, plainly, entries_found}
use Rattle.rows.proofs.Slots.{first-edition, entry-within}

pub length-map : {A B : Type 0} (f : A → B) (l : List A) → length (map f l) ≡ length l
length-map f [] = refl
length-map f (x ∷ l) = ap suc (length-map f l)

-- as many entries as present slots
pub length-present : (xs : List ℕ) (at n : ℕ) → length (present_entries xs at n) ≡ length (present_from xs at 0 n)
unfolding present_entries
length-present xs at n = length-map (entry_of xs at) (present_from xs at 0 n)

pub length-typed : (xs : List ℕ) (each at n : ℕ) → length (typed_entries xs each at n) ≡ length (slots_from (typed_each xs each at) 0 n)
unfolding typed_entries
length-typed xs each at n = length-map (entry_each xs each at) (slots_from (typed_each xs each at) 0 n)

-- an array of no entries has none that is listed
pub no-entries : (xs : List ℕ) (p : Plan) → p.entries ≡ 0 → entries_by xs p ≡ []
unfolding entries_by slots_from
no-entries xs p e = rw e

-- ---- plans

module _ (xs : List ℕ) where
  pub made_none : (w : Reason) → Made xs (no_plan w)
  unfolding inside_or_empty entries_by slots_from
  made_none w = record { lies = record { size = omega arith; within = refl; whole = λ e. refl }; counted = refl; idle = λ e. refl }

  pub planned-none : (w : Reason) → planned xs (no_plan w) ≡ refused (why_at w)
  unfolding planned
  planned-none w = refl

  -- the plan that lists an array
  module _ (at : BytePlace) (n k : ℕ) (i : inside_or_empty (length xs) at.0 (n * 128) ≡ true) (e : k ≡ length (present_from xs at.0 0 n)) where
    abbrev listing : Plan
    listing = record { place = at; entries = n; each = 128; by_type = false; present = k; verdict = Ok tt }

    -- what it lists are the present entries
    listed : entries_by xs listing ≡ present_entries xs at.0 n
    unfolding entries_by present_entries entry_each entry_of
    listed = ap (map (entry_of xs at.0)) (sym (first-edition xs at.0 0 n))

    pub made-listing : Made xs listing × (planned xs listing ≡ accepted (present_entries xs at.0 n))
    unfolding planned
    made-listing = (
      record {
        lies = record { size = omega arith; within = i; whole = λ f. refl };
        counted = e ∙ sym (length-present xs at.0 n) ∙ ap length (sym listed);
        idle = λ f. absurd (let z : ◌≡◌ {A = ℕ} 0 1 = cc in omega arith);
      },
      ap accepted listed,
    )

  -- the plan that lists an array by the types of its entries
  module _ (at : BytePlace) (n each k : ℕ) (g : 128 ≤ each) (i : inside_or_empty (length xs) at.0 (n * each) ≡ true)
      (e : k ≡ length (slots_from (typed_each xs each at.0) 0 n)) where
    abbrev by-type : Plan
    by-type = record { place = at; entries = n; each = each; by_type = true; present = k; verdict = Ok tt }

    pub made-by-type : Made xs by-type × (planned xs by-type ≡ accepted (typed_entries xs each at.0 n))
    unfolding planned entries_by typed_entries
    made-by-type = (
      record {
        lies = record { size = g; within = i; whole = λ f. absurd (let z : ◌≡◌ {A = ℕ} 0 1 = cc in omega arith) };
        counted = e ∙ sym (length-typed xs each at.0 n);
        idle = λ f. absurd (let z : ◌≡◌ {A = ℕ} 0 1 = cc in omega arith);
      },
      refl,
    )

  -- the array that a header names
  module _ (h : Header) (b : ℕ) {p : Plan} where
    pub found-refused : {w : Refusal} → array_found xs h b ≡ refused_by w → p ≡ no_plan (nowhere w) → Made xs p × (planned xs p ≡ entries_found xs h b)
    unfolding entries_found
    found-refused {w} e f = rw (f, e) (made_none (nowhere w), planned-none (nowhere w))

    pub found-listed : {at : BytePlace} → array_found xs h b ≡ accepted at
        → Made xs p × (planned xs p ≡ accepted (present_entries xs at.0 h.num_parts))
        → Made xs p × (planned xs p ≡ entries_found xs h b)
    unfolding entries_found
    found-listed e f = rw e f

-- ---- a plan for a row of m places

module _ (m : ℕ) (p : Plan) where
  pub within-over : m < p.present → no_plan (nowhere refusal.NoRoom) ≡ plan_within m p
  unfolding plan_within
  within-over l = rw (lt-ltb m p.present l)

  pub within-kept : p.present ≤ m → p ≡ plan_within m p
  unfolding plan_within
  within-kept l = rw (le-ltb m p.present l)

  within-fits : (plan_within m p).present ≤ m
  unfolding plan_within
  within-fits = by-pick (λ (q : Plan). q.present ≤ m) (ltb m p.present) _ _ (λ _. omega arith) (λ e. ltb-false m p.present e)

  module _ (xs : List ℕ) (d : Made xs p) where
    made-within : Made xs (plan_within m p)
    unfolding plan_within
    made-within = by-pick (Made xs) (ltb m p.present) _ _ (λ _. made_none xs (nowhere refusal.NoRoom)) (λ _. d)

    -- a plan that refuses has no entries
    none-refused : {w : Why} → card_means p.verdict ≡ refused w → p.present ≡ 0
    none-refused e = d.counted ∙ ap length (no-entries xs p (d.idle e))

    -- so no row is too short for it, and 15 is that of what the plan says
    planned-within : planned xs (plan_within m p) ≡ roomed m (planned xs p)
    unfolding plan_within planned roomed
    planned-within = go (card_means p.verdict) refl
      where
        said : Plan → Answer (List Entry)
        said q = and_then (card_means q.verdict) (λ u. accepted (entries_by xs q))

        Q : Plan → Type 0
        Q q = said q ≡ and_then (said p) (λ l. pick (ltb m (length l)) (refuse 15) (accepted l))

        go : (v : Answer Unit) → card_means p.verdict ≡ v → Q (pick (ltb m p.present) (no_plan (nowhere refusal.NoRoom)) p)
        go (accepted u) e =
            let f : ltb m (length (entries_by xs p)) ≡ ltb m p.present = ap (ltb m) (sym d.counted) in
            by-pick Q (ltb m p.present) _ _ (λ t. rw (e, f, t)) (λ t. rw (e, f, t))
        go (refused w) e =
            let f : p.present ≤ m = omega (arith, none-refused e) in
            rw (le-ltb m p.present f, e)

-- the plan that a call was told is the one for m places
module _ (m : ℕ) (p : Plan) {q : Plan} (e : q ≡ plan_within m p) where
  pub plan-fits : q.present ≤ m
  plan-fits = rw e (within-fits m p)

  module _ (xs : List ℕ) (d : Made xs p) where
    pub plan-made : Made xs q
    plan-made = rw e (made-within m p xs d)

    pub plan-says : planned xs q ≡ roomed m (planned xs p)
    plan-says = ap (planned xs) e ∙ planned-within m p xs d

-- ---- what is answered

module _ (p : Plan) where
  pub counts-present : card_means p.verdict ≡ accepted tt → accepted p.present ≡ plan_count p
  unfolding plan_count
  counts-present e = rw e

  pub counts-refused : {w : Why} → card_means p.verdict ≡ refused w → refused w ≡ plan_count p
  unfolding plan_count
  counts-refused e = rw e

-- reading a header's array names no place
pub read-plainly : (xs : List ℕ) (h : Header) (b m : ℕ) (row : List Entry) → plainly (row_outcome (partitions_read xs h b m) row).answer ≡ (row_outcome (partitions_read xs h b m) row).answer
unfolding partitions_read array_found row_outcome
read-plainly xs h b m row =
    by-pick Q (not (good_size b)) _ _ (λ _. refl)
    (λ _. by-pick Q (leb (2 ^ 64) (h.part_start.0 * b)) _ _ (λ _. refl)
    (λ _. by-pick Q (not (eqb h.part_size 128)) _ _ (λ _. refl)
    (λ _. by-pick Q (not (inside_or_empty (length xs) (h.part_start.0 * b) (h.num_parts * 128))) _ _ (λ _. refl)
    (λ _. by-pick Q (not (eqb (crc (part xs (h.part_start.0 * b) (h.num_parts * 128))) h.crc32_parts)) _ _ (λ _. refl)
    (λ _. last (ltb m (length (present_from xs (h.part_start.0 * b) 0 h.num_parts))))))))
  where
    read : Answer BytePlace → Answer (List Entry)
    read a = and_then a (λ at. pick (ltb m (length (present_from xs at.0 0 h.num_parts))) (refuse 15) (accepted (present_entries xs at.0 h.num_parts)))

    Q : Answer BytePlace → Type 0
    Q a = plainly (row_outcome (read a) row).answer ≡ (row_outcome (read a) row).answer

    last : (t : Bool) → plainly (row_outcome (pick t (refuse 15) (accepted (present_entries xs (h.part_start.0 * b) h.num_parts))) row).answer
        ≡ (row_outcome (pick t (refuse 15) (accepted (present_entries xs (h.part_start.0 * b) h.num_parts))) row).answer
    last true = refl
    last false = refl

-- ---- one entry

module _ (xs : List ℕ) (p : Plan) (s : Slot) (l : Lies xs p) (i : InArray p s) where
  -- the entry in a slot ends inside the image
  pub slot-ends : p.place.0 + (s.0 - 1) * p.each + 128 ≤ length xs
  slot-ends = entry-within (length xs) p.place.0 p.each p.entries (s.0 - 1) l.size l.within (omega (arith, i.0, i.1))

  pub entry-ends : {a : ℕ} → a ≡ place_each p.each p.place.0 (s.0 - 1) → a + 128 ≤ length xs
  entry-ends e = omega (arith, slot-ends)

  pub entry_read : {a : ℕ} {q : Partition} → a ≡ place_each p.each p.place.0 (s.0 - 1) → q ≡ entry_at xs a → record { slot = s; partition = q } ≡ entry_by xs p s
  unfolding entry_each
  entry_read {a} {q} e f = let g : q ≡ entry_at xs (place_each p.each p.place.0 (s.0 - 1)) = f ∙ ap (λ (k : ℕ). entry_at xs k) e in ap (λ (k : Partition). record { slot = s; partition = k }) g

-- ---- the entries that are left after a slot, one by one

-- a slot that the test finds comes before those after it
from_step : (u : ℕ → Bool) (j k n : ℕ) → length (slots_from u k n) ≡ suc j
    → let s : ℕ = get_or (slots_from u k n) 0 0 in (slots_from u k n ≡ s ∷ slots_from u s (k + n - s)) × (k < s) × (s ≤ k + n)
unfolding slots_from
from_step u j k zero e = absurd (let z : ◌≡◌ {A = ℕ} 0 (suc j) = e in omega arith)
from_step u j k (suc n) e = go (u k) e (from_step u j (k + 1) n)
  where
    l : List ℕ
    l = slots_from u (k + 1) n

    -- the first of a list, and what is past it
    First : ℕ → List ℕ → Type 0
    First i m = let s : ℕ = get_or m 0 0 in (m ≡ s ∷ slots_from u s (k + suc n - s)) × (i < s) × (s ≤ k + suc n)

    go : (t : Bool) → length (pick t ((k + 1) ∷ l) l) ≡ suc j
        → (length l ≡ suc j → (l ≡ get_or l 0 0 ∷ slots_from u (get_or l 0 0) (k + 1 + n - get_or l 0 0)) × (k + 1 < get_or l 0 0) × (get_or l 0 0 ≤ k + 1 + n))
        → First k (pick t ((k + 1) ∷ l) l)
    go true f g =
        let m : k + suc n - (k + 1) ≡ n = omega arith in
        (ap (λ (i : ℕ). (k + 1) ∷ slots_from u (k + 1) i) (sym m), omega arith, omega arith)
    go false f g =
        let r = g f in
        let m : k + 1 + n ≡ k + suc n = omega arith in
        (rw m at r.0, omega (arith, r.1), omega (arith, r.2))

module _ (xs : List ℕ) (p : Plan) where
  -- the listed entries after slot s
  unfoldable pub left : Slot → List Entry
  left s = map (entry_each xs p.each p.place.0) (slots_from (listed_by xs p) s.0 (p.entries - s.0))

  -- slot 0 stands before the first
  pub left-all : left (record { 0 = 0 }) ≡ entries_by xs p
  unfolding left entries_by
  left-all = rw sub-zero

  -- where any are left, the next slot is one of the array's, and its entry is the first of them
  pub left_step : (s : Slot) (j : ℕ) → length (left s) ≡ suc j
      → InArray p (slot_after xs p s) × (left s ≡ entry_by xs p (slot_after xs p s) ∷ left (slot_after xs p s))
  unfolding left slot_after first_after
  left_step s j e =
      let u : ℕ → Bool = listed_by xs p in
      let n : ℕ = p.entries - s.0 in
      let f : length (slots_from u s.0 n) ≡ suc j = sym (length-map (entry_each xs p.each p.place.0) (slots_from u s.0 n)) ∙ e in
      let r = from_step u j s.0 n f in
      let t : ℕ = get_or (slots_from u s.0 n) 0 0 in
      let m : s.0 + n - t ≡ p.entries - t = omega (arith, r.1, r.2) in
      ((omega (arith, r.1), omega (arith, r.1, r.2)), ap (map (entry_each xs p.each p.place.0)) (r.0 ∙ ap (λ (i : ℕ). t ∷ slots_from u t i) m))

-- ---- the next slot, by the types and by the 128 bytes

-- the first of a list's first
head-taken : {k : ℕ} {o : List ℕ} (l : List ℕ) → k ≡ get_or o 0 0 → o ≡ take 1 l → k ≡ get_or l 0 0
head-taken [] e f = e ∙ ap (λ (x : List ℕ). get_or x 0 0) f
head-taken (x ∷ l) e f = e ∙ ap (λ (x : List ℕ). get_or x 0 0) f

module _ (xs : List ℕ) (p : Plan) (s : Slot) where
  test : Bool → ℕ → Bool
  test t k = pick t (typed_each xs p.each p.place.0 k) (present xs p.place.0 k)

  after-by : (t : Bool) {k : Slot} → p.by_type ≡ t → k.0 ≡ first_after (test t) p.entries s.0 → k ≡ slot_after xs p s
  unfolding slot_after test
  after-by t e f = ap (λ (x : ℕ). record { 0 = x }) (f ∙ ap (λ (v : Bool). first_after (test v) p.entries s.0) (sym e))

  pub after-by-type : {k : Slot} {o : List ℕ} → p.by_type ≡ true → k.0 ≡ get_or o 0 0 → o ≡ take 1 (slots_from (typed_each xs p.each p.place.0) s.0 (p.entries - s.0)) → k ≡ slot_after xs p s
  unfolding test first_after
  after-by-type e f g = after-by true e (head-taken _ f g)

  pub after-whole : {k : Slot} {o : List ℕ} → p.by_type ≡ false → k.0 ≡ get_or o 0 0 → o ≡ take 1 (present_from xs p.place.0 s.0 (p.entries - s.0)) → k ≡ slot_after xs p s
  unfolding test first_after
  after-whole e f g = after-by false e (head-taken _ f g ∙ ap (λ (l : List ℕ). get_or l 0 0) (first-edition xs p.place.0 s.0 (p.entries - s.0)))

-- ---- a plan that was carried out

-- what a plan says, what is answered and the entries that are stored, one way for each answer: a refusal has no entries
by_answer : (xs : List ℕ) (q : Plan) → Made xs q → (Q : Answer (List Entry) → Answer ℕ → List Entry → Type 0)
    → ((es : List Entry) → Q (accepted es) (accepted (length es)) es) → ((w : Why) → Q (refused w) (refused w) []) → Q (planned xs q) (plan_count q) (entries_by xs q)
unfolding plan_count planned entries_by
by_answer xs q d Q f g = go (card_means q.verdict) refl
  where
    es : List Entry
    es = entries_by xs q

    go : (v : Answer Unit) → card_means q.verdict ≡ v
        → Q (and_then (card_means q.verdict) (λ u. accepted es)) (and_then (card_means q.verdict) (λ u. accepted q.present)) es
    go (accepted u) h = rw (h, d.counted) (f es)
    go (refused w) h = let n : es ≡ [] = no-entries xs q (d.idle h) in rw (h, n) (g w)

-- the same of a plan for m places
pub by-plan : (xs : List ℕ) (m : ℕ) (p : Plan) → Made xs p → {q : Plan} → q ≡ plan_within m p → (Q : Answer (List Entry) → Answer ℕ → List Entry → Type 0)
    → ((es : List Entry) → Q (accepted es) (accepted (length es)) es) → ((w : Why) → Q (refused w) (refused w) []) → Q (roomed m (planned xs p)) (plan_count q) (entries_by xs q)
by-plan xs m p d {q} e Q f g = rw (← plan-says m p e xs d) (by_answer xs q (plan-made m p e xs d) Q f g)

-- the row at the end
pub row_ends : (xs : List ℕ) (p : Plan) (row : List Entry) → Made xs p → {q : Plan} {a : Answer ℕ} {ys : List Entry}
    → q ≡ plan_within (length row) p → a ≡ plan_count q → ys ≡ entries_by xs q ++ drop (length (entries_by xs q)) row
    → RowEnds (row_outcome (roomed (length row) (planned xs p)) row) a ys
unfolding row_outcome
row_ends xs p row d {q} {a} {ys} e =
    by-plan xs (length row) p d e (λ o k es. a ≡ k → ys ≡ es ++ drop (length es) row → RowEnds (row_outcome o row) a ys)
    (λ es f g. record { answer = f; row = g }) (λ w f g. record { answer = f; row = g })

-- ---- a row that is filled one place after another

module _ (row : List Entry) (i : ℕ) where
  -- one more place, with the first of the entries that are left
  pub place-stored : {y z : Entry} {l more es : List Entry} → i < length row → y ≡ z → l ≡ z ∷ more → take i row ++ l ≡ es → take (i + 1) (set row i y) ++ more ≡ es
  place-stored {y} {z} {l} {more} {es} h e f g =
      let k : take i row ++ (z ∷ more) ≡ es = rw f at g in
      rw (take_more_set row i y h, append_assoc, e) k

  -- the places behind it are as they were
  pub place-kept : (y : Entry) (was : List Entry) → drop i row ≡ drop i was → drop (i + 1) (set row i y) ≡ drop (i + 1) was
  place-kept y was e = drop-set-lt (i + 1) row i y (omega arith) ∙ drop_more_same row was i e

  -- when none is left, the first places hold the entries, and the others are as they were
  pub places-full : (l es was : List Entry) → length l ≡ 0 → take i row ++ l ≡ es → drop i row ≡ drop i was → i ≡ length es → row ≡ es ++ drop (length es) was
  places-full l es was n e f h =
      let z : l ≡ [] = nil_from_length l n in
      let k : take i row ≡ es = rw (z, append-nil) at e in
      sym (take-append-drop i row) ∙ ap (λ (p : List Entry). p ++ drop i row) k ∙ ap (λ (p : List Entry). es ++ p) (f ∙ ap (λ (j : ℕ). drop j was) h)

-- the same of the places alone, which the rest of the row stands behind
pub places_all : (items : List Entry) (i n : ℕ) (l es row : List Entry) → length l ≡ 0 → length items ≤ i → length items ≡ n → take i items ++ l ≡ es
    → items ++ drop n row ≡ es ++ drop (length es) row
places_all items i n l es row e h m f =
    let z : l ≡ [] = nil_from_length l e in
    let k : take i items ≡ es = rw (z, append-nil) at f in
    let w : items ≡ es = sym (take-append-drop i items) ∙ rw (drop_of_length-le items h, append-nil) k in
    ap (λ (p : List Entry). p ++ drop n row) w ∙ ap (λ (j : ℕ). es ++ drop j row) (sym m ∙ ap length w)

-- ---- a call that fills a lent row: its plan says what is asked, the row is filled by it, and the answer is what is shown of the count

pub row-shown : (shown : Answer ℕ → Answer ℕ) (told : Answer (List Entry)) (row : List Entry) {said ask : Answer (List Entry)} {k r : Answer ℕ} {ys : List Entry}
    → said ≡ ask → roomed (length row) ask ≡ told → shown (row_outcome told row).answer ≡ (row_outcome told row).answer
    → RowEnds (row_outcome (roomed (length row) said) row) k ys → r ≡ shown k → RowEnds (row_outcome told row) r ys
row-shown shown told row {said} {ask} {k} {r} {ys} e s f d m =
    let p : RowEnds (row_outcome told row) k ys = subst (λ (a : Answer (List Entry)). RowEnds (row_outcome a row) k ys) (ap (roomed (length row)) e ∙ s) d in
    record { answer = m ∙ ap shown p.answer ∙ f; row = p.row }

-- ---- the header's array: what is found before a row is lent, with the row's 15
pub found_within : (xs : List ℕ) (h : Header) (b m : ℕ) → roomed m (entries_found xs h b) ≡ partitions_read xs h b m
unfolding roomed entries_found partitions_read
found_within xs h b m = go (array_found xs h b)
  where
    go : (a : Answer BytePlace)
        → and_then (and_then a (λ at. accepted (present_entries xs at.0 h.num_parts))) (λ es. pick (ltb m (length es)) (refuse 15) (accepted es))
        ≡ and_then a (λ at. pick (ltb m (length (present_from xs at.0 0 h.num_parts))) (refuse 15) (accepted (present_entries xs at.0 h.num_parts)))
    go (refused w) = refl
    go (accepted at) = rw (length-present xs at.0 h.num_parts)
