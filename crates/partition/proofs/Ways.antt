-- The ways out of the calls, one law for each: what the tests told, and what the definition then gives. No contract cites this file. Assumes nothing.
use mathlib.Core.Path.{◌≡◌, refl, sym, ap, ◌∙◌}
use mathlib.Core.Bool.{Bool, true, false, not, ◌||◌}
use mathlib.Core.List.{List, [], ◌∷◌}
use Prim.Native.Nat.{ℕ, ◌+◌, ◌*◌, ◌-◌, ◌^◌, ◌≤◌, ◌<◌}
use native.Mathlib.Omega.{arith}
use lib.Dec.{eqb, ltb, leb}
use lib.ListN.{length, replicate, take}
use lib.Seq.{sets}
use borrow.Author.Tests.{eq-eqb, ne_eqb, lt-ltb, le-ltb, le-leb, lt-leb, eqb-true, eqb-false, leb-true, leb-false, ltb-false, not-false}
use Rattle.units.proofs.Lists.{sets-all}
use Rattle.units.specs.declared.BytePlace.{BytePlace}
use Rattle.units.specs.declared.why.Why.{Why}
use Rattle.units.specs.Answer.{Answer, accepted, refused, refuse, pick, and_then, beside, Outcome, gives}
use Rattle.units.specs.Bytes.{part, all_zero}
use Rattle.units.specs.Places.{good_size, inside, inside_or_empty, place_of, place_after, array_place_of}
use Rattle.crc32.specs.Crc.{crc}
use Rattle.header.specs.declared.Header.{Header}
use Rattle.header.specs.Writing.{parts_sum}
use Rattle.header.proofs.Ways.{parts-by-place}
use Rattle.units.proofs.Laws.{by-pick, pick-refused, pick-accepted, place-over, place-fits}
use Rattle.partition.specs.Lengths.{sectors_len, bytes_len}
use Rattle.partition.specs.Device.{run_place, device_sizes, device_place, entry_device, stored_at, entry_stored}
use Rattle.partition.specs.declared.Flags.{Flags}
use Rattle.partition.specs.declared.Partition.{Partition}
use Rattle.partition.specs.Flags.{too_wide, Joins}
use Rattle.partition.specs.Format.{entry_at, entry_bytes, named, tidied, zero_partition, fitted}
use Rattle.partition.specs.Array.{present_from, first_slot, array_found, partition_found, partition_read, partition_count, partition_after, reading_of}
use Rattle.partition.specs.Held.{FitEntry}
use Rattle.partition.proofs.Laws.{length-entry, fitted-same, entry-back, next-none, next-some, length-cleared}

-- a range that is inside or empty, and is not empty
pub inside-filled : (len at n : ℕ) → inside_or_empty len at n ≡ true → (n ≡ 0 → ⊥) → at + n ≤ len
unfolding inside_or_empty inside
inside-filled len at n e z = leb-true (at + n) len (rw (ne_eqb n 0 z) at e)

-- ---- how long a partition is

-- the bytes, once the blocks are counted
bytes-by-sectors : (first last b : ℕ) → good_size b ≡ true
    → bytes_len first last b ≡ and_then (sectors_len first last) (λ n. pick (leb (2 ^ 64) (n * b)) (refuse 3) (accepted (n * b)))
unfolding bytes_len sectors_len
bytes-by-sectors first last b g = rw g (go (ltb last first) (leb (2 ^ 64) (last - first + 1)))
  where
    n : ℕ
    n = last - first + 1

    go : (s t : Bool)
        → pick s (refuse 20) (pick t (refuse 3) (pick (leb (2 ^ 64) (n * b)) (refuse 3) (accepted (n * b))))
        ≡ and_then (pick s (refuse 20) (pick t (refuse 3) (accepted n))) (λ (m : ℕ). pick (leb (2 ^ 64) (m * b)) (refuse 3) (accepted (m * b)))
    go true t = refl
    go false true = refl
    go false false = refl

module _ (first last b : ℕ) {good : Bool} (g : good ≡ good_size b) where
  pub bytes-size : not good ≡ true → refuse 1 ≡ bytes_len first last b
  unfolding bytes_len
  bytes-size t = rw (← g, t)

  module _ (t : not good ≡ false) where
    by-sectors : bytes_len first last b ≡ and_then (sectors_len first last) (λ n. pick (leb (2 ^ 64) (n * b)) (refuse 3) (accepted (n * b)))
    by-sectors = bytes-by-sectors first last b (sym g ∙ not-false good t)

    pub bytes-refused : {w : Why} → sectors_len first last ≡ refused w → refused w ≡ bytes_len first last b
    bytes-refused e = sym (by-sectors ∙ rw e)

    module _ {n : ℕ} (e : sectors_len first last ≡ accepted n) where
      pub bytes-over : 2 ^ 64 ≤ n * b → refuse 3 ≡ bytes_len first last b
      bytes-over o = sym (by-sectors ∙ rw (e, le-leb (2 ^ 64) (n * b) o))

      pub bytes_counted : n * b < 2 ^ 64 → accepted (n * b) ≡ bytes_len first last b
      bytes_counted o = sym (by-sectors ∙ rw (e, lt-leb (2 ^ 64) (n * b) o))

-- ---- where an entry on a device stands

-- two sums, one after the other, are one run of bytes
module _ (base offset n : ℕ) where
  pub run-far : {w : Why} → place_after base offset ≡ refused w → refused w ≡ run_place base offset n
  unfolding place_after run_place
  run-far e =
      let r = pick-refused (leb (2 ^ 64) (base + offset)) 3 (record { 0 = base + offset }) e in
      let l : 2 ^ 64 ≤ base + offset + n = omega (arith, leb-true (2 ^ 64) (base + offset) r.0) in
      rw (le-leb (2 ^ 64) (base + offset + n) l) (ap refused (sym r.1))

  module _ {p : BytePlace} (e : place_after base offset ≡ accepted p) where
    at_offset : base + offset ≡ p.0
    unfolding place_after
    at_offset = ap (λ (q : BytePlace). q.0) (pick-accepted (leb (2 ^ 64) (base + offset)) 3 (record { 0 = base + offset }) e).1

    pub run_long : {w : Why} → place_after p.0 n ≡ refused w → refused w ≡ run_place base offset n
    unfolding place_after run_place
    run_long f =
        let r = pick-refused (leb (2 ^ 64) (p.0 + n)) 3 (record { 0 = p.0 + n }) f in
        let l : 2 ^ 64 ≤ base + offset + n = omega (arith, leb-true (2 ^ 64) (p.0 + n) r.0, at_offset) in
        rw (le-leb (2 ^ 64) (base + offset + n) l) (ap refused (sym r.1))

    pub run_at : {q : BytePlace} → place_after p.0 n ≡ accepted q → accepted p ≡ run_place base offset n
    unfolding place_after run_place
    run_at f =
        let r = pick-accepted (leb (2 ^ 64) (p.0 + n)) 3 (record { 0 = p.0 + n }) f in
        let s = pick-accepted (leb (2 ^ 64) (base + offset)) 3 (record { 0 = base + offset }) e in
        let l : base + offset + n < 2 ^ 64 = omega (arith, leb-false (2 ^ 64) (p.0 + n) r.0, at_offset) in
        rw (lt-leb (2 ^ 64) (base + offset + n) l) (ap accepted (sym s.1))

-- the sizes, 1 and 7
module _ (b size : ℕ) {good : Bool} (g : good ≡ good_size b) where
  pub sizes-block : not good ≡ true → refuse 1 ≡ device_sizes b size
  unfolding device_sizes
  sizes-block t = rw (← g, t)

  module _ (t : not good ≡ false) where
    pub sizes-none : size ≡ 0 → refuse 7 ≡ device_sizes b size
    unfolding device_sizes
    sizes-none e = rw (← g, t, eq-eqb size 0 e)

    pub sizes-big : 4096 < size → refuse 7 ≡ device_sizes b size
    unfolding device_sizes
    sizes-big e = rw (← g, t, ne_eqb size 0 (λ z. omega arith), lt-ltb 4096 size e)

    pub sizes-good : (size ≡ 0 → ⊥) → size ≤ 4096 → accepted tt ≡ device_sizes b size
    unfolding device_sizes
    sizes-good z l = rw (← g, t, ne_eqb size 0 z, le-ltb 4096 size l)

-- the products, 3
pub run-over : (base offset n : ℕ) → 2 ^ 64 ≤ base + offset + n → refuse 3 ≡ run_place base offset n
unfolding run_place
run-over base offset n o = rw (le-leb (2 ^ 64) (base + offset + n) o)

-- the block's place is refused, or a run of bytes stands at it
module _ (b start offset n : ℕ) (g : good_size b ≡ true) where
  pub run-start : {w : Why} → place_of start b ≡ refused w → refused w ≡ run_place (start * b) offset n
  run-start e =
      let r = place-over start b g e in
      ap refused (sym r.1) ∙ run-over (start * b) offset n (omega (arith, leb-true (2 ^ 64) (start * b) r.0))

  pub run-from : {p : BytePlace} → place_of start b ≡ accepted p → run_place p.0 offset n ≡ run_place (start * b) offset n
  run-from e = ap (λ (x : BytePlace). run_place x.0 offset n) (sym (place-fits start b g e).1)

or-false : (p q : Bool) → (p || q) ≡ false → (p ≡ false) × (q ≡ false)
or-false true q e = absurd (let z : ◌≡◌ {A = ℕ} 0 1 = cc in omega arith)
or-false false q e = (refl, e)

-- what a place on a device tells
pub record DeviceAt (start index b size count at : ℕ) : Type 0 where
  pub good : good_size b ≡ true
  pub filled : size ≡ 0 → ⊥
  pub small : size ≤ 4096
  pub place : at ≡ start * b + index * size
  pub ends : at + count * size < 2 ^ 64

-- what accepted sizes tell
pub record SizesOf (b size : ℕ) : Type 0 where
  pub good : good_size b ≡ true
  pub filled : 1 ≤ size
  pub small : size ≤ 4096

pub sizes-tell : (b size : ℕ) {u : Unit} → device_sizes b size ≡ accepted u → SizesOf b size
unfolding device_sizes
sizes-tell b size {u} =
    by-pick Q (not (good_size b)) _ _ (λ _ e. never e)
    (λ g. by-pick Q (eqb size 0 || ltb 4096 size) _ _ (λ _ e. never e)
    (λ z e.
    let f = or-false (eqb size 0) (ltb 4096 size) z in
    let d : size ≡ 0 → ⊥ = eqb-false size 0 f.0 in
    record { good = not-false (good_size b) g; filled = omega arith; small = ltb-false 4096 size f.1 }))
  where
    Q : Answer Unit → Type 0
    Q a = a ≡ accepted u → SizesOf b size

    never : {w : Why} → refused w ≡ accepted u → SizesOf b size
    never e = absurd (let z : ◌≡◌ {A = ℕ} 0 1 = cc in omega arith)

pub device-tells : (start index b size count : ℕ) (p : BytePlace) → device_place start index b size count ≡ accepted p → DeviceAt start index b size count p.0
unfolding device_place run_place
device-tells start index b size count p = go (device_sizes b size) refl
  where
    never : {w : Why} → refused w ≡ accepted p → DeviceAt start index b size count p.0
    never e = absurd (let z : ◌≡◌ {A = ℕ} 0 1 = cc in omega arith)

    Q : Answer BytePlace → Type 0
    Q a = a ≡ accepted p → DeviceAt start index b size count p.0

    go : (a : Answer Unit) → device_sizes b size ≡ a → and_then a (λ u. run_place (start * b) (index * size) (count * size)) ≡ accepted p → DeviceAt start index b size count p.0
    go (refused w) d = never
    go (accepted u) d =
        by-pick Q (leb (2 ^ 64) (start * b + index * size + count * size)) _ _ (λ _ e. never e)
        (λ o e.
        let q : p.0 ≡ start * b + index * size = cc in
        let f = sizes-tell b size d in
        record {
          good = f.good;
          filled = λ z. omega (arith, f.filled);
          small = f.small;
          place = q;
          ends = omega (arith, leb-false (2 ^ 64) (start * b + index * size + count * size) o);
        })

-- and what one for an entry with flags tells: its flags can be joined
pub entry-tells : (f : Flags) (start index b size : ℕ) (p : BytePlace) → entry_device f start index b size ≡ accepted p → Joins f × (device_place start index b size 1 ≡ accepted p)
unfolding entry_device device_place
entry-tells f start index b size p = go (device_sizes b size) (too_wide f) refl
  where
    R : Answer BytePlace
    R = run_place (start * b) (index * size) (1 * size)

    go : (a : Answer Unit) (t : Bool) → too_wide f ≡ t → and_then a (λ u. pick t (refuse 28) R) ≡ accepted p → Joins f × (and_then a (λ u. R) ≡ accepted p)
    go (refused w) t d e = absurd (let z : ◌≡◌ {A = ℕ} 0 1 = cc in omega arith)
    go (accepted u) true d e = absurd (let z : ◌≡◌ {A = ℕ} 0 1 = cc in omega arith)
    go (accepted u) false d e = (leb-false (2 ^ 45) f.reserved d, e)

-- ---- bytes stored at a place that may have been refused

module _ (xs : List ℕ) {a : Answer BytePlace} (n : ℕ) where
  pub stored_refused : (vs : List ℕ) {w : Why} → a ≡ refused w → stored_at xs a n vs ≡ gives (refused w) xs
  unfolding stored_at
  stored_refused vs e = rw e

  module _ {p : BytePlace} (e : a ≡ accepted p) where
    -- no bytes at all change nothing, wherever they go
    pub stored-none : n ≡ 0 → stored_at xs a n (replicate n 0) ≡ gives (accepted 0) xs
    unfolding stored_at inside_or_empty
    stored-none z = rw (e, z)

    module _ (vs : List ℕ) {r : Bool} (z : n ≡ 0 → ⊥) (i : r ≡ inside (length xs) p.0 n) where
      pub stored-outside : not r ≡ true → stored_at xs a n vs ≡ gives (refuse 2) xs
      unfolding stored_at inside_or_empty
      stored-outside t = rw (e, ne_eqb n 0 z, ← i, t)

      pub stored-inside : not r ≡ false → {ys : List ℕ} → ys ≡ sets xs p.0 vs → stored_at xs a n vs ≡ gives (accepted n) ys
      unfolding stored_at inside_or_empty
      stored-inside t y = rw (e, ne_eqb n 0 z, ← i, t, ← y)

-- what an accepted store tells
pub record StoredIn (xs : List ℕ) (a : Answer BytePlace) (n : ℕ) (vs : List ℕ) (m : ℕ) (ys : List ℕ) : Type 0 where
  pub at : BytePlace
  pub place : a ≡ accepted at
  pub within : inside_or_empty (length xs) at.0 n ≡ true
  pub answer : m ≡ n
  pub image : ys ≡ sets xs at.0 vs

pub stored-tells : (xs : List ℕ) (a : Answer BytePlace) (n : ℕ) (vs : List ℕ) (m : ℕ) (ys : List ℕ) → stored_at xs a n vs ≡ gives (accepted m) ys → StoredIn xs a n vs m ys
unfolding stored_at
stored-tells xs (refused w) n vs m ys e = absurd (let s : refused w ≡ accepted m = ap (λ (o : Outcome (Answer ℕ)). o.answer) e in let z : ◌≡◌ {A = ℕ} 0 1 = cc in omega arith)
stored-tells xs (accepted p) n vs m ys e =
    by-pick Q (not (inside_or_empty (length xs) p.0 n)) (gives (refuse 2) xs) (gives (accepted n) (sets xs p.0 vs))
    (λ _ f. absurd (let s : refuse 2 ≡ accepted m = ap (λ (o : Outcome (Answer ℕ)). o.answer) f in let z : ◌≡◌ {A = ℕ} 0 1 = cc in omega arith))
    (λ i f.
    let s : accepted n ≡ accepted m = ap (λ (o : Outcome (Answer ℕ)). o.answer) f in
    let k : m ≡ n = cc in
    record { at = p; place = refl; within = not-false (inside_or_empty (length xs) p.0 n) i; answer = k; image = sym (ap (λ (o : Outcome (Answer ℕ)). o.image) f) })
    e
  where
    Q : Outcome (Answer ℕ) → Type 0
    Q o = o ≡ gives (accepted m) ys → StoredIn xs (accepted p) n vs m ys

-- an entry that was written to a device reads back from its place, its name cleared
pub written_back : (xs ys : List ℕ) (p : Partition) (index start b n : ℕ) → FitEntry p → entry_stored xs p index start b 128 ≡ gives (accepted n) ys
    → entry_at ys (start * b + index * 128) ≡ named p
written_back xs ys p index start b n f e =
    let s = stored-tells xs (entry_device p.flags start index b 128) 128 (fitted 128 (entry_bytes p)) n ys e in
    let t = entry-tells p.flags start index b 128 s.at s.place in
    let d = device-tells start index b 128 1 s.at t.1 in
    let l : s.at.0 + 128 ≤ length xs = inside-filled (length xs) s.at.0 128 s.within (λ z. omega arith) in
    let g : fitted 128 (entry_bytes p) ≡ entry_bytes p = fitted-same 128 (entry_bytes p) (length-entry p f.long) in
    let i : ys ≡ sets xs s.at.0 (entry_bytes p) = s.image ∙ ap (sets xs s.at.0) g in
    ap (λ (k : ℕ). entry_at ys k) (sym d.place) ∙ ap (λ (y : List ℕ). entry_at y s.at.0) i ∙ entry-back p xs s.at.0 f t.0 l

-- ---- where an array stands

-- what comes once the place of the first block is known
abbrev pub found_at : List ℕ → Header → BytePlace → Answer BytePlace
found_at xs h p =
    pick (not (eqb h.part_size 128)) (refuse 7)
    (pick (not (inside_or_empty (length xs) p.0 (h.num_parts * 128))) (refuse 2)
    (pick (not (eqb (crc (part xs p.0 (h.num_parts * 128))) h.crc32_parts)) (refuse 6)
    (accepted p)))

pub found-by-place : (xs : List ℕ) (h : Header) (b : ℕ) → array_found xs h b ≡ and_then (place_of h.part_start.0 b) (found_at xs h)
unfolding array_found place_of
found-by-place xs h b = go (not (good_size b)) (leb (2 ^ 64) (h.part_start.0 * b))
  where
    p : BytePlace
    p = record { 0 = h.part_start.0 * b }

    go : (s t : Bool)
        → pick s (refuse 1) (pick t (refuse 3) (found_at xs h p))
        ≡ and_then (pick s (refuse 1) (pick t (refuse 3) (accepted p))) (found_at xs h)
    go true t = refl
    go false true = refl
    go false false = refl

module _ (xs : List ℕ) (h : Header) (b : ℕ) where
  pub array-refused : {w : Why} → place_of h.part_start.0 b ≡ refused w → refused w ≡ array_found xs h b
  array-refused e = sym (found-by-place xs h b ∙ rw e)

  module _ {p : BytePlace} (e : place_of h.part_start.0 b ≡ accepted p) where
    pub array-each : (h.part_size ≡ 128 → ⊥) → refuse 7 ≡ array_found xs h b
    array-each n = sym (found-by-place xs h b ∙ rw (e, ne_eqb h.part_size 128 n))

    module _ (s : h.part_size ≡ 128) where
      -- the header's own sum of the array has the same place and the same refusals
      found-by-sum : array_found xs h b ≡ and_then (parts_sum xs h b) (λ x. pick (not (eqb x h.crc32_parts)) (refuse 6) (accepted p))
      found-by-sum =
          found-by-place xs h b
          ∙ rw (e, parts-by-place xs h b, e, s) (go (not (inside_or_empty (length xs) p.0 (h.num_parts * 128))))
        where
          go : (i : Bool)
              → pick i (refuse 2) (pick (not (eqb (crc (part xs p.0 (h.num_parts * 128))) h.crc32_parts)) (refuse 6) (accepted p))
              ≡ and_then (pick i (refuse 2) (accepted (crc (part xs p.0 (h.num_parts * 128))))) (λ x. pick (not (eqb x h.crc32_parts)) (refuse 6) (accepted p))
          go true = refl
          go false = refl

      pub array-unsummed : {w : Why} → parts_sum xs h b ≡ refused w → refused w ≡ array_found xs h b
      array-unsummed f = sym (found-by-sum ∙ rw f)

      pub array-other : {x : ℕ} → parts_sum xs h b ≡ accepted x → (x ≡ h.crc32_parts → ⊥) → refuse 6 ≡ array_found xs h b
      array-other {x} f n = sym (found-by-sum ∙ rw (f, ne_eqb x h.crc32_parts n))

      pub array-good : {x : ℕ} → parts_sum xs h b ≡ accepted x → x ≡ h.crc32_parts → accepted p ≡ array_found xs h b
      array-good {x} f n = sym (found-by-sum ∙ rw (f, eq-eqb x h.crc32_parts n))

-- what an accepted array tells
pub record ArrayAt (xs : List ℕ) (h : Header) (b at : ℕ) : Type 0 where
  pub good : good_size b ≡ true
  pub fits : h.part_start.0 * b < 2 ^ 64
  pub place : at ≡ h.part_start.0 * b
  pub each : h.part_size ≡ 128
  pub within : inside_or_empty (length xs) at (h.num_parts * 128) ≡ true
  pub sum : crc (part xs at (h.num_parts * 128)) ≡ h.crc32_parts

pub array_tells : (xs : List ℕ) (h : Header) (b : ℕ) (p : BytePlace) → array_found xs h b ≡ accepted p → ArrayAt xs h b p.0
unfolding array_found
array_tells xs h b p =
    by-pick Q (not (good_size b)) _ _ (λ _ e. never e)
    (λ g. by-pick Q (leb (2 ^ 64) A) _ _ (λ _ e. never e)
    (λ o. by-pick Q (not (eqb h.part_size 128)) _ _ (λ _ e. never e)
    (λ s. by-pick Q (not (inside_or_empty (length xs) A N)) _ _ (λ _ e. never e)
    (λ i. by-pick Q (not (eqb (crc (part xs A N)) h.crc32_parts)) _ _ (λ _ e. never e)
    (λ c e.
    let q : A ≡ p.0 = cc in
    record {
      good = not-false (good_size b) g;
      fits = leb-false (2 ^ 64) A o;
      place = sym q;
      each = eqb-true h.part_size 128 (not-false _ s);
      within = rw (← q) (not-false _ i);
      sum = rw (← q) (eqb-true (crc (part xs A N)) h.crc32_parts (not-false _ c));
    })))))
  where
    A : ℕ
    A = h.part_start.0 * b

    N : ℕ
    N = h.num_parts * 128

    Q : Answer BytePlace → Type 0
    Q a = a ≡ accepted p → ArrayAt xs h b p.0

    never : {w : Why} → refused w ≡ accepted p → ArrayAt xs h b p.0
    never e = absurd (let z : ◌≡◌ {A = ℕ} 0 1 = cc in omega arith)

-- ---- where a slot's entry stands

-- the place of the entry at an array place
abbrev entry_of : BytePlace → ℕ → Answer BytePlace
entry_of at k = accepted (record { 0 = at.0 + k * 128 })

-- the slot's place in the array, with its refusal, after the array's
partition-by-slot : (xs : List ℕ) (h : Header) (b slot : ℕ)
    → partition_found xs h b slot
    ≡ and_then (array_found xs h b) (λ at. and_then (array_place_of slot h.num_parts) (entry_of at))
unfolding partition_found array_place_of
partition-by-slot xs h b slot = go (array_found xs h b) (ltb slot 1 || ltb h.num_parts slot)
  where
    go : (a : Answer BytePlace) (t : Bool)
        → and_then a (λ at. pick t (refuse 18) (entry_of at (slot - 1)))
        ≡ and_then a (λ at. and_then (pick t (refuse 18) (accepted (slot - 1))) (entry_of at))
    go (refused w) t = refl
    go (accepted p) true = refl
    go (accepted p) false = refl

-- an array place that a slot has is one of the array's
slot-within : (slot count k : ℕ) → array_place_of slot count ≡ accepted k → k < count
unfolding array_place_of
slot-within slot count k =
    by-pick Q (ltb slot 1 || ltb count slot) _ _ (λ _ e. absurd (let z : ◌≡◌ {A = ℕ} 0 1 = cc in omega arith))
    (λ t e.
    let q : slot - 1 ≡ k = cc in
    let f = or-false (ltb slot 1) (ltb count slot) t in
    omega (arith, ltb-false slot 1 f.0, ltb-false count slot f.1))
  where
    Q : Answer ℕ → Type 0
    Q a = a ≡ accepted k → k < count

module _ (xs : List ℕ) (h : Header) (b slot : ℕ) where
  pub slot-unfound : {w : Why} → array_found xs h b ≡ refused w → refused w ≡ partition_found xs h b slot
  slot-unfound e = sym (partition-by-slot xs h b slot ∙ rw e)

  module _ {p : BytePlace} (e : array_found xs h b ≡ accepted p) where
    pub slot-refused : {w : Why} → array_place_of slot h.num_parts ≡ refused w → refused w ≡ partition_found xs h b slot
    slot-refused f = sym (partition-by-slot xs h b slot ∙ rw (e, f))

    module _ {k : ℕ} (f : array_place_of slot h.num_parts ≡ accepted k) where
      pub slot-found : accepted (record { 0 = p.0 + k * 128 }) ≡ partition_found xs h b slot
      slot-found = sym (partition-by-slot xs h b slot ∙ rw (e, f))

      pub slot-inside : p.0 + k * 128 + 128 ≤ length xs
      slot-inside =
          let l : k < h.num_parts = slot-within slot h.num_parts k f in
          omega (arith, inside-filled (length xs) p.0 (h.num_parts * 128) (array_tells xs h b p e).within (λ z. omega arith))

  -- an entry that is found is inside
  pub entry-inside : {q : BytePlace} → partition_found xs h b slot ≡ accepted q → q.0 + 128 ≤ length xs
  entry-inside {q} g = go (array_found xs h b) refl (array_place_of slot h.num_parts) refl (sym (partition-by-slot xs h b slot) ∙ g)
    where
      go : (a : Answer BytePlace) → array_found xs h b ≡ a → (s : Answer ℕ) → array_place_of slot h.num_parts ≡ s
          → and_then a (λ at. and_then s (entry_of at)) ≡ accepted q → q.0 + 128 ≤ length xs
      go (refused w) e s f i = absurd (let z : ◌≡◌ {A = ℕ} 0 1 = cc in omega arith)
      go (accepted p) e (refused w) f i = absurd (let z : ◌≡◌ {A = ℕ} 0 1 = cc in omega arith)
      go (accepted p) e (accepted k) f i =
          let j : p.0 + k * 128 ≡ q.0 = cc in
          omega (arith, slot-inside e f)

-- ---- what is answered of a place that was found

module _ (xs : List ℕ) (h : Header) (b slot : ℕ) where
  pub read-refused : {w : Why} → partition_found xs h b slot ≡ refused w → refused w ≡ partition_read xs h b slot
  unfolding partition_read
  read-refused e = rw e

  pub read_found : {q : BytePlace} → partition_found xs h b slot ≡ accepted q
      → accepted (record { present = not (all_zero (part xs q.0 128)); partition = entry_at xs q.0 }) ≡ partition_read xs h b slot
  unfolding partition_read
  read_found e = rw e

module _ (xs : List ℕ) (h : Header) (b : ℕ) where
  pub count-refused : {w : Why} → array_found xs h b ≡ refused w → refused w ≡ partition_count xs h b
  unfolding partition_count
  count-refused e = rw e

  pub counted : {p : BytePlace} {n : ℕ} → array_found xs h b ≡ accepted p → n ≡ length (present_from xs p.0 0 h.num_parts) → accepted n ≡ partition_count xs h b
  unfolding partition_count
  counted e f = rw (e, f)

  module _ (after : ℕ) where
    pub after-refused : {w : Why} → array_found xs h b ≡ refused w → refused w ≡ partition_after xs h b after
    unfolding partition_after
    after-refused e = rw e

    pub after_given : {p : BytePlace} {l : List ℕ} → array_found xs h b ≡ accepted p → l ≡ take 1 (present_from xs p.0 after (h.num_parts - after)) → accepted l ≡ partition_after xs h b after
    unfolding partition_after
    after_given e f = rw (e, f)

-- the record's bytes, stored over an array of 128
pub record-made : (p q : Partition) (z r : List ℕ) → length z ≡ 128 → length p.name ≡ 36 → q ≡ tidied p → r ≡ sets z 0 (entry_bytes q) → (r ≡ entry_bytes (tidied p)) × (length r ≡ 128)
record-made p q z r lz ln e h =
    let l : length (entry_bytes (tidied p)) ≡ 128 = length-entry (tidied p) (length-cleared p.name ∙ ln) in
    let x : r ≡ entry_bytes (tidied p) = h ∙ ap (λ (y : Partition). sets z 0 (entry_bytes y)) e ∙ sets-all z (entry_bytes (tidied p)) (lz ∙ sym l) in
    (x, ap length x ∙ l)
