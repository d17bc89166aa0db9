-- What stores into one table's bytes leave, what its header tells of the GUID and the sum, and what a change of both tables leaves in an image.
-- No contract cites this file. Assumes nothing.
use mathlib.Core.Path.{◌≡◌, refl, sym, ap, ◌∙◌}
use mathlib.Core.Logic.{inl, inr}
use mathlib.Core.Bool.{false}
use mathlib.Core.List.{List, ◌++◌}
use Prim.Native.Nat.{ℕ, ◌+◌, ◌*◌, ◌-◌, ◌≤◌, ◌<◌}
use native.Mathlib.Omega.{arith}
use lib.ListN.{length, take, drop, take-append-drop, length-drop, length-append}
use lib.Seq.{sets, length-sets, take_all, length-take-le}
use Rattle.units.specs.declared.Guid.{Guid}
use Rattle.units.specs.Bytes.{part, num}
use Rattle.units.specs.Guids.{guid_at, guid_bytes}
use Rattle.units.specs.Held.{Small}
use Rattle.units.proofs.Lists.{length_part, part-part, part_out, part_same, sets-all, sets-left, sets-right, sets-comm, lent-part}
use Rattle.units.proofs.Laws.{num-part}
use Rattle.units.proofs.GuidLaws.{guid-part, guid-bytes-back}
use Rattle.crc32.specs.Crc.{crc}
use Rattle.slot_sum.specs.SlotSum.{sum_after}
use Rattle.slot_sum.proofs.Laws.{sum-stored}
use Rattle.tables.specs.Places.{back_array}
use Rattle.tables.specs.Lens.{Side, Front, Back, header_in, array_in, copy_in, copy_bytes, Copy, Tables, tables, with_tables_at, with_tables}
use Rattle.tables.specs.Entries.{zeros, set_entry}
use Rattle.tables.specs.Headers.{copy_of, head_block}
use Rattle.tables.specs.Check.{table_check, guid_of, check, bad_slot}
use Rattle.tables.proofs.Room.{Room}
use Rattle.tables.proofs.LensLaws.{Whole, whole-tables}
use Rattle.tables.proofs.EntryLaws.{length-zeros, length-set-entry}
use Rattle.tables.proofs.HeaderLaws.{block-long, passed}
use Rattle.tables.proofs.Good.{Good, room-ok, slot_ok, check-good, card-whole}
use Rattle.tables.proofs.ReadCheck.{head-part}
use Rattle.tables.proofs.Copies.{copies-tables, guid-of, header-fits, array-fits}
use Rattle.card.specs.Calls.{KeptGuid, changed_copy, changed}
use Rattle.card.proofs.LayWays.{head-block}

-- two tables are the same by their parts
copy-eq : {h k a b : List ℕ} → h ≡ k → a ≡ b → ◌≡◌ {A = Copy} (record { header = h; array = a }) (record { header = k; array = b })
copy-eq p q = cc

copy-array-long : (B : ℕ) (s : Side) (ys : List ℕ) → length ys ≡ B + 16384 → length (copy_in B s ys).array ≡ 16384
unfolding copy_in
copy-array-long B s ys l = length_part ys (array_in B s) 16384 (array-fits B s ys l)

is-copy : (B n : ℕ) (s : Side) (g : Guid) → ◌≡◌ {A = Copy} (record { header = (copy_of B n s (guid_bytes g) (zeros 16384)).header; array = zeros 16384 }) (copy_of B n s (guid_bytes g) (zeros 16384))
unfolding copy_of
is-copy B n s g = refl

-- ---- what is stored in one table's bytes

-- some bytes of the array, and then the header's block
pub copy_stored : (B : ℕ) (s : Side) (ys h e : List ℕ) (o : ℕ) → length ys ≡ B + 16384 → length h ≡ B → o + length e ≤ 16384
    → sets (sets ys (array_in B s + o) e) (header_in s) h ≡ copy_bytes s (record { header = h; array = sets (copy_in B s ys).array o e })
unfolding copy_in
copy_stored B Front ys h e o l lh le =
    let p : List ℕ = take B ys in
    let q : List ℕ = drop B ys in
    let lp : length (take B ys) ≡ B = length-take-le B ys (omega arith) in
    let lq : length (drop B ys) ≡ 16384 = length-drop B ys ∙ omega arith in
    let z : List ℕ = sets (drop B ys) (o) e in
    let e1 : sets ys (B + o) e ≡ take B ys ++ sets (drop B ys) (o) e =
    ap (λ (y : List ℕ). sets y (B + o) e) (sym (take-append-drop B ys)) ∙ (rw lp at (sets-right (take B ys) (drop B ys) (o) e)) in
    ap (λ (y : List ℕ). sets y 0 h) e1
    ∙ sets-left p z 0 h (omega arith)
    ∙ ap (λ (y : List ℕ). y ++ z) (sets-all p h (lp ∙ sym lh))
    ∙ ap (λ (y : List ℕ). h ++ sets y (o) e) (sym (take_all 16384 q (omega arith)))
copy_stored B Back ys h e o l lh le =
    let p : List ℕ = take 16384 ys in
    let q : List ℕ = drop 16384 ys in
    let lp : length (take 16384 ys) ≡ 16384 = length-take-le 16384 ys (omega arith) in
    let lq : length (drop 16384 ys) ≡ B = length-drop 16384 ys ∙ omega arith in
    let z : List ℕ = sets (take 16384 ys) (o) e in
    let lz : length (sets (take 16384 ys) (o) e) + 0 ≡ 16384 = omega (arith, length-sets (take 16384 ys) (o) e) in
    let n : 0 + o ≡ o = omega arith in
    let e1 : sets ys (0 + o) e ≡ sets (take 16384 ys) (o) e ++ drop 16384 ys =
    ap (λ (i : ℕ). sets ys i e) n ∙ ap (λ (y : List ℕ). sets y (o) e) (sym (take-append-drop 16384 ys)) ∙ sets-left p q (o) e (omega arith) in
    ap (λ (y : List ℕ). sets y 16384 h) e1
    ∙ (rw lz at (sets-right z q 0 h))
    ∙ ap (λ (y : List ℕ). z ++ y) (sets-all q h (lq ∙ sym lh))

-- a slot's entry, and then the header's block
pub copy-changed : (B : ℕ) (s : Side) (ys h e : List ℕ) (k : ℕ) → length ys ≡ B + 16384 → length h ≡ B → length e ≡ 128 → k < 128
    → sets (sets ys (array_in B s + 128 * k) e) (header_in s) h ≡ copy_bytes s (changed_copy (copy_in B s ys) k e h)
unfolding set_entry
copy-changed B s ys h e k l lh le o = copy_stored B s ys h e (128 * k) l lh (omega arith)

-- ---- the GUID and the sum that the code reads

pub guid-kept : (B : ℕ) (s : Side) (ys : List ℕ) {at : ℕ} {g : Guid} → at ≡ header_in s → 92 ≤ B → length ys ≡ B + 16384 → Small ys → g ≡ guid_at ys (at + 56)
    → KeptGuid (copy_in B s ys) g
guid-kept B s ys {at} {g} a h l b e =
    let f : header_in s + B ≤ length ys = header-fits B s ys l in
    let k : g ≡ guid_at ys (header_in s + 56) = e ∙ ap (λ (i : ℕ). guid_at ys (i + 56)) a in
    let z : header_in s + 56 + 0 ≡ header_in s + 56 = omega arith in
    record {
      fields = k ∙ sym (ap (λ (l : List ℕ). guid_at l 0) (guid-of B s ys h) ∙ guid-part ys (header_in s + 56) 16 0 (omega arith) ∙ ap (guid_at ys) z);
      bytes = ap guid_bytes k ∙ guid-bytes-back ys (header_in s + 56) (omega arith) b ∙ sym (guid-of B s ys h);
    }

-- the sum in a header that passes is that of the array
pub sum-held : (B n : ℕ) (s : Side) (ys : List ℕ) {at v : ℕ} → at ≡ header_in s → 92 ≤ B → (table_check B n s (copy_in B s ys)).number ≡ 0 → v ≡ num ys (at + 88) 4
    → v ≡ crc (copy_in B s ys).array
unfolding copy_in
sum-held B n s ys a h c e =
    e
    ∙ ap (λ (i : ℕ). num ys (i + 88) 4) a
    ∙ sym (num-part ys (header_in s) 92 88 4 (omega arith))
    ∙ ap (λ (x : List ℕ). num x 88 4) (sym (head-part ys (header_in s) B h))
    ∙ sym (passed B n s _ _ c).parts

-- the new sum, from that one and the slot's bytes
pub sum-changed : (B : ℕ) (d : Side) (ys e : List ℕ) (s : ℕ) {v at after r : ℕ} → bad_slot s ≡ false → length ys ≡ B + 16384 → length e ≡ 128
    → v ≡ crc (copy_in B d ys).array → at ≡ array_in B d + 128 * (s - 1) → after ≡ 128 * (128 - s) → r ≡ sum_after v (part ys at (at + 128 - at)) e after
    → r ≡ crc (set_entry (copy_in B d ys).array (s - 1) e)
unfolding set_entry copy_in
sum-changed B d ys e s {v} {at} b ly le q a f h =
    let w : at + 128 - at ≡ 128 = omega arith in
    let k = slot_ok s b in
    let arr : List ℕ = part ys (array_in B d) 16384 in
    let l : length (part ys (array_in B d) 16384) ≡ 16384 = length_part ys (array_in B d) 16384 (array-fits B d ys ly) in
    let o : part ys (array_in B d + 128 * (s - 1)) 128 ≡ part (part ys (array_in B d) 16384) (128 * (s - 1)) 128 = sym (part-part ys (array_in B d) 16384 (128 * (s - 1)) 128 (omega arith)) in
    let m : 128 * (128 - s) ≡ 16384 - (128 * (s - 1) + 128) = omega arith in
    h ∙ rw (w, q, a, f, o, m) (sym (rw (le, l) at (sum-stored arr (128 * (s - 1)) e (omega arith))))

-- ---- what an accepted check tells

-- what a changed table's bytes come to
pub length-changed : (B : ℕ) (s : Side) (ys h e : List ℕ) (k : ℕ) → length ys ≡ B + 16384 → length h ≡ B → length e ≡ 128 → k < 128
    → length (copy_bytes s (changed_copy (copy_in B s ys) k e h)) ≡ B + 16384
length-changed B s ys h e k l lh le o =
    ap length (sym (copy-changed B s ys h e k l lh le o)) ∙ length-sets (sets ys (array_in B s + 128 * k) e) (header_in s) h ∙ length-sets ys (array_in B s + 128 * k) e ∙ l

-- the front table of an image, by its bytes
pub image-front : (B : ℕ) (xs : List ℕ) → (check B (length xs) (tables B xs)).number ≡ 0
    → (table_check B (length xs) Front (copy_in B Front (part xs B (B + 16384)))).number ≡ 0
image-front B xs c =
    let k = check-good B (length xs) (tables B xs) c in
    ap (λ (t : Tables). (table_check B (length xs) Front t.front).number) (copies-tables B (length xs) xs (room-ok B (length xs) k.room)) ∙ k.front

-- ---- one side of a change

module _ (B n : ℕ) (t : Tables) (s : ℕ) (e : List ℕ) (g : Guid) (parts : ℕ)
    (kept : guid_bytes g ≡ guid_of t.front) (ep : parts ≡ crc (set_entry t.front.array (s - 1) e)) where
  block : (d : Side) → head_block B n d g parts ≡ (copy_of B n d (guid_of t.front) (set_entry t.front.array (s - 1) e)).header
  block d =
      let arr : List ℕ = set_entry t.front.array (s - 1) e in
      head-block B n d g arr ep ∙ ap (λ (u : List ℕ). (copy_of B n d u arr).header) kept

  pub front-changed : changed_copy t.front (s - 1) e (head_block B n Front g parts) ≡ (changed B n t s e).front
  unfolding changed copy_of
  front-changed = copy-eq (block Front) refl

  pub back-changed : t.back.array ≡ t.front.array → changed_copy t.back (s - 1) e (head_block B n Back g parts) ≡ (changed B n t s e).back
  unfolding changed copy_of
  back-changed same = copy-eq (block Back) (ap (λ (a : List ℕ). set_entry a (s - 1) e) same)

-- ---- an image: the back table, and then the front one

module _ (B : ℕ) (xs y i e : List ℕ) (s : ℕ) (g : Guid) (parts : ℕ) {at : ℕ} (c : (check B (length xs) (tables B xs)).number ≡ 0) (b : bad_slot s ≡ false) (le : length e ≡ 128)
    (kept : guid_bytes g ≡ guid_of (copy_in B Front (part xs B (B + 16384)))) (ep : parts ≡ crc (set_entry (copy_in B Front (part xs B (B + 16384))).array (s - 1) e)) (a : at ≡ back_array B (length xs))
    (ey : y ≡ sets xs at (copy_bytes Back (changed_copy (copy_in B Back (part xs at (B + 16384))) (s - 1) e (head_block B (length xs) Back g parts))))
    (ei : i ≡ sets y B (copy_bytes Front (changed_copy (copy_in B Front (part y B (B + 16384))) (s - 1) e (head_block B (length xs) Front g parts)))) where
  room : Room B (length xs)
  room = room-ok B (length xs) (check-good B (length xs) (tables B xs) c).room

  good : Good B (length xs) (tables B xs)
  good = check-good B (length xs) (tables B xs) c

  fronts : copy_in B Front (part xs B (B + 16384)) ≡ (tables B xs).front
  fronts = ap (λ (t : Tables). t.front) (copies-tables B (length xs) xs room)

  backs : copy_in B Back (part xs at (B + 16384)) ≡ (tables B xs).back
  backs =
      ap (λ (o : ℕ). copy_in B Back (part xs o (B + 16384))) a
      ∙ ap (λ (t : Tables). t.back) (copies-tables B (length xs) xs room)

  kept' : guid_bytes g ≡ guid_of (tables B xs).front
  kept' = kept ∙ ap guid_of fronts

  ep' : parts ≡ crc (set_entry (tables B xs).front.array (s - 1) e)
  ep' = ep ∙ ap (λ (x : Copy). crc (set_entry x.array (s - 1) e)) fronts

  whole : Whole B (changed B (length xs) (tables B xs) s e)
  unfolding changed
  whole =
      let l = (whole-tables B (length xs) room xs refl).front-array in
      card-whole B (length xs) (guid_of (tables B xs).front) (set_entry (tables B xs).front.array (s - 1) e) (omega (arith, room.least)) (length-set-entry _ (s - 1) e l (slot_ok s b).1 le)

  stored_back : y ≡ sets xs (back_array B (length xs)) (copy_bytes Back (changed B (length xs) (tables B xs) s e).back)
  stored_back =
      ey
      ∙ ap (λ (o : ℕ). sets xs o (copy_bytes Back (changed_copy (copy_in B Back (part xs at (B + 16384))) (s - 1) e (head_block B (length xs) Back g parts)))) a
      ∙ ap (λ (x : Copy). sets xs (back_array B (length xs)) (copy_bytes Back (changed_copy x (s - 1) e (head_block B (length xs) Back g parts)))) backs
      ∙ ap (λ (x : Copy). sets xs (back_array B (length xs)) (copy_bytes Back x)) (back-changed B (length xs) (tables B xs) s e g parts kept' ep' good.arrays)

  stored-front : i ≡ sets y B (copy_bytes Front (changed B (length xs) (tables B xs) s e).front)
  stored-front =
      let new : List ℕ = copy_bytes Back (changed B (length xs) (tables B xs) s e).back in
      let p : part y B (B + 16384) ≡ part xs B (B + 16384) = ap (λ (l : List ℕ). part l B (B + 16384)) stored_back ∙ part_out xs (back_array B (length xs)) new B (B + 16384) (inl (omega (arith, room.low))) in
      ei
      ∙ ap (λ (l : List ℕ). sets y B (copy_bytes Front (changed_copy (copy_in B Front l) (s - 1) e (head_block B (length xs) Front g parts)))) p
      ∙ ap (λ (x : Copy). sets y B (copy_bytes Front (changed_copy x (s - 1) e (head_block B (length xs) Front g parts)))) fronts
      ∙ ap (λ (x : Copy). sets y B (copy_bytes Front x)) (front-changed B (length xs) (tables B xs) s e g parts kept' ep')

  pub image-changed : i ≡ with_tables B xs (changed B (length xs) (tables B xs) s e)
  unfolding with_tables_at
  image-changed =
      let f : List ℕ = copy_bytes Front (changed B (length xs) (tables B xs) s e).front in
      let k : List ℕ = copy_bytes Back (changed B (length xs) (tables B xs) s e).back in
      let w = whole in
      let lf : length (copy_bytes Front (changed B (length xs) (tables B xs) s e).front) ≡ B + 16384 = simp length-append (omega arith) in
      stored-front
      ∙ ap (λ (l : List ℕ). sets l B f) stored_back
      ∙ sets-comm xs (back_array B (length xs)) k B f (inr (omega (arith, room.low)))

-- ---- a table that is laid: zeros in its array, and then its header's block

-- an array that was stored whole
array-laid : (B : ℕ) (s : Side) (ys z : List ℕ) → length ys ≡ B + 16384 → length z ≡ 16384 → (copy_in B s (sets ys (array_in B s) z)).array ≡ z
unfolding copy_in
array-laid B s ys z l lz = ap (λ (n : ℕ). part (sets ys (array_in B s) z) (array_in B s) n) (sym lz) ∙ part_same ys (array_in B s) z (omega (arith, array-fits B s ys l, lz))

pub copy-laid : (B n : ℕ) (s : Side) (ys y : List ℕ) (g : Guid) (parts : ℕ) {i : List ℕ} → 92 ≤ B → length ys ≡ B + 16384 → y ≡ sets ys (array_in B s) (zeros 16384)
    → parts ≡ crc (copy_in B s y).array → i ≡ sets y (header_in s) (head_block B n s g parts) → i ≡ copy_bytes s (copy_of B n s (guid_bytes g) (zeros 16384))
copy-laid B n s ys y g parts h l ey ep ei =
    let z : List ℕ = zeros 16384 in
    let lz : length (zeros 16384) ≡ 16384 = length-zeros 16384 in
    let o : array_in B s + 0 ≡ array_in B s = omega arith in
    let la : length (copy_in B s ys).array ≡ 16384 = copy-array-long B s ys l in
    let e : parts ≡ crc (zeros 16384) = ep ∙ ap crc (ap (λ (x : List ℕ). (copy_in B s x).array) ey ∙ array-laid B s ys z l lz) in
    ei
    ∙ ap (λ (x : List ℕ). sets x (header_in s) (head_block B n s g parts)) (ey ∙ ap (λ (k : ℕ). sets ys k z) (sym o))
    ∙ copy_stored B s ys (head_block B n s g parts) z 0 l (block-long B n s g parts h) (omega (arith, lz))
    ∙ ap (λ (x : Copy). copy_bytes s x) (copy-eq (head-block B n s g z e) (sets-all (copy_in B s ys).array z (la ∙ sym lz)) ∙ is-copy B n s g)

-- ---- the front table, as the code lends it of an image

pub lent-front : (B : ℕ) (xs : List ℕ) → Room B (length xs) → copy_in B Front (take (B + (B + 16384) - B) (drop B xs)) ≡ (tables B xs).front
lent-front B xs r = ap (copy_in B Front) (lent-part xs B (B + 16384)) ∙ ap (λ (t : Tables). t.front) (copies-tables B (length xs) xs r)

pub lent_fits : (B n : ℕ) → Room B n → B + (B + 16384) ≤ n
lent_fits B n r = omega (arith, r.low, r.seam, r.top)
