-- The laws of an entry's 128 bytes: what is stored reads back, what is read is stored back, and which slots are present. No contract cites this file.
-- Assumes nothing.
use mathlib.Core.Path.{◌≡◌, refl, sym, ap, ◌∙◌}
use mathlib.Core.Logic.{◌⊎◌, inl, inr, ⊎_elim}
use mathlib.Core.Bool.{Bool, true, false, ◌||◌}
use mathlib.Core.List.{List, [], ◌∷◌, ◌++◌, append-nil, append_assoc}
use Prim.Native.Nat.{ℕ, zero, suc, ◌+◌, ◌*◌, ◌-◌, ◌^◌, ◌≤◌, ◌<◌, min}
use native.Mathlib.Nat.{add_assoc, add-zero, sub-zero, suc-sub-suc, eq-zero-or-pos, lt_of_not-le}
use native.Mathlib.Decide.{dec_le}
use native.Mathlib.Omega.{arith}
use lib.Dec.{eqb, leb}
use lib.ListN.{length, take, drop, get_or, set, replicate, length-append, length-replicate, length-drop, drop_of_length-le, take-append-drop}
use lib.Seq.{drop-cons, sets, get_or-drop, length-take-le, take_at, drop_at}
use borrow.Author.Rules.{elem_Fits}
use borrow.Author.Tests.{eq-eqb, ne_eqb, le-leb, lt-leb}
use denote.Shadow.{shadow}
use denote.Struct.Declared.{row}
use mir.Val.{Val}
use mir.Syntax.{w16}
use Rattle.std.specs.Prelude.{position, unwrap_or, ◌==◌}
use Rattle.std.specs.List.{position_or_len}
use Rattle.std.proofs.Math.Seq.{take-length, take-append-add}
use Rattle.std.proofs.lemmas.List.{take-append-le, take-replicate}
use Rattle.std.proofs.lemmas.Bool.Decides.{nat_tests}
use Rattle.units.specs.declared.Lba.{Lba}
use Rattle.units.specs.declared.Guid.{Guid}
use Rattle.units.specs.Answer.{pick}
use Rattle.units.specs.Bytes.{part, le, num, bytes, all_zero}
use Rattle.units.specs.Guids.{guid_at, guid_bytes}
use Rattle.units.specs.Held.{Small}
use Rattle.units.proofs.Lists.{part_join, part-split, sets_then, drop-sets, drop-next}
use Rattle.units.proofs.Laws.{length-bytes, num-part, num-drop, num-here, field-here, bytes-num, zero-part}
use Rattle.units.proofs.GuidLaws.{fit-guid-of, guid-held-of, length-guid, guid-drop, guid-here, guid-part, guid-bytes-back}
use Rattle.partition.specs.declared.Flags.{Flags}
use Rattle.partition.specs.declared.Partition.{Partition}
use Rattle.partition.specs.Flags.{flags_of, joined, Joins}
use Rattle.partition.specs.Format.{units_at, unit_bytes, first_zero, cleared, entry_at, entry_bytes, named, zero_partition, fitted}
use Rattle.partition.specs.Held.{FitEntry, PartitionHeld}
use Rattle.partition.specs.Array.{present, present_from, first_slot}
use Rattle.partition.proofs.FlagLaws.{fit-flags-of, joined-fits, join-split, split-join}
use Rattle.partition.specs.contracts.Partition.{the_type}

-- ---- names: the first zero unit, and zeros from there on

pick-le : (b : Bool) (x n : ℕ) → x ≤ n → pick b 0 (suc x) ≤ suc n
pick-le true x n h = omega arith
pick-le false x n h = omega arith

pub first-le : (us : List ℕ) → first_zero us ≤ length us
unfolding first_zero
first-le [] = omega arith
first-le (u ∷ us) = pick-le (eqb u 0) (first_zero us) (length us) (first-le us)

-- it is where the library finds it
first-position : (us : List ℕ) → position_or_len (λ (u : ℕ). u == 0) us ≡ first_zero us
unfolding first_zero
first-position [] = refl
first-position (u ∷ us) = grind (arith, nat_tests, first-position us)

pub position_first : (us : List ℕ) → length us ≡ 36 → unwrap_or (position (λ (u : ℕ). u == 0) us) 36 ≡ first_zero us
position_first us h = grind (arith, nat_tests, first-position us, first-le us)

-- zeros over the units from the first zero unit on
pub cleared-filled : (us zs : List ℕ) (k n m : ℕ) → k ≡ first_zero us → length us ≡ n → m ≡ n - k → zs ≡ replicate m 0 → take k us ++ (zs ++ drop (n - k) (drop k us)) ≡ cleared us
unfolding cleared
cleared-filled us zs k n m f l e z =
    let q : length (drop k us) ≤ n - k = omega (arith, length-drop k us) in
    rw (drop_of_length-le (drop k us) q, append-nil, z, e, f, ← l)

cleared-stop : (u : ℕ) (us : List ℕ) → u ≡ 0 → cleared (u ∷ us) ≡ 0 ∷ replicate (length us) 0
unfolding cleared first_zero
cleared-stop u us z = rw (eq-eqb u 0 z, sub-zero)

cleared-on : (u : ℕ) (us : List ℕ) → (u ≡ 0 → ⊥) → cleared (u ∷ us) ≡ u ∷ cleared us
unfolding cleared first_zero
cleared-on u us z = rw (ne_eqb u 0 z, suc-sub-suc)

clear_none : cleared (cleared []) ≡ cleared []
unfolding cleared first_zero
clear_none = refl

-- clearing twice is clearing once
pub cleared-twice : (us : List ℕ) → cleared (cleared us) ≡ cleared us
cleared-twice [] = clear_none
cleared-twice (u ∷ us) =
    ⊎_elim
    (λ z. rw (cleared-stop u us z) (cleared-stop 0 (replicate (length us) 0) refl ∙ rw length-replicate))
    (λ p. let n : u ≡ 0 → ⊥ = λ z. omega arith in rw (cleared-on u us n) (cleared-on u (cleared us) n ∙ ap (λ (l : List ℕ). u ∷ l) (cleared-twice us)))
    (eq-zero-or-pos u)

pub length-cleared : (us : List ℕ) → length (cleared us) ≡ length us
unfolding cleared
length-cleared us =
    simp (length-append, length-replicate) (omega (arith, first-le us, length-take-le (first_zero us) us (first-le us)))

-- ---- units in their bytes

pub length-units : (n : ℕ) (xs : List ℕ) (at : ℕ) → length (units_at n xs at) ≡ n
unfolding units_at
length-units zero xs at = refl
length-units (suc n) xs at = ap suc (length-units n xs (at + 2))

-- a unit that is read, and the units that are left
pub units-more : (l xs : List ℕ) (at i n : ℕ) → i < n
    → sets (set l i (num xs (at + 2 * i) 2)) (i + 1) (units_at (n - (i + 1)) xs (at + 2 * (i + 1))) ≡ sets l i (units_at (n - i) xs (at + 2 * i))
unfolding units_at
units-more l xs at i n h =
    let a : n - i ≡ suc (n - (i + 1)) = omega arith in
    let b : i + 1 ≡ suc i = omega arith in
    let d : at + 2 * (i + 1) ≡ at + 2 * i + 2 = omega arith in
    rw (a, d, b)

pub units-none : (l xs : List ℕ) (i at : ℕ) → sets l i (units_at 0 xs at) ≡ l
unfolding units_at
units-none l xs i at = refl

-- a unit that is written, and the units that are left
pub put-units-more : (s us : List ℕ) (at i : ℕ) → i < length us
    → sets (sets s (at + 2 * i) (bytes 2 (get_or us i 0))) (at + 2 * (i + 1)) (unit_bytes (drop (i + 1) us)) ≡ sets s (at + 2 * i) (unit_bytes (drop i us))
unfolding unit_bytes
put-units-more s us at i h =
    let b : i + 1 ≡ suc i = omega arith in
    sets_then s (at + 2 * i) (bytes 2 (get_or us i 0)) (at + 2 * (i + 1)) (unit_bytes (drop (i + 1) us)) (omega (arith, length-bytes 2 (get_or us i 0)))
    ∙ rw (drop-cons us i 0 h, b)

pub put-units-none : (s us : List ℕ) (at i : ℕ) → length us ≤ i → sets s at (unit_bytes (drop i us)) ≡ s
unfolding unit_bytes
put-units-none s us at i h = rw (drop_of_length-le us h)

pub length-unit-bytes : (us : List ℕ) → length (unit_bytes us) ≡ 2 * length us
unfolding unit_bytes
length-unit-bytes [] = refl
length-unit-bytes (u ∷ us) = omega (arith, length-append (bytes 2 u) (unit_bytes us), length-bytes 2 u, length-unit-bytes us)

-- ---- a list cut or filled to n

pub length-fitted : (n : ℕ) (xs : List ℕ) → length (fitted n xs) ≡ n
unfolding fitted
length-fitted n xs = length-take-le n (xs ++ replicate n 0) (simp (length-append, length-replicate) (omega arith))

cut-filled : (src : List ℕ) (n p : ℕ) → p ≡ min n (length src) → take p src ++ replicate (n - p) 0 ≡ take n (src ++ replicate n 0)
cut-filled src n p m =
    elim (dec_le n (length src)) [
      | yes h ↦
          let z : n - p ≡ 0 = omega arith in
          let e : p ≡ n = omega arith in
          rw (z, e, append-nil) (sym (take-append-le n src (replicate n 0) h))
      | no h ↦
          let e : p ≡ length src = omega arith in
          let k : ℕ = n - length src in
          let w : n ≡ length src + k = omega arith in
          rw (e, take-length)
          (sym (ap (λ (j : ℕ). take j (src ++ replicate n 0)) w ∙ take-append-add src (replicate n 0) k ∙ ap (λ (zs : List ℕ). src ++ zs) (take-replicate k n 0 (omega arith))))
    ]

-- the bytes that there is room for, and zeros over the others
pub fitted-stored : (out src a z : List ℕ) (p : ℕ) → p ≡ min (length out) (length src) → a ≡ take p src
    → z ≡ replicate (length (take (length (a ++ drop p out) - p) (drop p (a ++ drop p out)))) 0
    → take p (a ++ drop p out) ++ (z ++ drop (length (a ++ drop p out) - p) (drop p (a ++ drop p out))) ≡ fitted (length out) src
unfolding fitted
fitted-stored out src a z p m e f =
    let n : ℕ = length out in
    let la : length a ≡ p = ap length e ∙ length-take-le p src (omega arith) in
    let lw : length (a ++ drop p out) ≡ n = omega (arith, length-append a (drop p out), length-drop p out) in
    let d : drop p (a ++ drop p out) ≡ drop p out = drop_at a (drop p out) p la in
    let t : take p (a ++ drop p out) ≡ a = take_at a (drop p out) p la in
    let r : drop (n - p) (drop p out) ≡ [] = drop_of_length-le (drop p out) (omega (arith, length-drop p out)) in
    let l : length (take (n - p) (drop p out)) ≡ n - p = length-take-le (n - p) (drop p out) (omega (arith, length-drop p out)) in
    let g : z ≡ replicate (n - p) 0 = rw (lw, d, l) at f in
    rw (t, d, lw, r, append-nil, g, e) (cut-filled src n p m)

-- a list of n is its own cut
pub fitted-same : (n : ℕ) (xs : List ℕ) → length xs ≡ n → fitted n xs ≡ xs
unfolding fitted
fitted-same n xs e = take_at xs (replicate n 0) n e

-- ---- a record that was written reads back

pub length-entry : (p : Partition) → length p.name ≡ 36 → length (entry_bytes p) ≡ 128
length-entry p h = simp (length-append, length-bytes, length-unit-bytes) (omega arith)

-- an entry that the code holds fits: what owning it tells
pub fit-entry-of : (p : Partition) (vs : List Val) → shadow ((row the_type).own_val p vs) → FitEntry p
fit-entry-of p vs o =
    let f = o.1.1 in
    record {
      type = fit-guid-of _ _ f.0;
      guid = fit-guid-of _ _ f.1.0;
      first = f.1.1.0.1.1.0.1;
      last = f.1.1.1.0.1.1.0.1;
      flags = fit-flags-of _ _ f.1.1.1.1.0;
      long = f.1.1.1.1.1.0.1.0.1;
      units = λ i. (elem_Fits w16 w16 p.name _ i f.1.1.1.1.1.0.1.1 tt).fits;
    }

-- and so do the last eight bytes of its GUIDs: every entry that the code owns is held
pub partition-held-of : (p : Partition) (vs : List Val) → shadow ((row the_type).own_val p vs) → PartitionHeld p
partition-held-of p vs o =
    let f = o.1.1 in
    record { fields = fit-entry-of p vs o; type = guid-held-of _ _ f.0; guid = guid-held-of _ _ f.1.0 }

units-drop : (n : ℕ) (xs : List ℕ) (at j : ℕ) → units_at n xs (at + j) ≡ units_at n (drop at xs) j
unfolding units_at
units-drop zero xs at j = refl
units-drop (suc n) xs at j = rw (num-drop xs at j 2, add_assoc at j 2, units-drop n xs at (j + 2))

pub entry-drop : (xs : List ℕ) (at : ℕ) → entry_at xs at ≡ entry_at (drop at xs) 0
entry-drop xs at = simp (add_assoc, add-zero, ← num-drop, get_or-drop, ← units-drop)

units-here : (us r : List ℕ) → ((i : ℕ) → get_or us i 0 < 2 ^ 16) → units_at (length us) (unit_bytes us ++ r) 0 ≡ us
unfolding units_at unit_bytes
units-here [] r h = refl
units-here (u ∷ us) r h =
    rw append_assoc
    (cc (
      num-here 2 u (unit_bytes us ++ r) (h 0),
      units-drop (length us) (bytes 2 u ++ (unit_bytes us ++ r)) 2 0,
      drop_at (bytes 2 u) (unit_bytes us ++ r) 2 (length-bytes 2 u),
      units-here us r (λ i. h (suc i)),
    ))

entry-eq : {t g t' g' : Guid} {a b a' b' : Lba} {f f' : Flags} {n n' : List ℕ} → t ≡ t' → g ≡ g' → a ≡ a' → b ≡ b' → f ≡ f' → n ≡ n'
    → ◌≡◌ {A = Partition}
    (record { part_type_guid = t; part_guid = g; first_lba = a; last_lba = b; flags = f; name = n })
    (record { part_type_guid = t'; part_guid = g'; first_lba = a'; last_lba = b'; flags = f'; name = n' })
entry-eq p q r s t u = cc

lba : (x y : ℕ) → x ≡ y → ◌≡◌ {A = Lba} (record { 0 = x }) (record { 0 = y })
lba x y e = rw e

-- the bytes of a record, whatever stands after them, read as the record with its name cleared
pub entry_here : (p : Partition) (r : List ℕ) → FitEntry p → Joins p.flags → entry_at (entry_bytes p ++ r) 0 ≡ named p
entry_here p r h q =
    let X : List ℕ = entry_bytes p ++ r in
    let N : List ℕ = unit_bytes p.name ++ r in
    let F : List ℕ = bytes 8 (joined p.flags) ++ N in
    let L : List ℕ = bytes 8 p.last_lba.0 ++ F in
    let A : List ℕ = bytes 8 p.first_lba.0 ++ L in
    let G : List ℕ = guid_bytes p.part_guid ++ A in
    let d0 : X ≡ guid_bytes p.part_type_guid ++ G = simp append_assoc in
    let d16 : drop 16 X ≡ G = drop-next X 0 (guid_bytes p.part_type_guid) G 16 d0 (omega (arith, length-guid p.part_type_guid)) in
    let d32 : drop 32 X ≡ A = drop-next X 16 (guid_bytes p.part_guid) A 32 d16 (omega (arith, length-guid p.part_guid)) in
    let d40 : drop 40 X ≡ L = drop-next X 32 (bytes 8 p.first_lba.0) L 40 d32 (omega (arith, length-bytes 8 p.first_lba.0)) in
    let d48 : drop 48 X ≡ F = drop-next X 40 (bytes 8 p.last_lba.0) F 48 d40 (omega (arith, length-bytes 8 p.last_lba.0)) in
    let d56 : drop 56 X ≡ N = drop-next X 48 (bytes 8 (joined p.flags)) N 56 d48 (omega (arith, length-bytes 8 (joined p.flags))) in
    let u : units_at 36 N 0 ≡ p.name = rw h.long at (units-here p.name r h.units) in
    entry-eq
    (rw d0 (guid-here p.part_type_guid G h.type))
    (guid-drop X 16 0 ∙ rw d16 (guid-here p.part_guid A h.guid))
    (lba _ _ (field-here X 32 8 p.first_lba.0 L d32 h.first))
    (lba _ _ (field-here X 40 8 p.last_lba.0 F d40 h.last))
    (ap flags_of (field-here X 48 8 (joined p.flags) N d48 (joined-fits p.flags q h.flags.owner)) ∙ split-join p.flags q)
    (ap cleared (units-drop 36 X 56 0 ∙ rw d56 u))

-- a record that was stored at a place of an image reads back from there, its name cleared
pub entry-back : (p : Partition) (xs : List ℕ) (at : ℕ) → FitEntry p → Joins p.flags → at + 128 ≤ length xs → entry_at (sets xs at (entry_bytes p)) at ≡ named p
entry-back p xs at h q k =
    let l : length (entry_bytes p) ≡ 128 = length-entry p h.long in
    entry-drop (sets xs at (entry_bytes p)) at
    ∙ rw (drop-sets xs at (entry_bytes p) (omega arith)) (entry_here p (drop (at + length (entry_bytes p)) xs) h q)

-- only the 128 bytes at the place count
units-part : (n : ℕ) (xs : List ℕ) (a m o : ℕ) → o + 2 * n ≤ m → units_at n (part xs a m) o ≡ units_at n xs (a + o)
unfolding units_at
units-part zero xs a m o h = refl
units-part (suc n) xs a m o h = rw (num-part xs a m o 2 (omega arith), units-part n xs a m (o + 2) (omega arith), add_assoc a o 2)

pub entry-part : (xs : List ℕ) (at : ℕ) → entry_at (part xs at 128) 0 ≡ entry_at xs at
entry-part xs at =
    entry-eq
    (guid-part xs at 128 0 (omega arith) ∙ ap (guid_at xs) (add-zero at))
    (guid-part xs at 128 16 (omega arith))
    (lba _ _ (num-part xs at 128 32 8 (omega arith)))
    (lba _ _ (num-part xs at 128 40 8 (omega arith)))
    (ap flags_of (num-part xs at 128 48 8 (omega arith)))
    (ap cleared (units-part 36 xs at 128 56 (omega arith)))

-- ---- what is read is stored back

unit-bytes-back : (n : ℕ) (xs : List ℕ) (at : ℕ) → at + 2 * n ≤ length xs → Small xs → unit_bytes (units_at n xs at) ≡ part xs at (2 * n)
unfolding unit_bytes units_at
unit-bytes-back zero xs at h b = refl
unit-bytes-back (suc n) xs at h b =
    let e : 2 * suc n ≡ 2 + 2 * n = omega arith in
    rw (e, part-split xs at 2 (2 * n), bytes-num xs at 2 (omega arith) b, unit-bytes-back n xs (at + 2) (omega arith) b)

-- an entry whose name holds only zeros after its first zero unit: its bytes are those that its record is stored as
pub entry-bytes-back : (xs : List ℕ) (at : ℕ) → at + 128 ≤ length xs → Small xs → cleared (units_at 36 xs (at + 56)) ≡ units_at 36 xs (at + 56)
    → entry_bytes (entry_at xs at) ≡ part xs at 128
entry-bytes-back xs at h b e =
    let f : (k : ℕ) → k + 8 ≤ 128 → bytes 8 (num xs (at + k) 8) ≡ part xs (at + k) 8 = λ k l. bytes-num xs (at + k) 8 (omega arith) b in
    let j : (k n m : ℕ) → part xs (at + k) n ++ part xs (at + (k + n)) m ≡ part xs (at + k) (n + m) = λ k n m. part_join xs (at + k) n (at + (k + n)) m (n + m) (omega arith) refl in
    rw (
      e,
      unit-bytes-back 36 xs (at + 56) (omega arith) b,
      f 32 (omega arith),
      f 40 (omega arith),
      join-split (num xs (at + 48) 8),
      f 48 (omega arith),
      guid-bytes-back xs (at + 16) (omega arith) b,
      guid-bytes-back xs at (omega arith) b,
      j 48 8 72,
      j 40 8 80,
      j 32 8 88,
      j 16 16 96,
    )
    (part_join xs at 16 (at + 16) 112 128 refl refl)

-- ---- present slots

-- a slot that is present, one that is not, and none left
pub from-yes : (xs : List ℕ) (at k count : ℕ) → k < count → present xs at k ≡ true
    → present_from xs at k (count - k) ≡ (k + 1) ∷ present_from xs at (k + 1) (count - (k + 1))
unfolding present_from
from-yes xs at k count h e =
    let a : count - k ≡ suc (count - (k + 1)) = omega arith in
    rw (a, e)

pub from-no : (xs : List ℕ) (at k count : ℕ) → k < count → present xs at k ≡ false
    → present_from xs at k (count - k) ≡ present_from xs at (k + 1) (count - (k + 1))
unfolding present_from
from-no xs at k count h e =
    let a : count - k ≡ suc (count - (k + 1)) = omega arith in
    rw (a, e)

pub from-none : (xs : List ℕ) (at k count : ℕ) → count ≤ k → present_from xs at k (count - k) ≡ []
unfolding present_from
from-none xs at k count h = let a : count - k ≡ 0 = omega arith in rw a

-- the first of the slots that are left, if any, is past the array place where they begin
first_past : (xs : List ℕ) (at k n : ℕ) → (present_from xs at k n ≡ []) ⊎ (k < get_or (present_from xs at k n) 0 0)
unfolding present_from
first_past xs at k zero = inl refl
first_past xs at k (suc n) = go (present xs at k) (first_past xs at (k + 1) n)
  where
    l : List ℕ
    l = present_from xs at (k + 1) n

    go : (t : Bool) → (l ≡ []) ⊎ (k + 1 < get_or l 0 0) → (pick t ((k + 1) ∷ l) l ≡ []) ⊎ (k < get_or (pick t ((k + 1) ∷ l) l) 0 0)
    go true i = inr (omega arith)
    go false (inl e) = inl e
    go false (inr h) = inr (omega arith)

head-some : (l : List ℕ) → (get_or l 0 0 ≡ 0 → ⊥) → take 1 l ≡ get_or l 0 0 ∷ []
head-some [] h = absurd (h refl)
head-some (x ∷ l) h = refl

-- the first present slot alone in a list: there is none where the slot is 0
pub next-none : (xs : List ℕ) (at count after : ℕ) → first_slot xs at count after ≡ 0 → take 1 (present_from xs at after (count - after)) ≡ []
unfolding first_slot
next-none xs at count after e = ⊎_elim (λ p. rw p) (λ l. absurd (omega arith)) (first_past xs at after (count - after))

pub next-some : (xs : List ℕ) (at count after : ℕ) → (first_slot xs at count after ≡ 0 → ⊥)
    → take 1 (present_from xs at after (count - after)) ≡ first_slot xs at count after ∷ []
unfolding first_slot
next-some xs at count after e = head-some (present_from xs at after (count - after)) e

-- what the first present slot after a slot is, where it is not 0: present, after that slot, in the array, and none between is present
pub record NextSlot (xs : List ℕ) (at count after s : ℕ) : Type 0 where
  pub past : after < s
  pub within : s ≤ count
  pub there : present xs at (s - 1) ≡ true
  pub none_between : (k : ℕ) → after ≤ k → k + 1 < s → present xs at k ≡ false

-- a number that is at least another is it or is past it
split {ℓ} : {X : Type ℓ} (a b : ℕ) → a ≤ b → (a ≡ b → X) → (a < b → X) → X
split a b p f g = elim (dec_le b a) [ yes i ↦ f (omega arith) | no i ↦ g (lt_of_not-le i) ]

from_next : (xs : List ℕ) (at k n : ℕ) → (get_or (present_from xs at k n) 0 0 ≡ 0 → ⊥) → NextSlot xs at (k + n) k (get_or (present_from xs at k n) 0 0)
unfolding present_from
from_next xs at k zero h = absurd (h refl)
from_next xs at k (suc n) h = go (present xs at k) refl h (from_next xs at (k + 1) n)
  where
    l : List ℕ
    l = present_from xs at (k + 1) n

    go : (t : Bool) → present xs at k ≡ t → (get_or (pick t ((k + 1) ∷ l) l) 0 0 ≡ 0 → ⊥)
        → ((get_or l 0 0 ≡ 0 → ⊥) → NextSlot xs at (k + 1 + n) (k + 1) (get_or l 0 0))
        → NextSlot xs at (k + suc n) k (get_or (pick t ((k + 1) ∷ l) l) 0 0)
    go true e g f =
        let d : k + 1 - 1 ≡ k = omega arith in
        record { past = omega arith; within = omega arith; there = rw d e; none_between = λ j p q. absurd (omega arith) }
    go false e g f =
        let r = f g in
        record {
          past = omega (arith, r.past);
          within = omega (arith, r.within);
          there = r.there;
          none_between = λ j p q. split k j p (λ z. rw (← z) e) (λ m. r.none_between j (omega arith) q);
        }

pub next-in : (xs : List ℕ) (at count after : ℕ) → (first_slot xs at count after ≡ 0 → ⊥) → NextSlot xs at count after (first_slot xs at count after)
unfolding first_slot
next-in xs at count after h =
    let r = from_next xs at after (count - after) h in
    let l : after < count = elim (dec_le count after) [ yes i ↦ absurd (h (ap (λ (l : List ℕ). get_or l 0 0) (from-none xs at after count i))) | no i ↦ lt_of_not-le i ] in
    record { past = r.past; within = omega (arith, r.within); there = r.there; none_between = r.none_between }

none_from : (xs : List ℕ) (at n j k : ℕ) → present_from xs at j n ≡ [] → j ≤ k → k < j + n → present xs at k ≡ false
unfolding present_from
none_from xs at zero j k e p q = absurd (omega arith)
none_from xs at (suc n) j k e p q = go (present xs at j) refl e (λ i. none_from xs at n (j + 1) k i)
  where
    l : List ℕ
    l = present_from xs at (j + 1) n

    go : (t : Bool) → present xs at j ≡ t → pick t ((j + 1) ∷ l) l ≡ [] → (l ≡ [] → j + 1 ≤ k → k < j + 1 + n → present xs at k ≡ false) → present xs at k ≡ false
    go true f i g = absurd (let z : ◌≡◌ {A = ℕ} 0 1 = cc in omega arith)
    go false f i g = split j k p (λ z. rw (← z) f) (λ m. g i (omega arith) (omega arith))

-- and where it is 0, no slot after that slot is present
pub next-nowhere : (xs : List ℕ) (at count after k : ℕ) → first_slot xs at count after ≡ 0 → after ≤ k → k < count → present xs at k ≡ false
unfolding first_slot
next-nowhere xs at count after k e p q =
    none_from xs at (count - after) after k (⊎_elim (λ i. i) (λ i. absurd (omega arith)) (first_past xs at after (count - after))) p (omega arith)

-- ---- presence is by the raw bytes

zero-entry : (r : List ℕ) → entry_at (replicate 128 0 ++ r) 0 ≡ zero_partition
unfolding num le units_at cleared first_zero
zero-entry r = refl

-- an absent entry reads as the zero record
pub absent-is-zero : (xs : List ℕ) (at : ℕ) → at + 128 ≤ length xs → all_zero (part xs at 128) ≡ true → entry_at xs at ≡ zero_partition
absent-is-zero xs at h e =
    let z : part xs at 128 ≡ replicate 128 0 = zero-part xs at 128 h e in
    let d : drop at xs ≡ replicate 128 0 ++ drop 128 (drop at xs) = sym (take-append-drop 128 (drop at xs)) ∙ ap (λ (y : List ℕ). y ++ drop 128 (drop at xs)) z in
    entry-drop xs at ∙ ap (λ (y : List ℕ). entry_at y 0) d ∙ zero-entry (drop 128 (drop at xs))

-- but not every entry that reads as the zero record is absent: one byte that is not zero, after the end of the name, is enough
pub present-zero-record :
    let xs : List ℕ = replicate 127 0 ++ (1 ∷ []) in (present xs 0 0 ≡ true) × (entry_at xs 0 ≡ zero_partition)
unfolding all_zero num le units_at cleared first_zero
present-zero-record = (refl, refl)

-- units are kept as they are: a name of a lone surrogate and a letter is read and stored back unit by unit
pub lone-surrogate :
    let xs : List ℕ = replicate 56 0 ++ (0x3D ∷ 0xD8 ∷ 0x41 ∷ 0x00 ∷ replicate 68 0) in
    ((entry_at xs 0).name ≡ 0xD83D ∷ 0x0041 ∷ replicate 34 0) × (entry_bytes (entry_at xs 0) ≡ xs)
unfolding num le bytes units_at unit_bytes cleared first_zero joined flags_of
lone-surrogate = (refl, refl)

-- ---- a write to a device: none of document 01's five tests for 64 bits tells more than the one on the end

or-last : (p q r s : Bool) → (p || (q || (r || (s || true)))) ≡ true
or-last true q r s = refl
or-last false true r s = refl
or-last false false true s = refl
or-last false false false true = refl
or-last false false false false = refl

module _ (start index b size count : ℕ) where
  pub end-passes : (2 ^ 64 ≤ start * b) ⊎ (2 ^ 64 ≤ index * size) ⊎ (2 ^ 64 ≤ start * b + index * size) ⊎ (2 ^ 64 ≤ count * size) → 2 ^ 64 ≤ start * b + index * size + count * size
  end-passes (inl h) = omega arith
  end-passes (inr (inl h)) = omega arith
  end-passes (inr (inr (inl h))) = omega arith
  end-passes (inr (inr (inr h))) = omega arith

  -- so the five tests, one after the other, are the definition's one
  pub five-tests :
      (leb (2 ^ 64) (start * b) || (leb (2 ^ 64) (index * size) || (leb (2 ^ 64) (start * b + index * size) || (leb (2 ^ 64) (count * size) || leb (2 ^ 64) (start * b + index * size + count * size)))))
      ≡ leb (2 ^ 64) (start * b + index * size + count * size)
  five-tests =
      let e : ℕ = start * b + index * size + count * size in
      elim (dec_le (2 ^ 64) e) [
        | yes h ↦ rw (le-leb (2 ^ 64) e h) (or-last (leb (2 ^ 64) (start * b)) (leb (2 ^ 64) (index * size)) (leb (2 ^ 64) (start * b + index * size)) (leb (2 ^ 64) (count * size)))
        | no h ↦
            let l : e < 2 ^ 64 = lt_of_not-le h in
            rw (
              lt-leb (2 ^ 64) (start * b) (omega arith),
              lt-leb (2 ^ 64) (index * size) (omega arith),
              lt-leb (2 ^ 64) (start * b + index * size) (omega arith),
              lt-leb (2 ^ 64) (count * size) (omega arith),
            )
      ]
