-- The laws of twins and of the set of numbers by which the code finds them. No contract cites this file. Assumes nothing.
use mathlib.Core.Path.{◌≡◌, refl, sym, ap, ap₂, ◌∙◌, subst}
use mathlib.Core.Bool.{Bool, true, false, not, ◌&&◌}
use mathlib.Core.List.{List}
use Prim.Native.Nat.{ℕ, ◌+◌, ◌*◌, ◌/◌, ◌%◌, ◌^◌, ◌<◌, max}
use native.Mathlib.Nat.{one-mul, mul-div_cancel}
use native.Mathlib.Omega.{arith}
use borrow.Author.Tests.{eq-eqb, eqb-true, eqb-false, not-true, not-false}
use lib.Bits.{bit_or, bit_xor, or_step, or_shr}
use lib.Dec.{eqb}
use lib.ListN.{length, get_or, length-set}
use lib.Seq.{get_or-set_same, get_or-set_other}
use lib.Pow.{pow_pos, shl_exact}
use Rattle.units.specs.Answer.{pick}
use Rattle.units.specs.Bytes.{part, num, same, all_zero}
use Rattle.units.proofs.Lists.{part-part}
use Rattle.units.proofs.Laws.{num-part, same_true}
use Rattle.tables.specs.Checks.{all}
use Rattle.tables.specs.Entries.{entry, used, part_guid_of, bears, twins, all_single}
use Rattle.tables.proofs.Orders.{split, by-test, all_of, triangle}
use Rattle.tables.proofs.EntryLaws.{entry_at, used-part, twins-comm}
use Rattle.twins.specs.Marks.{folded, mark, marked, with_mark, fresh, entered, Marked}

unlike : false ≡ true → ⊥
unlike q = let o : ◌≡◌ {A = ℕ} 0 1 = cc in omega arith

-- it is enough to look below each entry
pub square : (arr : List ℕ) → all 128 (λ (k : ℕ). all k (λ (j : ℕ). not (twins (entry arr k) (entry arr j)))) ≡ all_single arr
square arr = triangle 128 (λ (j k : ℕ). twins (entry arr j) (entry arr k)) (λ j k. twins-comm (entry arr j) (entry arr k))

-- ---- what is read of an entry

pub guid-at : (xs : List ℕ) (at : ℕ) {p : ℕ} → p ≡ at + 16 → part xs p 16 ≡ part_guid_of (part xs at 128)
unfolding part_guid_of
guid-at xs at e = ap (λ (o : ℕ). part xs o 16) e ∙ sym (part-part xs at 128 16 16 (omega arith))

pub mark-at : (xs : List ℕ) (at : ℕ) {p : ℕ} → p ≡ at + 16 → folded (bit_xor (num xs p 8) (num xs (p + 8) 8)) ≡ mark (part_guid_of (part xs at 128))
unfolding mark
mark-at xs at {p} e =
    let z : p + 0 ≡ p = omega arith in
    sym (ap₂ (λ (a b : ℕ). folded (bit_xor a b)) (num-part xs p 16 0 8 (omega arith) ∙ ap (λ (o : ℕ). num xs o 8) z) (num-part xs p 16 8 8 (omega arith)))
    ∙ ap mark (guid-at xs at e)

pub mark-low : (g : List ℕ) → mark g < 4096
unfolding mark folded
mark-low g = omega arith

-- ---- the set

pub one_shl : (k : ℕ) → k < 64 → (1 * 2 ^ k) % 2 ^ 64 ≡ 2 ^ k
one_shl k h = shl_exact 1 k 64 (omega arith) (omega arith) ∙ omega arith

or-odd : (a b : ℕ) → bit_or a b % 2 ≡ max (a % 2) (b % 2)
or-odd a b = let m : max (a % 2) (b % 2) < 2 = omega arith in omega (arith, or_step a b)

or-bit : (x y k : ℕ) → bit_or x y / 2 ^ k % 2 ≡ max (x / 2 ^ k % 2) (y / 2 ^ k % 2)
or-bit x y k = ap (λ (z : ℕ). z % 2) (or_shr x y k) ∙ or-odd (x / 2 ^ k) (y / 2 ^ k)

pub mark-own : (m : List ℕ) (h : ℕ) → length m ≡ 64 → h < 4096 → marked (with_mark m h) h ≡ true
unfolding marked with_mark
mark-own m h l b =
    let g = get_or-set_same m (h / 64) (bit_or (get_or m (h / 64) 0) (2 ^ (h % 64))) 0 (omega arith) in
    let o = or-bit (get_or m (h / 64) 0) (2 ^ (h % 64)) (h % 64) in
    let d : 2 ^ (h % 64) / 2 ^ (h % 64) ≡ 1 = ap (λ (z : ℕ). z / 2 ^ (h % 64)) (sym (one-mul (2 ^ (h % 64)))) ∙ mul-div_cancel 1 (pow_pos (h % 64)) in
    rw g (eq-eqb _ 1 (o ∙ ap (λ (z : ℕ). max (get_or m (h / 64) 0 / 2 ^ (h % 64) % 2) (z % 2)) d ∙ omega arith))

pub mark-kept : (m : List ℕ) (h g : ℕ) → length m ≡ 64 → h < 4096 → marked m g ≡ true → marked (with_mark m h) g ≡ true
unfolding marked with_mark
mark-kept m h g l b t =
    by-test (eqb (g / 64) (h / 64))
    (λ e.
    let q : g / 64 ≡ h / 64 = eqb-true (g / 64) (h / 64) e in
    let s = get_or-set_same m (h / 64) (bit_or (get_or m (h / 64) 0) (2 ^ (h % 64))) 0 (omega arith) in
    let o = or-bit (get_or m (h / 64) 0) (2 ^ (h % 64)) (g % 64) in
    let d : get_or m (h / 64) 0 / 2 ^ (g % 64) % 2 ≡ 1 = ap (λ (i : ℕ). get_or m i 0 / 2 ^ (g % 64) % 2) (sym q) ∙ eqb-true _ 1 t in
    rw (q, s) (eq-eqb _ 1 (o ∙ ap (λ (z : ℕ). max z (2 ^ (h % 64) / 2 ^ (g % 64) % 2)) d ∙ omega arith)))
    (λ e. rw (get_or-set_other m (h / 64) (g / 64) (bit_or (get_or m (h / 64) 0) (2 ^ (h % 64))) 0 (eqb-false (g / 64) (h / 64) e)) t)

pub length-entered : (m e : List ℕ) → length m ≡ 64 → length (entered m e) ≡ 64
unfolding entered with_mark
length-entered m e l = by-test (used e) (λ u. rw u (length-set m _ _ ∙ l)) (λ u. rw u l)

-- one more entry is marked
pub marked_more : (arr : List ℕ) (k : ℕ) (m : List ℕ) → length m ≡ 64 → Marked arr k m → Marked arr (k + 1) (entered m (entry arr k))
unfolding entered
marked_more arr k m l before j h u =
    split k j
    (λ o.
    let d : k ≡ j = omega arith in
    subst (λ (i : ℕ). used (entry arr i) ≡ true → marked (pick (used (entry arr k)) (with_mark m (mark (part_guid_of (entry arr k)))) m) (mark (part_guid_of (entry arr i))) ≡ true) d
    (λ v. rw v (mark-own m (mark (part_guid_of (entry arr k))) l (mark-low (part_guid_of (entry arr k))))) u)
    (λ o.
    by-test (used (entry arr k))
    (λ v. rw v (mark-kept m (mark (part_guid_of (entry arr k))) (mark (part_guid_of (entry arr j))) l (mark-low (part_guid_of (entry arr k))) (before j o u)))
    (λ v. rw v (before j o u)))

-- the same, of the entry at the place where the code reads it
pub marked_from : (xs : List ℕ) (at k : ℕ) (m n : List ℕ) {p : ℕ} → k < 128 → p ≡ at + 128 * k → length m ≡ 64 → Marked (part xs at 16384) k m → n ≡ entered m (part xs p 128)
    → Marked (part xs at 16384) (k + 1) n × (length n ≡ 64)
marked_from xs at k m n h e l before q =
    let w : n ≡ entered m (entry (part xs at 16384) k) = q ∙ ap (entered m) (sym (entry_at xs at k h e)) in
    (subst (Marked (part xs at 16384) (k + 1)) (sym w) (marked_more (part xs at 16384) k m l before), ap length w ∙ length-entered m (entry (part xs at 16384) k) l)

pub marked-none : (arr m : List ℕ) → Marked arr 0 m
marked-none arr m j h u = absurd (omega arith)

-- an entry whose number is not in the set is no twins of those whose numbers are
pub fresh-single : (arr : List ℕ) (k : ℕ) (m : List ℕ) → Marked arr k m → fresh m (entry arr k) ≡ true → all k (λ (j : ℕ). not (twins (entry arr k) (entry arr j))) ≡ true
unfolding fresh twins bears
fresh-single arr k m before q =
    all_of k _ (λ j h.
    by-test (used (entry arr k))
    (λ u.
    by-test (used (entry arr j))
    (λ v.
    by-test (same (part_guid_of (entry arr j)) (part_guid_of (entry arr k)))
    (λ s.
    let f : not (marked m (mark (part_guid_of (entry arr k)))) ≡ true = subst (λ (t : Bool). pick t (not (marked m (mark (part_guid_of (entry arr k))))) true ≡ true) u q in
    let g : marked m (mark (part_guid_of (entry arr k))) ≡ true = ap (λ (g : List ℕ). marked m (mark g)) (sym (same_true _ _ s)) ∙ before j h v in
    absurd (unlike (sym (not-true _ f) ∙ g)))
    (λ s. rw (u, v, s)))
    (λ v. rw (u, v)))
    (λ u. rw u))

-- ---- what the code finds of one entry

module _ {z : Bool} (xs : List ℕ) (at : ℕ) (e : z ≡ all_zero (part xs at 16)) where
  pub is-used : {t : Bool} → z ≡ t → used (part xs at 128) ≡ not t
  is-used q = used-part xs at ∙ ap not (sym e ∙ q)

  pub fresh-unused : (m : List ℕ) → z ≡ true → (true ≡ fresh m (part xs at 128)) × (m ≡ entered m (part xs at 128))
  unfolding fresh entered
  fresh-unused m q = (rw (is-used q), rw (is-used q))

  pub fresh-used : (m n : List ℕ) {r : Bool} {h : ℕ} → z ≡ false → h ≡ mark (part_guid_of (part xs at 128)) → r ≡ marked m h → n ≡ with_mark m h
      → (not r ≡ fresh m (part xs at 128)) × (n ≡ entered m (part xs at 128))
  unfolding fresh entered
  fresh-used m n q k a b = (rw (is-used q, ← k) (ap not a), rw (is-used q, ← k) b)

-- by the place of its GUID
module _ (xs : List ℕ) (at : ℕ) (g : List ℕ) {p : ℕ} {s : Bool} (w : p ≡ at + 16) (e : s ≡ same (part xs p 16) g) where
  has : s ≡ same (part_guid_of (part xs at 128)) g
  has = e ∙ ap (λ (l : List ℕ). same l g) (guid-at xs at w)

  pub bears-not : not s ≡ true → false ≡ bears g (part xs at 128)
  unfolding bears
  bears-not t = let f : s ≡ false = not-true s t in rw (← has, f) (nothing (used (part xs at 128)))
    where
      nothing : (b : Bool) → false ≡ b && false
      nothing true = refl
      nothing false = refl

  pub bears-same : not s ≡ false → {z : Bool} → z ≡ all_zero (part xs at 16) → not z ≡ bears g (part xs at 128)
  unfolding bears
  bears-same t {z} q = let f : s ≡ true = not-false s t in rw (← has, f, used-part xs at, ← q) (whole (not z))
    where
      whole : (b : Bool) → b ≡ b && true
      whole true = refl
      whole false = refl

-- a used entry k against those before it
pub own-twins : (arr : List ℕ) (k : ℕ) (g : List ℕ) → used (entry arr k) ≡ true → g ≡ part_guid_of (entry arr k)
    → all k (λ (j : ℕ). not (bears g (entry arr j))) ≡ all k (λ (j : ℕ). not (twins (entry arr k) (entry arr j)))
unfolding twins
own-twins arr k g u q = rw (q, u)
