-- The ways out of a payload write's functions, one law for each: what the tests and the store told, and what the definitions then give. No contract cites this file.
-- Assumes nothing.
use mathlib.Core.Path.{◌≡◌, refl, sym, ap, ◌∙◌}
use mathlib.Core.Bool.{Bool, true, false, not}
use mathlib.Core.List.{List}
use Prim.Native.Nat.{ℕ, zero, suc, ◌+◌, ◌*◌, ◌-◌, ◌≤◌, ◌<◌}
use native.Mathlib.Nat.{mul-le-mul_right, mul-le-mul_left, mul-sub, mul_comm}
use native.Mathlib.Omega.{arith}
use borrow.Author.Tests.{lt-ltb, le-ltb, ltb-false}
use lib.Dec.{ltb}
use lib.ListN.{length, take, drop}
use lib.Seq.{sets}
use Rattle.units.specs.declared.BytePlace.{BytePlace}
use Rattle.units.specs.declared.why.Why.{Why}
use Rattle.units.specs.declared.Reason.{Reason}
use Rattle.units.specs.declared.Refusal.TheVariants.{EmptySlot}
use Rattle.units.specs.Answer.{Answer, accepted, refused, refuse, plain, fine, when, if_zero, pick, judged, gives, Ends, ends}
use Rattle.units.specs.Refusals.{why_at, reason_of}
use Rattle.units.specs.Bytes.{part, num, all_zero}
use Rattle.units.proofs.Lists.{length_part, lent-part, sets-all}
use Rattle.units.proofs.Chains.{found, past, last, none, else-first, none-when, else-second, Named, named-is, named-when, named-else, judged-none, judged-some, judged-zero, settle-accepted, settle-refused}
use Rattle.partition.specs.Format.{first_at, last_at, nil_type_at}
use Rattle.tables.specs.Places.{last_usable_of}
use Rattle.tables.specs.Lens.{Front, copy_in, Tables, tables}
use Rattle.tables.specs.Entries.{entry, used, first_of, last_of}
use Rattle.tables.specs.Check.{bad_slot, slot_check}
use Rattle.tables.proofs.Room.{Room}
use Rattle.tables.proofs.EntryLaws.{Inside, ok-used, own-used}
use Rattle.tables.proofs.Good.{room-ok, slot_ok, check-good}
use Rattle.checking.proofs.CheckWays.{own_first, own-last, slot-good, named-slot}
use Rattle.card.specs.Calls.{slot_entry, used_check, partition_bytes, payload_check, payload_place, payload_at, read_at}

-- ---- what is read of a slot in the front table's bytes

module _ (B : ℕ) (ys : List ℕ) (s : ℕ) (b : bad_slot s ≡ false) {at : ℕ} (ka : at ≡ B + 128 * (s - 1)) where
  pub slot-unused : {z : Bool} → z ≡ nil_type_at ys at → z ≡ not (used (entry (copy_in B Front ys).array (s - 1)))
  unfolding copy_in
  slot-unused {z} e = sym (ap not (own-used ys B (s - 1) (slot_ok s b).1 (e ∙ ap (λ (i : ℕ). all_zero (part ys i 16)) ka)) ∙ twice z)
    where
      twice : (z : Bool) → not (not z) ≡ z
      twice true = refl
      twice false = refl

  pub slot-first : {f : ℕ} → f ≡ first_at ys at → f ≡ first_of (entry (copy_in B Front ys).array (s - 1))
  unfolding copy_in
  slot-first e = own_first ys B (s - 1) (slot_ok s b).1 (e ∙ ap (λ (i : ℕ). num ys (i + 32) 8) ka)

  pub slot-last : {l : ℕ} → l ≡ last_at ys at → l ≡ last_of (entry (copy_in B Front ys).array (s - 1))
  unfolding copy_in
  slot-last e = own-last ys B (s - 1) (slot_ok s b).1 (e ∙ ap (λ (i : ℕ). num ys (i + 40) 8) ka)

-- ---- 18, 23

module _ (B n : ℕ) (t : Tables) (s : ℕ) {f : Why} (e : f ≡ slot_check B n t s) where
  pub used-checked : (f.number ≡ 0 → ⊥) → f ≡ used_check B n t s
  unfolding used_check
  used-checked d = found _ e d

  module _ (o : f.number ≡ 0) {z : Bool} (k : z ≡ not (used (slot_entry t s))) where
    pub used-not : z ≡ true → plain 23 ≡ used_check B n t s
    unfolding used_check
    used-not q = past e o (last _ (sym k ∙ q))

    pub used-fine : z ≡ false → fine ≡ used_check B n t s
    unfolding used_check
    used-fine q = past e o (none _ (sym k ∙ q))

-- ---- 24

-- the partition of a used slot: its blocks in their order, and its end inside the image
pub record Spanned (B n f l : ℕ) : Type 0 where
  pub order : f ≤ l
  pub end : (l + 1) * B ≤ n

module _ (B : ℕ) (xs : List ℕ) (s : ℕ) (h : (used_check B (length xs) (tables B xs) s).number ≡ 0) where
  pub used-slot : (slot_check B (length xs) (tables B xs) s).number ≡ 0
  unfolding used_check
  used-slot = else-first (slot_check B (length xs) (tables B xs) s) _ h

  is-used : used (slot_entry (tables B xs) s) ≡ true
  unfolding used_check
  is-used =
      let q : not (used (slot_entry (tables B xs) s)) ≡ false = none-when (not (used (slot_entry (tables B xs) s))) (plain 23) tt (else-second (slot_check B (length xs) (tables B xs) s) _ h) in
      back (used (slot_entry (tables B xs) s)) q
    where
      back : (z : Bool) → not z ≡ false → z ≡ true
      back true e = refl
      back false e = sym e

  pub used-room : Room B (length xs)
  used-room = room-ok B (length xs) (check-good B (length xs) (tables B xs) (slot-good B (length xs) (tables B xs) s used-slot).0).room

  pub used-spanned : Spanned B (length xs) (first_of (slot_entry (tables B xs) s)) (last_of (slot_entry (tables B xs) s))
  used-spanned =
      let k = slot-good B (length xs) (tables B xs) s used-slot in
      let r : Room B (length xs) = used-room in
      let g = check-good B (length xs) (tables B xs) k.0 in
      let i : Inside B (length xs) (slot_entry (tables B xs) s) = ok-used B (length xs) _ (g.entries.each (s - 1) (slot_ok s k.1).1) is-used in
      let a : last_of (slot_entry (tables B xs) s) + 1 ≤ last_usable_of B (length xs) + 1 = omega (arith, i.high) in
      let b : (last_of (slot_entry (tables B xs) s) + 1) * B ≤ (last_usable_of B (length xs) + 1) * B = mul-le-mul_right B a in
      record { order = i.order; end = omega (arith, b, r.last, r.seam, r.top) }

-- the bytes of a partition, by the places of its two ends
pub span-bytes : (B n f l : ℕ) → Spanned B n f l → (l + 1 - f) * B ≡ (l + 1) * B - f * B
span-bytes B n f l s = mul_comm (l + 1 - f) B ∙ mul-sub B (l + 1) f ∙ rw (mul_comm B (l + 1), mul_comm B f)

pub span-order : (B n f l : ℕ) → Spanned B n f l → f * B ≤ (l + 1) * B
span-order B n f l s = let h : f ≤ l + 1 = omega (arith, s.order) in mul-le-mul_right B h

pub span_last : (B n f l : ℕ) → 1 ≤ B → Spanned B n f l → l + 1 ≤ n
span_last B n f l h s = omega (arith, mul-le-mul_left (l + 1) h, s.end)

-- the two ways of the test
module _ (w p m : ℕ) (v : BytePlace) where
  pub past_end : w < p + m → refuse 24 ≡ pick (ltb w (p + m)) (refuse 24) (accepted v)
  past_end h = rw (lt-ltb _ _ h)

  pub before-end : p + m ≤ w → {x : BytePlace} → x ≡ v → accepted x ≡ pick (ltb w (p + m)) (refuse 24) (accepted v)
  before-end h e = rw (le-ltb _ _ h) (ap accepted e)

-- ---- the call's tests in their order

pub named-used : (B n : ℕ) (t : Tables) (s : ℕ) → Named (used_check B n t s)
unfolding used_check
named-used B n t s = named-else (slot_check B n t s) _ (named-slot B n t s) (named-when (not (used (slot_entry t s))) _ (named-is EmptySlot))

module _ (B n : ℕ) (t : Tables) (s p m : ℕ) (v : BytePlace) {f : Why} (e : f ≡ used_check B n t s) where
  pub pay-refused : {r : Reason} → (f.number ≡ 0 → ⊥) → r ≡ reason_of f → ◌≡◌ {A = Answer BytePlace} (refused (why_at r)) (judged (payload_check B n t s p m) v)
  unfolding payload_check
  pay-refused {r} d q =
      let k : f ≡ payload_check B n t s p m = found _ e d in
      let w : why_at r ≡ f = ap why_at q ∙ ap (λ (x : Why). why_at (reason_of x)) e ∙ (named-used B n t s).name (λ z. d (ap (λ (x : Why). x.number) e ∙ z)) ∙ sym e in
      ap refused (w ∙ k) ∙ sym (judged-some v (payload_check B n t s p m) (λ z. d (ap (λ (x : Why). x.number) k ∙ z)))

  pub pay-placed : {a : Answer BytePlace} → f.number ≡ 0 → a ≡ pick (ltb (partition_bytes B (slot_entry t s)) (p + m)) (refuse 24) (accepted v) → a ≡ judged (payload_check B n t s p m) v
  unfolding payload_check judged
  pay-placed {a} z q =
      q ∙ by (ltb (partition_bytes B (slot_entry t s)) (p + m))
      ∙ ap (λ (w : Why). judged w v) (past {f = f} {m = when (ltb (partition_bytes B (slot_entry t s)) (p + m)) (plain 24)} e z refl)
    where
      by : (x : Bool) → pick x (refuse 24) (accepted v) ≡ judged (when x (plain 24)) v
      by true = refl
      by false = refl

-- ---- the ends of the call

judged-refused : {A : Type 0} (v : A) (k : Why) {w : Why} → refused w ≡ judged k v → (k.number ≡ 0 → ⊥) × (w ≡ k)
unfolding judged
judged-refused {A} v k {w} e = by k.number e
  where
    by : (n : ℕ) → ◌≡◌ {A = Answer A} (refused w) (if_zero n (accepted v) (refused k)) → (n ≡ 0 → ⊥) × (w ≡ k)
    by zero q = let z : ◌≡◌ {A = ℕ} 0 1 = cc in absurd (omega arith)
    by (suc n) q = (λ z. omega arith, cc)

judged-accepted : {A : Type 0} (v : A) (k : Why) {x : A} → accepted x ≡ judged k v → (k.number ≡ 0) × (x ≡ v)
judged-accepted {A} v k {x} e =
    let z : k.number ≡ 0 = judged-zero v k x (sym e) in
    let q : ◌≡◌ {A = Answer A} (accepted x) (accepted v) = e ∙ judged-none v k z in
    (z, cc)

module _ (B : ℕ) (xs : List ℕ) (s p : ℕ) (ys : List ℕ) where
  pub pay-refuses : {w : Why} → ◌≡◌ {A = Answer BytePlace} (refused w) (judged (payload_check B (length xs) (tables B xs) s p (length ys)) (record { 0 = payload_place B (tables B xs) s p }))
      → Ends (payload_at B (length xs) xs s p ys) (refused w) xs
  unfolding payload_at
  pay-refuses {w} q =
      let k = judged-refused _ (payload_check B (length xs) (tables B xs) s p (length ys)) q in
      ends (settle-refused (length ys) _ xs _ k.0 ∙ ap (λ (u : Why). gives (refused u) xs) (sym k.1))

  module _ {at : BytePlace} (q : ◌≡◌ {A = Answer BytePlace} (accepted at) (judged (payload_check B (length xs) (tables B xs) s p (length ys)) (record { 0 = payload_place B (tables B xs) s p }))) where
    told : ((payload_check B (length xs) (tables B xs) s p (length ys)).number ≡ 0) × (at ≡ record { 0 = payload_place B (tables B xs) s p })
    told = judged-accepted _ (payload_check B (length xs) (tables B xs) s p (length ys)) q

    pub pay-inside : at.0 + length ys ≤ length xs
    unfolding payload_check
    pay-inside =
        let h = told.0 in
        let u = else-first (used_check B (length xs) (tables B xs) s) _ h in
        let sp = used-spanned B xs s u in
        let c : ltb (partition_bytes B (slot_entry (tables B xs) s)) (p + length ys) ≡ false = none-when _ (plain 24) tt (else-second (used_check B (length xs) (tables B xs) s) _ h) in
        let e = ap (λ (x : BytePlace). x.0) told.1 in
        let f : ℕ = first_of (slot_entry (tables B xs) s) in
        let l : ℕ = last_of (slot_entry (tables B xs) s) in
        omega (arith, e, ltb-false (partition_bytes B (slot_entry (tables B xs) s)) (p + length ys) c, span-bytes B (length xs) f l sp, span-order B (length xs) f l sp, sp.end)

    pub pay-accepts : {i : List ℕ} → i ≡ sets xs at.0 ys → Ends (payload_at B (length xs) xs s p ys) (accepted (length ys)) i
    unfolding payload_at
    pay-accepts {i} e =
        ends (settle-accepted (length ys) _ xs _ told.0
        ∙ ap (λ (x : List ℕ). gives (accepted (length ys)) x) (sym (e ∙ ap (λ (x : BytePlace). sets xs x.0 ys) told.1)))

-- ---- a read

module _ (B : ℕ) (xs : List ℕ) (s p : ℕ) (out : List ℕ) where
  pub read-refuses : {w : Why} → ◌≡◌ {A = Answer BytePlace} (refused w) (judged (payload_check B (length xs) (tables B xs) s p (length out)) (record { 0 = payload_place B (tables B xs) s p }))
      → Ends (read_at B (length xs) xs s p out) (refused w) out
  unfolding read_at
  read-refuses {w} q =
      let k = judged-refused _ (payload_check B (length xs) (tables B xs) s p (length out)) q in
      ends (settle-refused (length out) _ out _ k.0 ∙ ap (λ (u : Why). gives (refused u) out) (sym k.1))

  pub read-accepts : {at : BytePlace} → ◌≡◌ {A = Answer BytePlace} (accepted at) (judged (payload_check B (length xs) (tables B xs) s p (length out)) (record { 0 = payload_place B (tables B xs) s p }))
      → {i : List ℕ} → i ≡ sets out 0 (take (at.0 + length out - at.0) (drop at.0 xs)) → Ends (read_at B (length xs) xs s p out) (accepted (length out)) i
  unfolding read_at
  read-accepts {at} q {i} e =
      let k = judged-accepted _ (payload_check B (length xs) (tables B xs) s p (length out)) q in
      let l : length (part xs at.0 (length out)) ≡ length out = length_part xs at.0 (length out) (pay-inside B xs s p out q) in
      ends (settle-accepted (length out) _ out _ k.0
      ∙ ap (λ (x : List ℕ). gives (accepted (length out)) x)
      (sym (e ∙ ap (λ (x : List ℕ). sets out 0 x) (lent-part xs at.0 (length out)) ∙ sets-all out _ (sym l) ∙ ap (λ (x : BytePlace). part xs x.0 (length out)) k.1)))
