-- The ways out of the calls on one label, one law for each: what the tests and the card's calls told, and what the definitions then give; and that 24 never comes.
-- No contract cites this file. Assumes nothing.
use mathlib.Core.Path.{◌≡◌, refl, sym, ap, ◌∙◌}
use mathlib.Core.Bool.{Bool, true, false, not}
use mathlib.Core.List.{List}
use Prim.Native.Nat.{ℕ, zero, suc, ◌+◌, ◌*◌, ◌-◌, ◌≤◌, ◌<◌}
use native.Mathlib.Nat.{mul-le-mul_right}
use native.Mathlib.Omega.{arith}
use borrow.Author.Tests.{le-ltb, lt-ltb}
use lib.Dec.{eqb}
use lib.ListN.{length, get_or}
use lib.Seq.{sets}
use Rattle.units.specs.declared.BytePlace.{BytePlace}
use Rattle.units.specs.declared.why.Why.{Why}
use Rattle.units.specs.Answer.{Answer, accepted, refused, refuse, plain, fine, when, if_zero, or_else, judged, Outcome, settle, gives, Ends, ends}
use Rattle.units.specs.Bytes.{part, num, bytes, same}
use Rattle.units.proofs.Chains.{number-of, else-first, else-second, none-when, judged-none, judged-some, judged-zero, settle-accepted, settle-refused}
use Rattle.tables.specs.Lens.{tables}
use Rattle.tables.specs.Entries.{used, first_of, last_of}
use Rattle.tables.specs.Check.{slot_check}
use Rattle.tables.proofs.Room.{Room}
use Rattle.card.specs.Calls.{slot_entry, used_check, partition_bytes, payload_check, place_answer, payload_at, read_at}
use Rattle.card.proofs.PayWays.{used-room, used-spanned}
use Rattle.label.specs.declared.Label.{Label}
use Rattle.label.specs.Labels.{mark, good_date, label_at, label_check, label_of, label_in, label_bytes}
use Rattle.label.specs.Calls.{label_place, label_part, read_check, read_label_answer, write_check, write_label_outcome}

-- ---- answers

pub judged-refused : {A : Type 0} (v : A) (k : Why) {w : Why} → refused w ≡ judged k v → (k.number ≡ 0 → ⊥) × (w ≡ k)
unfolding judged
judged-refused {A} v k {w} e = by k.number e
  where
    by : (n : ℕ) → ◌≡◌ {A = Answer A} (refused w) (if_zero n (accepted v) (refused k)) → (n ≡ 0 → ⊥) × (w ≡ k)
    by zero q = let z : ◌≡◌ {A = ℕ} 0 1 = cc in absurd (omega arith)
    by (suc n) q = (λ z. omega arith, cc)

pub judged-accepted : {A : Type 0} (v : A) (k : Why) {x : A} → accepted x ≡ judged k v → (k.number ≡ 0) × (x ≡ v)
judged-accepted {A} v k {x} e =
    let z : k.number ≡ 0 = judged-zero v k x (sym e) in
    let q : ◌≡◌ {A = Answer A} (accepted x) (accepted v) = e ∙ judged-none v k z in
    (z, cc)

-- the first check refuses nothing: the second is the answer; it refuses: it is
pub else-past : (a b : Why) → a.number ≡ 0 → or_else a b ≡ b
unfolding or_else
else-past a b z = ap (λ (k : ℕ). if_zero k b a) z

pub else-stays : (a b : Why) → (a.number ≡ 0 → ⊥) → or_else a b ≡ a
unfolding or_else
else-stays a b d = by a.number d
  where
    by : (k : ℕ) → (k ≡ 0 → ⊥) → if_zero k b a ≡ a
    by zero q = absurd (q refl)
    by (suc k) q = refl

pub when-fine : (t : Bool) (w : Why) → t ≡ false → when t w ≡ fine
when-fine t w e = rw e

zero_or : (n : ℕ) {X : Type 0} → (n ≡ 0 → X) → ((n ≡ 0 → ⊥) → X) → X
zero_or zero f g = f refl
zero_or (suc n) f g = g (λ z. omega arith)

-- an outcome of an answer is that of one that is the same
pub handed-as : {A : Type 0} {o : Outcome (Answer A)} {r s : Answer A} {i : List ℕ} → r ≡ s → Ends o s i → Ends o r i
handed-as e q = record { answer = e ∙ q.answer; image = q.image }

-- ---- a partition has at least one block, so 13 bytes at its start never pass its end

module _ (B : ℕ) (xs : List ℕ) (s : ℕ) where
  -- of a used slot nothing is refused by 18 or 23
  used-none : (used_check B (length xs) (tables B xs) s).number ≡ 0 → used_check B (length xs) (tables B xs) s ≡ fine
  unfolding used_check
  used-none h =
      else-past (slot_check B (length xs) (tables B xs) s) _ (else-first (slot_check B (length xs) (tables B xs) s) _ h)
      ∙ when-fine _ (plain 23) (none-when (not (used (slot_entry (tables B xs) s))) (plain 23) tt (else-second (slot_check B (length xs) (tables B xs) s) _ h))

  label-fits : (used_check B (length xs) (tables B xs) s).number ≡ 0 → 13 ≤ partition_bytes B (slot_entry (tables B xs) s)
  label-fits h =
      let r : Room B (length xs) = used-room B xs s h in
      let p = used-spanned B xs s h in
      let o : 1 ≤ last_of (slot_entry (tables B xs) s) + 1 - first_of (slot_entry (tables B xs) s) = omega (arith, p.order) in
      let q : 1 * B ≤ (last_of (slot_entry (tables B xs) s) + 1 - first_of (slot_entry (tables B xs) s)) * B = mul-le-mul_right B o in
      omega (arith, r.least, q)

  -- a payload call on a label's 13 bytes has the numbers of the tests before 24, and no other
  pub never-24 : payload_check B (length xs) (tables B xs) s 0 13 ≡ used_check B (length xs) (tables B xs) s
  unfolding payload_check
  never-24 =
      zero_or (used_check B (length xs) (tables B xs) s).number
      (λ h. else-past (used_check B (length xs) (tables B xs) s) _ h ∙ when-fine _ (plain 24) (le-ltb (partition_bytes B (slot_entry (tables B xs) s)) (0 + 13) (label-fits h)) ∙ sym (used-none h))
      (λ d. else-stays (used_check B (length xs) (tables B xs) s) _ d)

  -- the same by the length of the bytes
  check-13 : {n : ℕ} → n ≡ 13 → payload_check B (length xs) (tables B xs) s 0 n ≡ used_check B (length xs) (tables B xs) s
  check-13 e = ap (λ (m : ℕ). payload_check B (length xs) (tables B xs) s 0 m) e ∙ never-24

-- ---- a read

module _ (B : ℕ) (xs : List ℕ) (s : ℕ) (out : List ℕ) {a : Answer ℕ} {i : List ℕ} (e : Ends (read_at B (length xs) xs s 0 out) a i) (l : length out ≡ 13) where
  pub read-refused : {w : Why} → a ≡ refused w → refused w ≡ read_label_answer B xs s
  unfolding read_at settle read_check
  read-refused {w} q =
      let k = judged-refused (length out) (payload_check B (length xs) (tables B xs) s 0 (length out)) (sym q ∙ e.answer) in
      let d : (used_check B (length xs) (tables B xs) s).number ≡ 0 → ⊥ = λ z. k.0 (number-of (check-13 B xs s l) ∙ z) in
      ap refused (k.1 ∙ check-13 B xs s l) ∙ sym (judged-some (label_at (label_part B xs s)) _ d)
      ∙ ap (λ (u : Why). judged u (label_at (label_part B xs s))) (sym (else-stays (used_check B (length xs) (tables B xs) s) _ d))

  pub read_found : {n : ℕ} → a ≡ accepted n → ((used_check B (length xs) (tables B xs) s).number ≡ 0) × (i ≡ label_part B xs s)
  unfolding read_at settle
  read_found {n} q =
      let k = judged-accepted (length out) (payload_check B (length xs) (tables B xs) s 0 (length out)) (sym q ∙ e.answer) in (
        sym (number-of (check-13 B xs s l)) ∙ k.0,
        e.image ∙ ap (λ (z : ℕ). if_zero z (part xs (label_place B (tables B xs) s) (length out)) out) k.0 ∙ ap (λ (m : ℕ). part xs (label_place B (tables B xs) s) m) l,
      )

-- of a used slot the bytes give the answer
pub read-labelled : (B : ℕ) (xs : List ℕ) (s : ℕ) → (used_check B (length xs) (tables B xs) s).number ≡ 0 → {a : Answer Label} → a ≡ label_of (label_part B xs s) → a ≡ read_label_answer B xs s
unfolding read_check
read-labelled B xs s z q = q ∙ ap (λ (w : Why). judged w (label_at (label_part B xs s))) (sym (else-past (used_check B (length xs) (tables B xs) s) _ z))

-- ---- the bytes of a label

module _ (xs : List ℕ) where
  pub label-34 : same (part xs 0 3) mark ≡ false → refuse 34 ≡ label_of xs
  unfolding label_check or_else judged
  label-34 e = rw e

  module _ (m : same (part xs 0 3) mark ≡ true) where
    pub label-35 : eqb (num xs 3 2) 1 ≡ false → refuse 35 ≡ label_of xs
    unfolding label_check or_else judged
    label-35 e = rw (m, e)

    module _ (v : eqb (num xs 3 2) 1 ≡ true) where
      pub label-36 : good_date (get_or xs 7 0) (get_or xs 8 0) ≡ false → refuse 36 ≡ label_of xs
      unfolding label_check or_else judged
      label-36 e = rw (m, v, e)

      pub label-good : good_date (get_or xs 7 0) (get_or xs 8 0) ≡ true → accepted (label_at xs) ≡ label_of xs
      unfolding label_check or_else judged
      label-good e = rw (m, v, e)

  pub label-2 : length xs < 13 → refuse 2 ≡ label_in xs
  unfolding label_in or_else judged
  label-2 h = rw (lt-ltb _ _ h)

  pub label-long : 13 ≤ length xs → label_of xs ≡ label_in xs
  unfolding label_in or_else judged
  label-long h = rw (le-ltb _ _ h)

pub length_label : (l : Label) → length (label_bytes l) ≡ 13
unfolding label_bytes bytes
length_label l = refl

-- ---- a write

module _ (B : ℕ) (xs : List ℕ) (s : ℕ) (l : Label) where
  pub write-refused : {w : Why} → ◌≡◌ {A = Answer BytePlace} (refused w) (place_answer B xs s 0 13) → Ends (write_label_outcome B xs s l) (refused w) xs
  unfolding write_label_outcome write_check
  write-refused {w} q =
      let k = judged-refused _ (payload_check B (length xs) (tables B xs) s 0 13) q in
      let d : (used_check B (length xs) (tables B xs) s).number ≡ 0 → ⊥ = λ z. k.0 (number-of (never-24 B xs s) ∙ z) in
      let e = else-stays (used_check B (length xs) (tables B xs) s) (when (not (good_date l.month l.day)) (plain 36)) d in
      ends (settle-refused tt _ xs _ (λ z. d (sym (number-of e) ∙ z)) ∙ ap (λ (u : Why). gives (refused u) xs) (e ∙ sym (k.1 ∙ never-24 B xs s)))

  module _ {at : BytePlace} (q : ◌≡◌ {A = Answer BytePlace} (accepted at) (place_answer B xs s 0 13)) where
    write-used : (used_check B (length xs) (tables B xs) s).number ≡ 0
    write-used = sym (number-of (never-24 B xs s)) ∙ (judged-accepted _ (payload_check B (length xs) (tables B xs) s 0 13) q).0

    pub write-36 : good_date l.month l.day ≡ false → Ends (write_label_outcome B xs s l) (refuse 36) xs
    unfolding write_label_outcome write_check
    write-36 h =
        let e : write_check B (length xs) (tables B xs) s l ≡ plain 36 = else-past (used_check B (length xs) (tables B xs) s) _ write-used ∙ ap (λ (t : Bool). when (not t) (plain 36)) h in
        ends (settle-refused tt _ xs _ (λ z. let y = sym (number-of e) ∙ z in omega arith) ∙ ap (λ (u : Why). gives (refused u) xs) e)

    stores : {ys : List ℕ} → ys ≡ label_bytes l → (payload_check B (length xs) (tables B xs) s 0 (length ys)).number ≡ 0
    stores y = ap (λ (m : ℕ). (payload_check B (length xs) (tables B xs) s 0 m).number) (ap length y ∙ length_label l) ∙ number-of (never-24 B xs s) ∙ write-used

    module _ {ys i : List ℕ} {a : Answer ℕ} (y : ys ≡ label_bytes l) (e : Ends (payload_at B (length xs) xs s 0 ys) a i) where
      -- what was placed is not refused by the write
      pub write-never : {w : Why} → a ≡ refused w → ⊥
      unfolding payload_at settle
      write-never r = (judged-refused (length ys) (payload_check B (length xs) (tables B xs) s 0 (length ys)) (sym r ∙ e.answer)).0 (stores y)

      pub write-stored : good_date l.month l.day ≡ true → Ends (write_label_outcome B xs s l) (accepted tt) i
      unfolding payload_at settle write_label_outcome write_check
      write-stored h =
          let g : write_check B (length xs) (tables B xs) s l ≡ fine = else-past (used_check B (length xs) (tables B xs) s) _ write-used ∙ ap (λ (t : Bool). when (not t) (plain 36)) h in
          let v : i ≡ sets xs (label_place B (tables B xs) s) (label_bytes l) =
          e.image ∙ ap (λ (z : ℕ). if_zero z (sets xs (label_place B (tables B xs) s) ys) xs) (stores y) ∙ ap (λ (x : List ℕ). sets xs (label_place B (tables B xs) s) x) y in
          ends (settle-accepted tt _ xs _ (number-of g) ∙ ap (λ (x : List ℕ). gives (accepted tt) x) (sym v))
