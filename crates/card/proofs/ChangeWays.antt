-- The ways out of put's and clear's tests, one law for each: what the tests told, and what the definitions then give. No contract cites this file. Assumes nothing.
use mathlib.Core.Path.{◌≡◌, refl, sym, ap, ap₂, ◌∙◌, subst}
use mathlib.Core.Bool.{Bool, true, false, not, ◌||◌}
use mathlib.Core.List.{List}
use Prim.Native.Nat.{ℕ, ◌+◌, ◌-◌, ◌≤◌, ◌<◌}
use native.Mathlib.Omega.{arith}
use borrow.Author.Tests.{lt-ltb, le-ltb, not-false}
use lib.Dec.{eqb, ltb}
use Rattle.units.specs.declared.why.Why.{Why}
use Rattle.units.specs.declared.Refusal.TheVariants.{BadSlot, NilType, BadRange, OutsideUsable, Overlap, TwinGuid, ReservedFlag}
use Rattle.units.specs.Answer.{accepted, plain, of_slot, fine, when, or_else, pick, settle, Outcome, gives, Ends, ends, Answer}
use Rattle.units.specs.Meanings.{card_means, verdict_of}
use Rattle.units.proofs.Chains.{here, on, found, past, else-first, else-second, none-when, Named, named-is, named-when, named-else, verdict-judged, settle-accepted, settle-refused, judged-some}
use Rattle.partition.specs.Format.{first_at, last_at, nil_type_at}
use Rattle.tables.specs.Places.{first_usable_of, last_usable_of}
use Rattle.tables.specs.Lens.{Tables}
use Rattle.tables.specs.Entries.{entry, used, first_of, last_of, part_guid_of, overlaps, first_twin}
use Rattle.tables.specs.Check.{check, bad_slot}
use Rattle.tables.proofs.Orders.{split, lowest-is, lowest-none}
use Rattle.checking.proofs.CheckWays.{named-check}
use Rattle.card.specs.Calls.{record_check, first_overlap, overlap_check, twin_check, flag_check, entry_check, put_check}

-- ---- the record: 18, 19, 20, 21

module _ (B n s : ℕ) (e : List ℕ) {z : Bool} (kz : z ≡ bad_slot s) where
  pub record-18 : z ≡ true → plain 18 ≡ record_check B n s e
  unfolding record_check
  record-18 q = here _ refl (sym kz ∙ q)

  module _ (qz : z ≡ false) {u : Bool} (ku : u ≡ nil_type_at e 0) where
    pub record-19 : u ≡ true → plain 19 ≡ record_check B n s e
    unfolding record_check used
    record-19 q = on (plain 18) (sym kz ∙ qz) (here _ refl (ap not (ap not (sym ku ∙ q))))

    module _ (qu : u ≡ false) {f l : ℕ} (kf : f ≡ first_at e 0) (kl : l ≡ last_at e 0) where
      pub record-20 : l < f → plain 20 ≡ record_check B n s e
      unfolding record_check used first_of last_of
      record-20 q = on (plain 18) (sym kz ∙ qz) (on (plain 19) (ap not (ap not (sym ku ∙ qu))) (here _ refl (lt-ltb (last_at e 0) (first_at e 0) (omega arith))))

      module _ (o : f ≤ l) {low high : ℕ} (klow : low ≡ first_usable_of B) (khigh : high ≡ last_usable_of B n) where
        pub record-21 : ltb f low || ltb high l ≡ true → plain 21 ≡ record_check B n s e
        unfolding record_check used first_of last_of
        record-21 q =
            let x : plain 21 ≡ when (ltb (first_at e 0) (first_usable_of B) || ltb (last_usable_of B n) (last_at e 0)) (plain 21) = rw (← kf, ← kl, ← klow, ← khigh, q) in
            on (plain 18) (sym kz ∙ qz) (on (plain 19) (ap not (ap not (sym ku ∙ qu))) (on (plain 20) (le-ltb (last_at e 0) (first_at e 0) (omega arith)) x))

        pub record-fine : ltb f low || ltb high l ≡ false → fine ≡ record_check B n s e
        unfolding record_check used first_of last_of
        record-fine q =
            let x : fine ≡ when (ltb (first_at e 0) (first_usable_of B) || ltb (last_usable_of B n) (last_at e 0)) (plain 21) = rw (← kf, ← kl, ← klow, ← khigh, q) in
            on (plain 18) (sym kz ∙ qz) (on (plain 19) (ap not (ap not (sym ku ∙ qu))) (on (plain 20) (le-ltb (last_at e 0) (first_at e 0) (omega arith)) x))

pub record-good : (B n s : ℕ) (e : List ℕ) → (record_check B n s e).number ≡ 0 → (bad_slot s ≡ false) × (used e ≡ true)
unfolding record_check
record-good B n s e h =
    let k = else-second (when (bad_slot s) (plain 18)) _ h in
    (none-when (bad_slot s) (plain 18) tt (else-first (when (bad_slot s) (plain 18)) _ h), not-false _ (none-when (not (used e)) (plain 19) tt (else-first (when (not (used e)) (plain 19)) _ k)))

-- ---- 22

-- the loop over the entries
module _ (arr : List ℕ) (k : ℕ) (e : List ℕ) where
  pub overlap-more : (j : ℕ) → ((i : ℕ) → i < j → pick (eqb i k) false (overlaps e (entry arr i)) ≡ false) → pick (eqb j k) false (overlaps e (entry arr j)) ≡ false
      → (i : ℕ) → i < j + 1 → pick (eqb i k) false (overlaps e (entry arr i)) ≡ false
  overlap-more j low q i h = split j i (λ a. let d : j ≡ i = omega arith in subst (λ (x : ℕ). pick (eqb x k) false (overlaps e (entry arr x)) ≡ false) d q) (λ a. low i a)

  pub overlap-first : (j : ℕ) → j < 128 → ((i : ℕ) → i < j → pick (eqb i k) false (overlaps e (entry arr i)) ≡ false) → pick (eqb j k) false (overlaps e (entry arr j)) ≡ true
      → j ≡ first_overlap arr k e
  unfolding first_overlap
  overlap-first j h low q = lowest-is 128 (λ (i : ℕ). pick (eqb i k) false (overlaps e (entry arr i))) j h low q

  pub overlap-none : (j : ℕ) → 128 ≤ j → ((i : ℕ) → i < j → pick (eqb i k) false (overlaps e (entry arr i)) ≡ false) → 128 ≡ first_overlap arr k e
  unfolding first_overlap
  overlap-none j h low = sym (lowest-none 128 (λ (i : ℕ). pick (eqb i k) false (overlaps e (entry arr i))) (λ i q. low i (omega arith)))

-- ---- 25

-- by the array, the place and the GUID that the code has
pub twin-by : {x y : List ℕ} {i k : ℕ} {g h : List ℕ} → x ≡ y → i ≡ k → g ≡ h → first_twin x i g ≡ first_twin y k h
twin-by {y = y} {i} {g = g} p q r = ap (λ (l : List ℕ). first_twin l i g) p ∙ ap₂ (λ (j : ℕ) (l : List ℕ). first_twin y j l) q r

-- ---- put's tests in their order

module _ (B n : ℕ) (arr : List ℕ) (s : ℕ) (e : List ℕ) (reserved : ℕ) {w : Why} (g : w ≡ record_check B n s e) where
  pub entry-wrong : (w.number ≡ 0 → ⊥) → w ≡ entry_check B n arr s e reserved
  entry-wrong d = found _ g d

  pub entry-slots : {o t f u r : Why} → w.number ≡ 0 → o ≡ overlap_check arr (s - 1) e → t ≡ twin_check arr (s - 1) e → f ≡ flag_check reserved → u ≡ or_else t f → r ≡ or_else o u
      → r ≡ entry_check B n arr s e reserved
  entry-slots z a b d p q = past g z (q ∙ ap₂ or_else a (p ∙ ap₂ or_else b d))

module _ (B n : ℕ) (t : Tables) (s : ℕ) (e : List ℕ) (reserved : ℕ) {f : Why} (g : f ≡ check B n t) where
  pub put-checked : (f.number ≡ 0 → ⊥) → f ≡ put_check B n t s e reserved
  unfolding put_check
  put-checked d = found _ g d

  pub put-entry : {w : Why} → f.number ≡ 0 → w ≡ entry_check B n t.front.array s e reserved → w ≡ put_check B n t s e reserved
  unfolding put_check
  put-entry o q = past g o q

pub put-good : (B n : ℕ) (t : Tables) (s : ℕ) (e : List ℕ) (reserved : ℕ) → (put_check B n t s e reserved).number ≡ 0 → ((check B n t).number ≡ 0) × (bad_slot s ≡ false)
unfolding put_check
put-good B n t s e reserved h =
    (else-first (check B n t) _ h, (record-good B n s e (else-first (record_check B n s e) _ (else-second (check B n t) _ h))).0)

named-record : (B n s : ℕ) (e : List ℕ) → Named (record_check B n s e)
unfolding record_check
named-record B n s e =
    let out : Bool = ltb (first_of e) (first_usable_of B) || ltb (last_usable_of B n) (last_of e) in
    named-else (when (bad_slot s) (plain 18)) _ (named-when (bad_slot s) _ (named-is BadSlot))
    (named-else (when (not (used e)) (plain 19)) _ (named-when (not (used e)) _ (named-is NilType))
    (named-else (when (ltb (last_of e) (first_of e)) (plain 20)) _ (named-when (ltb (last_of e) (first_of e)) _ (named-is BadRange)) (named-when out _ (named-is OutsideUsable))))

pub named_put : (B n : ℕ) (t : Tables) (s : ℕ) (e : List ℕ) (reserved : ℕ) → Named (put_check B n t s e reserved)
unfolding put_check overlap_check twin_check flag_check
named_put B n t s e reserved =
    let j : ℕ = first_overlap t.front.array (s - 1) e in
    let k : ℕ = first_twin t.front.array (s - 1) (part_guid_of e) in
    named-else (check B n t) _ (named-check B n t)
    (named-else (record_check B n s e) _ (named-record B n s e)
    (named-else (when (ltb j 128) (of_slot 22 (j + 1))) _ (named-when (ltb j 128) _ (named-is (Overlap (record { 0 = j + 1 }))))
    (named-else (when (ltb k 128) (of_slot 25 (k + 1))) _ (named-when (ltb k 128) _ (named-is (TwinGuid (record { 0 = k + 1 }))))
    (named-when (not (eqb reserved 0)) _ (named-is ReservedFlag)))))

-- ---- the ends of put and clear

-- a refusal by its name, which changes nothing, and an accepted call
module _ (w : Why) (k : Named w) {f : Why} (e : f ≡ w) (old new : List ℕ) where
  pub refuses : (f.number ≡ 0 → ⊥) → Ends (settle w tt old new) (card_means (verdict_of f)) old
  refuses d =
      let n : w.number ≡ 0 → ⊥ = λ z. d (ap (λ (x : Why). x.number) e ∙ z) in
      let o = settle-refused {A = Unit} tt w old new n in
      record {
        answer = ap (λ (x : Why). card_means (verdict_of x)) e ∙ verdict-judged w k ∙ judged-some tt w n ∙ sym (ap (λ (x : Outcome (Answer Unit)). x.answer) o);
        image = sym (ap (λ (x : Outcome (Answer Unit)). x.image) o);
      }

  pub accepts : {i : List ℕ} → f.number ≡ 0 → i ≡ new → Ends {A = Answer Unit} (settle w tt old new) (accepted tt) i
  accepts z q =
      ends (settle-accepted {A = Unit} tt w old new (sym (ap (λ (x : Why). x.number) e) ∙ z) ∙ ap (λ (x : List ℕ). gives {A = Answer Unit} (accepted tt) x) (sym q))
