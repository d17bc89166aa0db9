-- The ways out of the calls on a slot map. No contract cites this file. Assumes nothing.
use mathlib.Core.Path.{◌≡◌, refl, sym, ap, ◌∙◌}
use mathlib.Core.Bool.{Bool, false, not}
use mathlib.Core.List.{List, ◌++◌, append-nil}
use Prim.Native.Nat.{ℕ, zero, suc, ◌+◌, ◌*◌, ◌-◌, ◌≤◌, ◌<◌}
use native.Mathlib.Omega.{arith}
use borrow.Author.Tests.{lt-ltb, le-ltb}
use lib.ListN.{length, take, drop, set, get_or, replicate}
use lib.Seq.{take_all}
use Rattle.std.specs.Prelude.{Result, Ok, Err}
use Rattle.units.specs.declared.why.Why.{Why}
use Rattle.units.specs.declared.Slot.{Slot}
use Rattle.units.specs.declared.Reason.{Reason}
use Rattle.units.specs.Answer.{Answer, accepted, refused, refuse, Outcome, Ends, if_zero}
use Rattle.units.specs.Bytes.{part, all_zero}
use Rattle.units.specs.Refusals.{why_at, reason_of}
use Rattle.units.proofs.Chains.{number-of, judged-none, judged-some}
use Rattle.units.proofs.Lists.{length-lent}
use Rattle.partition.specs.declared.Partition.{Partition}
use Rattle.partition.specs.Array.{present}
use Rattle.tables.specs.Lens.{Tables, Front, copy_in, tables}
use Rattle.tables.specs.Check.{check}
use Rattle.tables.proofs.Room.{Room}
use Rattle.tables.proofs.Copies.{lent-tables, part_at}
use Rattle.tables.proofs.Good.{room-ok, check-good}
use Rattle.checking.proofs.CheckWays.{named-check}
use Rattle.card.specs.Calls.{put_at, put_bytes, put_outcome, clear_at, clear_outcome}
use Rattle.history.specs.History.{taken}
use Rattle.history.proofs.State.{taken-zero}
use Rattle.history.proofs.Changes.{put-ok, clear-slot}
use Rattle.slot_map.specs.declared.SlotMap.{SlotMap}
use Rattle.slot_map.specs.Bits.{bits_of, first_false}
use Rattle.slot_map.specs.Map.{flags_from, flags_in, free_answer, made_means, made_of, made_answer}
use Rattle.slot_map.proofs.BitLaws.{length-bits, first-in, first_past, flags-more, map-none}
use Rattle.slot_map.proofs.Carry.{length-flags, flag_at}

-- ---- the lowest free slot

module _ (x y : ℕ) {a : ℕ} (e : a ≡ first_false (bits_of 64 x)) where
  pub free-low : {s : Slot} → a < 64 → s ≡ record { 0 = a + 1 } → accepted s ≡ free_answer (bits_of 64 x ++ bits_of 64 y)
  free-low {s} h q =
      let f : first_false (bits_of 64 x ++ bits_of 64 y) ≡ a = first-in (bits_of 64 x) (bits_of 64 y) (omega (arith, length-bits 64 x)) ∙ sym e in
      let k : a < 128 = omega arith in
      rw (f, lt-ltb a 128 k, q)

  module _ (h : 64 ≤ a) {b : ℕ} (g : b ≡ first_false (bits_of 64 y)) where
    both_words : first_false (bits_of 64 x ++ bits_of 64 y) ≡ 64 + b
    both_words = omega (arith, first_past (bits_of 64 x) (bits_of 64 y) (omega (arith, length-bits 64 x)), length-bits 64 x)

    pub free-high : {s : Slot} → b < 64 → s ≡ record { 0 = 64 + b + 1 } → accepted s ≡ free_answer (bits_of 64 x ++ bits_of 64 y)
    free-high {s} l q = let k : 64 + b < 128 = omega arith in rw (both_words, lt-ltb (64 + b) 128 k, q)

    pub free-full : 64 ≤ b → refuse 33 ≡ free_answer (bits_of 64 x ++ bits_of 64 y)
    free-full l = let k : 128 ≤ 64 + b = omega arith in rw (both_words, le-ltb (64 + b) 128 k)

-- ---- the making

-- the front table as the code lends it
abbrev pub lent : ℕ → List ℕ → List ℕ
lent B xs = take (B + (B + 16384) - B) (drop B xs)

module _ (B : ℕ) (xs : List ℕ) (h : (check B (length xs) (tables B xs)).number ≡ 0) where
  pub room_in : Room B (length xs)
  room_in = room-ok B (length xs) (check-good B (length xs) (tables B xs) h).room

  pub front-in : B + (B + 16384) ≤ length xs
  front-in = omega (arith, room_in.low, room_in.seam, room_in.top)

  pub lent-long : length (lent B xs) ≡ B + 16384
  lent-long = length-lent xs B (B + 16384) front-in

  pub flags-lent : flags_from (copy_in B Front (lent B xs)).array 0 128 ≡ flags_in B xs
  flags-lent = ap (λ (t : Tables). flags_from t.front.array 0 128) (lent-tables B (length xs) xs room_in refl)

-- the answer by its name
pub made-fine : (w : Why) (m : SlotMap) → w.number ≡ 0 → Ok m ≡ made_of w m
unfolding made_of
made-fine w m z = rw z

pub made-refused : (w : Why) (m : SlotMap) {r : Reason} → (w.number ≡ 0 → ⊥) → r ≡ reason_of w → Err r ≡ made_of w m
unfolding made_of
made-refused w m {r} d e = ap (λ (x : Reason). Err x) e ∙ by w.number d
  where
    by : (k : ℕ) → (k ≡ 0 → ⊥) → ◌≡◌ {A = Result SlotMap Reason} (Err (reason_of w)) (if_zero k (Ok m) (Err (reason_of w)))
    by zero d = absurd (d refl)
    by (suc k) d = refl

-- where something refuses, it means a refusal for that reason
pub made-means : (w : Why) (m : SlotMap) {r : Result SlotMap Reason} → (w.number ≡ 0 → ⊥) → r ≡ made_of w m → made_means r ≡ refused (why_at (reason_of w))
made-means w m d q = ap made_means (q ∙ sym (made-refused w m d refl))

module _ (B : ℕ) (xs : List ℕ) {f : Why} (e : f ≡ check B (length xs) (tables B xs)) where
  pub answer-refused : {r : Reason} → (f.number ≡ 0 → ⊥) → r ≡ reason_of f → refused (why_at r) ≡ made_answer B xs
  answer-refused {r} d q =
      let n : (check B (length xs) (tables B xs)).number ≡ 0 → ⊥ = λ z. d (number-of e ∙ z) in
      ap refused (ap why_at q ∙ ap (λ (w : Why). why_at (reason_of w)) e ∙ (named-check B (length xs) (tables B xs)).name n)
      ∙ sym (judged-some (flags_in B xs) (check B (length xs) (tables B xs)) n)

  pub answer-made : {fs : List Bool} → f.number ≡ 0 → fs ≡ flags_from (copy_in B Front (lent B xs)).array 0 128 → accepted fs ≡ made_answer B xs
  answer-made z g =
      let y : (check B (length xs) (tables B xs)).number ≡ 0 = sym (number-of e) ∙ z in
      ap accepted (g ∙ flags-lent B xs y) ∙ sym (judged-none (flags_in B xs) (check B (length xs) (tables B xs)) y)

-- the loop: the first k flags are made
module _ (arr : List ℕ) where
  pub made-start : bits_of 64 0 ++ bits_of 64 0 ≡ take 0 (flags_from arr 0 128) ++ replicate (128 - 0) false
  made-start = map-none

  pub made_more : (k : ℕ) → k < 128 → {m r : List Bool} {t : Bool} → t ≡ present arr 0 k → m ≡ take k (flags_from arr 0 128) ++ replicate (128 - k) false → r ≡ set m k t
      → r ≡ take (k + 1) (flags_from arr 0 128) ++ replicate (128 - (k + 1)) false
  made_more k h {m} {r} {t} e p q =
      let f : t ≡ get_or (flags_from arr 0 128) k false = e ∙ sym (flag_at arr k h) in
      q ∙ ap (λ (l : List Bool). set l k t) p ∙ ap (λ (b : Bool). set (take k (flags_from arr 0 128) ++ replicate (128 - k) false) k b) f
      ∙ flags-more (flags_from arr 0 128) k 128 h (length-flags arr 0 128)

  pub made-end : (k : ℕ) → k ≡ 128 → {m : List Bool} → m ≡ take k (flags_from arr 0 128) ++ replicate (128 - k) false → m ≡ flags_from arr 0 128
  made-end k z e =
      let d : 128 ≤ 128 = omega arith in
      (rw z at e) ∙ append-nil (take 128 (flags_from arr 0 128)) ∙ take_all 128 (flags_from arr 0 128) (omega (arith, length-flags arr 0 128))

-- the entry that the code reads of a front table is the array's
pub present-of : (B : ℕ) (ys : List ℕ) {at k : ℕ} → at ≡ B + 128 * k → k < 128 → {t : Bool} → t ≡ not (all_zero (part ys at 128)) → t ≡ present (copy_in B Front ys).array 0 k
unfolding copy_in
present-of B ys {at} {k} e h q = q ∙ ap (λ (l : List ℕ). not (all_zero l)) (sym (part_at ys B 16384 (0 + k * 128) 128 at (omega arith) (omega arith)))

-- ---- put and clear

module _ (B : ℕ) (xs : List ℕ) (s : ℕ) {a : Answer Unit} {ys : List ℕ} where
  -- a slot that such a call accepts is one of the card's
  pub put-slot : (p : Partition) → Ends (put_outcome B xs s p) a ys → a ≡ accepted tt → s - 1 < 128
  unfolding put_at
  put-slot p e q = (put-ok B (length xs) (tables B xs) s (put_bytes p) p.flags.reserved (taken-zero tt _ xs _ (ap taken (sym e.answer ∙ q)))).slot

  pub cleared-slot : Ends (clear_outcome B xs s) a ys → a ≡ accepted tt → s - 1 < 128
  unfolding clear_at
  cleared-slot e q = (clear-slot B (length xs) (tables B xs) s (taken-zero tt _ xs _ (ap taken (sym e.answer ∙ q)))).1

-- an answer that was handed on
pub ends_as : {o : Outcome (Answer Unit)} {a b : Answer Unit} {i : List ℕ} → Ends o a i → b ≡ a → Ends o b i
ends_as e q = record { answer = q ∙ e.answer; image = e.image }
