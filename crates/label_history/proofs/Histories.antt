-- Labels through a card's history: an event list is a list of card calls, so demand 3 covers it; and what an accepted judgement after any history tells of each named
-- slot. No contract cites this file. Assumes nothing.
use mathlib.Core.Path.{◌≡◌, refl, sym, ap, ◌∙◌, subst}
use mathlib.Core.Logic.{inl, inr}
use mathlib.Core.Bool.{true}
use mathlib.Core.List.{List, [], ◌∷◌, Memᴰ}
use Prim.Native.Nat.{ℕ, zero, suc, ◌+◌, ◌-◌, ◌^◌, ◌≤◌, ◌<◌}
use native.Mathlib.Omega.{arith}
use lib.ListN.{length, get_or}
use lib.Seq.{drop-cons}
use Rattle.units.specs.Meanings.{means}
use Rattle.units.specs.declared.Guid.{Guid}
use Rattle.units.specs.Held.{GuidHeld}
use Rattle.units.specs.Answer.{Answer, accepted, refused, Outcome}
use Rattle.units.specs.Bytes.{part}
use Rattle.units.specs.Guids.{guid_bytes}
use Rattle.units.proofs.Chains.{number-of}
use Rattle.partition.specs.Array.{Found}
use Rattle.tables.specs.Lens.{tables}
use Rattle.tables.specs.Entries.{entry, used}
use Rattle.tables.specs.Places.{back_array}
use Rattle.card.specs.Calls.{used_check, lay_outcome}
use Rattle.card.proofs.PayWays.{used-room}
use Rattle.history.specs.History.{Op, call, run, told, told_byte, empty_slot, place_in, Told}
use Rattle.history.proofs.State.{state-front}
use Rattle.history.proofs.Steps.{Holds, steps, lay-holds}
use Rattle.history.proofs.Others.{payload-at, demand-3-bytes}
use Rattle.history.proofs.Payload.{pay-ok}
use Rattle.history.proofs.Demand.{demand-3, run_length}
use Rattle.label.specs.declared.Label.{Label}
use Rattle.label.specs.declared.Dated.{Dated}
use Rattle.label.specs.Labels.{label_of}
use Rattle.label.specs.Calls.{label_place, label_part, write_label_outcome}
use Rattle.label.specs.Judging.{one_date, judge_answer}
use Rattle.label.specs.Sets.{Carries}
use Rattle.label.proofs.Ways.{never-24, read-labelled}
use Rattle.label.proofs.Shows.{read-used}
use Rattle.label.proofs.Theorems.{accepted-set, write-is-payload, refused-write}
use Rattle.label_history.specs.Events.{Event, card, label, run_all, as_payload, calls_of, told_bytes, ToldDate}

-- ---- events are calls

-- one label write, and then the rest
one-write : (B : ℕ) (xs : List ℕ) (s : ℕ) (l : Label) (os : List Op) (r : Answer Unit) → (write_label_outcome B xs s l).answer ≡ r
    → run B os (write_label_outcome B xs s l).image ≡ run B (as_payload r s l os) xs
unfolding run
one-write B xs s l os (accepted u) e = ap (λ (o : Outcome (Answer ℕ)). run B os o.image) (sym (write-is-payload B xs s l e))
one-write B xs s l os (refused w) e = ap (λ (i : List ℕ). run B os i) (refused-write B xs s l e)

-- the image after events is the image after these calls
pub run-calls : (B : ℕ) (es : List Event) (xs : List ℕ) → run_all B es xs ≡ run B (calls_of B es xs) xs
unfolding run_all calls_of run
run-calls B [] xs = refl
run-calls B (card o ∷ es) xs = run-calls B es (call B o xs).image
run-calls B (label s l ∷ es) xs =
    run-calls B es (write_label_outcome B xs s l).image ∙ one-write B xs s l (calls_of B es (write_label_outcome B xs s l).image) (write_label_outcome B xs s l).answer refl

-- so demand 3 holds of a history with label writes among the calls
pub demand-3-labels : (B : ℕ) (xs : List ℕ) (g : Guid) (es : List Event) → (lay_outcome B xs g).answer ≡ accepted tt → GuidHeld g → length xs < 2 ^ 64
    → Told B g (calls_of B es (lay_outcome B xs g).image) (lay_outcome B xs g).image
demand-3-labels B xs g es a gh fits = demand-3 B xs g (calls_of B es (lay_outcome B xs g).image) a gh fits

-- ---- a label by what was told of its bytes

part-cons : (xs : List ℕ) (i n : ℕ) → i < length xs → part xs i (suc n) ≡ get_or xs i 0 ∷ part xs (i + 1) n
part-cons xs i n h = let e : i + 1 ≡ suc i = omega arith in rw (e, drop-cons xs i 0 h)

module _ (B : ℕ) (xs : List ℕ) (g : Guid) (os : List Op) (a : (lay_outcome B xs g).answer ≡ accepted tt) where
  bytes-part : (n i : ℕ) → i + n ≤ length xs → B + B + 16384 ≤ i → i + n ≤ back_array B (length xs) → part (run B os (lay_outcome B xs g).image) i n ≡ told_bytes B os (lay_outcome B xs g).image i n
  unfolding told_bytes
  bytes-part zero i f lo hi = refl
  bytes-part (suc n) i f lo hi =
      let h : i < length (run B os (lay_outcome B xs g).image) = omega (arith, run_length B xs g os a) in
      part-cons (run B os (lay_outcome B xs g).image) i n h
      ∙ ap (λ (x : ℕ). x ∷ part (run B os (lay_outcome B xs g).image) (i + 1) n) (demand-3-bytes B xs g os a i (inr lo, inl (omega arith)))
      ∙ ap (λ (l : List ℕ). told_byte B os (lay_outcome B xs g).image (λ (s : ℕ). empty_slot) i (get_or (lay_outcome B xs g).image i 0) ∷ l) (bytes-part n (i + 1) (omega arith) (omega arith) (omega arith))

  slots : ℕ → Found
  slots s = told B os (lay_outcome B xs g).image s empty_slot

  holds : Holds B (length (run B os (lay_outcome B xs g).image)) (guid_bytes g) slots (run B os (lay_outcome B xs g).image)
  unfolding slots
  holds =
      subst (λ (n : ℕ). Holds B n (guid_bytes g) (λ (s : ℕ). told B os (lay_outcome B xs g).image s empty_slot) (run B os (lay_outcome B xs g).image)) (sym (run_length B xs g os a))
      (steps os (lay_outcome B xs g).image (λ (s : ℕ). empty_slot) (lay-holds B xs g a))

  module _ {d : Dated} {s : ℕ} (c : Carries B (run B os (lay_outcome B xs g).image) d s) where
    slot-used : (used_check B (length (run B os (lay_outcome B xs g).image)) (tables B (run B os (lay_outcome B xs g).image)) s).number ≡ 0
    slot-used = read-used B (run B os (lay_outcome B xs g).image) s c.agrees.reads

    is-present : (told B os (lay_outcome B xs g).image s empty_slot).present ≡ true
    unfolding slots
    is-present = sym (holds.kept s).seen ∙ ap used (sym (ap (λ (l : List ℕ). entry l (s - 1)) (state-front holds.state) ∙ holds.places s c.low c.high)) ∙ c.used

    -- the 13 bytes that were read are those that were told
    label-told : label_part B (run B os (lay_outcome B xs g).image) s ≡ told_bytes B os (lay_outcome B xs g).image (place_in B (told B os (lay_outcome B xs g).image s empty_slot) 0) 13
    unfolding slots
    label-told =
        let r = run_length B xs g os a in
        let p = pay-ok B _ (tables B (run B os (lay_outcome B xs g).image)) s 0 13 (number-of (never-24 B (run B os (lay_outcome B xs g).image) s) ∙ slot-used) in
        let room = used-room B (run B os (lay_outcome B xs g).image) s slot-used in
        let q = payload-at holds s 0 c.low c.high in
        let hi : label_place B (tables B (run B os (lay_outcome B xs g).image)) s + 13 ≤ back_array B (length xs) = subst (λ (n : ℕ). label_place B (tables B (run B os (lay_outcome B xs g).image)) s + 13 ≤ back_array B n) r p.high in
        bytes-part 13 (label_place B (tables B (run B os (lay_outcome B xs g).image)) s) (omega (arith, p.high, room.seam, room.top, r)) p.low hi
        ∙ ap (λ (i : ℕ). told_bytes B os (lay_outcome B xs g).image i 13) q

  -- 5. After a lay and any calls, an accepted judgement means that each named slot holds a partition, and that the 13 bytes told of its start are a label with that date
  -- and style revision.
  pub judged-told : {d : Dated} (ss : List ℕ) → judge_answer B (run B os (lay_outcome B xs g).image) ss ≡ one_date d → (s : ℕ) → Memᴰ s ss → ToldDate B os (lay_outcome B xs g).image d s
  judged-told {d} ss e s m =
      let c = accepted-set B (run B os (lay_outcome B xs g).image) ss e s m in
      record { present = is-present c; label = c.agrees.label; reads = ap label_of (sym (label-told c)) ∙ read-labelled B (run B os (lay_outcome B xs g).image) s (slot-used c) refl ∙ c.agrees.reads; dated = c.agrees.dated }

-- the same with label writes among the calls
pub judged-after : (B : ℕ) (xs : List ℕ) (g : Guid) (es : List Event) → (lay_outcome B xs g).answer ≡ accepted tt → {d : Dated} (ss : List ℕ)
    → judge_answer B (run_all B es (lay_outcome B xs g).image) ss ≡ one_date d → (s : ℕ) → Memᴰ s ss → ToldDate B (calls_of B es (lay_outcome B xs g).image) (lay_outcome B xs g).image d s
judged-after B xs g es a ss e s m =
    judged-told B xs g (calls_of B es (lay_outcome B xs g).image) a ss (ap (λ (i : List ℕ). judge_answer B i ss) (sym (run-calls B es (lay_outcome B xs g).image)) ∙ e) s m
