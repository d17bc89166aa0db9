-- Demand 3: after an accepted lay and any list of puts, clears and payload writes with any arguments, refused ones among them, the image is a card whose
-- slots are those that the history gives. No contract cites this file. Assumes nothing.
use mathlib.Core.Path.{◌≡◌, sym, ap, ◌∙◌, subst}
use mathlib.Core.Logic.{◌⊎◌, inl, inr}
use mathlib.Core.Bool.{true, false, ◌&&◌}
use mathlib.Core.List.{List}
use Prim.Native.Nat.{ℕ, ◌-◌, ◌^◌, ◌≤◌, ◌<◌}
use native.Mathlib.Omega.{arith}
use borrow.Author.Tests.{le-leb}
use lib.Dec.{leb}
use lib.ListN.{length}
use Rattle.units.proofs.Chains.{judged-none}
use Rattle.units.specs.declared.Guid.{Guid}
use Rattle.units.specs.Answer.{accepted}
use Rattle.units.specs.Bytes.{same}
use Rattle.units.specs.Guids.{guid_bytes}
use Rattle.units.specs.Held.{GuidHeld}
use Rattle.partition.specs.Array.{Found}
use Rattle.tables.specs.Lens.{tables_at, OutsideTables}
use Rattle.tables.specs.Headers.{card_of}
use Rattle.tables.specs.Check.{check}
use Rattle.tables.specs.Entries.{entry, used, first_of, last_of, part_guid_of, overlaps, bears, twins}
use Rattle.card.specs.Calls.{lay_outcome}
use Rattle.listing.specs.Listing.{count_answer}
use Rattle.history.specs.History.{Op, run, empty_slot, told, filled_from, array_of, Within, Apart, Card, Told}
use Rattle.tables.proofs.Orders.{split, both, same_of}
use Rattle.tables.proofs.Room.{Room}
use Rattle.tables.proofs.EntryLaws.{Inside, ok-used}
use Rattle.tables.proofs.Good.{room-ok}
use Rattle.history.proofs.State.{held_back, state-check}
use Rattle.history.proofs.Steps.{Holds, slot-first, slot-last, slot-guid, array_told, small-array, steps, lay-holds}
use Rattle.history.proofs.Readers.{reads-front, reads-back}
use Rattle.history.proofs.Others.{demand-3-bytes}
use Rattle.history.proofs.Listings.{lists-held, counts-held}

-- two used entries that do not overlap have no block in common
pub apart-disjoint : (e f : List ℕ) → used e ≡ true → used f ≡ true → overlaps e f ≡ false → (last_of e < first_of f) ⊎ (last_of f < first_of e)
unfolding overlaps
apart-disjoint e f u v h =
    split (first_of e) (last_of f)
    (λ a. split (first_of f) (last_of e) (λ b. absurd (never a b)) (λ b. inl b))
    (λ a. inr a)
  where
    never : first_of e ≤ last_of f → first_of f ≤ last_of e → ⊥
    never a b =
        let t : used e && (used f && (leb (first_of e) (last_of f) && leb (first_of f) (last_of e))) ≡ true = both u (both v (both (le-leb _ _ a) (le-leb _ _ b))) in
        let z : ◌≡◌ {A = ℕ} 0 1 = cc in omega arith

-- two used entries that are no twins have different GUIDs
pub single-differ : (e f : List ℕ) → used e ≡ true → used f ≡ true → twins e f ≡ false → part_guid_of e ≡ part_guid_of f → ⊥
unfolding twins bears
single-differ e f u v h q =
    let t : used e && (used f && same (part_guid_of f) (part_guid_of e)) ≡ true = both u (both v (same_of (sym q))) in
    let z : ◌≡◌ {A = ℕ} 0 1 = cc in omega arith

-- ---- a card by what its slots hold

module _ {B : ℕ} {xs : List ℕ} {bs : List ℕ} {slots : ℕ → Found} (h : Holds B (length xs) bs slots xs) where
  used-is : (s : ℕ) → 1 ≤ s → s ≤ 128 → (slots s).present ≡ true → used (entry h.array (s - 1)) ≡ true
  used-is s a b t = ap used (h.places s a b) ∙ (h.kept s).seen ∙ t

  slot-within : (s : ℕ) → 1 ≤ s → s ≤ 128 → (slots s).present ≡ true → Within B (length xs) (slots s).partition
  slot-within s a b t =
      let i : Inside B (length xs) (entry h.array (s - 1)) = ok-used B (length xs) _ (h.state.entries.each (s - 1) (omega arith)) (used-is s a b t) in
      let f = slot-first h s a b in
      let l = slot-last h s a b in
      record { order = omega (arith, i.order); low = omega (arith, i.low); high = omega (arith, i.high) }

  slots_apart : (s t : ℕ) → 1 ≤ s → s ≤ 128 → 1 ≤ t → t ≤ 128 → (s ≡ t → ⊥) → (slots s).present ≡ true → (slots t).present ≡ true
      → Apart (slots s).partition (slots t).partition
  slots_apart s t a b c d n u v =
      from
      (apart-disjoint _ _ (used-is s a b u) (used-is t c d v) (h.state.entries.apart (s - 1) (t - 1) (omega arith) (omega arith) (λ e. n (omega arith))))
    where
      from : (last_of (entry h.array (s - 1)) < first_of (entry h.array (t - 1))) ⊎ (last_of (entry h.array (t - 1)) < first_of (entry h.array (s - 1)))
          → Apart (slots s).partition (slots t).partition
      from (inl q) = inl (omega (arith, slot-last h s a b, slot-first h t c d))
      from (inr q) = inr (omega (arith, slot-last h t c d, slot-first h s a b))

  slots-single : (s t : ℕ) → 1 ≤ s → s ≤ 128 → 1 ≤ t → t ≤ 128 → (s ≡ t → ⊥) → (slots s).present ≡ true → (slots t).present ≡ true
      → (slots s).partition.part_guid ≡ (slots t).partition.part_guid → ⊥
  slots-single s t a b c d n u v q =
      single-differ _ _ (used-is s a b u) (used-is t c d v) (h.state.entries.single (s - 1) (t - 1) (omega arith) (omega arith) (λ e. n (omega arith)))
      (slot-guid h s a b ∙ ap guid_bytes q ∙ sym (slot-guid h t c d))

-- the check accepts it
holds-check : {B n : ℕ} {xs : List ℕ} {slots : ℕ → Found} (g : Guid) → Holds B n (guid_bytes g) slots xs → GuidHeld g → n < 2 ^ 64 → (check B n (tables_at B n xs)).number ≡ 0
holds-check g h gh fits = state-check h.state fits (held_back g gh) (small-array h)

pub card-of : {B : ℕ} {xs : List ℕ} {slots : ℕ → Found} (g : Guid) → Holds B (length xs) (guid_bytes g) slots xs → GuidHeld g → length xs < 2 ^ 64 → Card B g slots xs
card-of {B} {xs} {slots} g h gh fits =
    let r : Room B (length xs) = room-ok B (length xs) h.state.room in
    let c : (check B (length xs) (tables_at B (length xs) xs)).number ≡ 0 = holds-check g h gh fits in
    record {
      check = judged-none tt _ c;
      listing = judged-none _ _ c ∙ ap accepted (lists-held h);
      primary = reads-front B xs g slots h gh fits;
      backup = reads-back B xs g slots h gh fits;
      ground = omega (arith, r.first);
      roof = omega (arith, r.last);
      within = slot-within h;
      apart = slots_apart h;
      single = slots-single h;
    }

-- ---- demand 3

module _ (B : ℕ) (xs : List ℕ) (g : Guid) (os : List Op) (a : (lay_outcome B xs g).answer ≡ accepted tt) where
  run_holds : Holds B (length xs) (guid_bytes g) (λ (s : ℕ). told B os (lay_outcome B xs g).image s empty_slot) (run B os (lay_outcome B xs g).image)
  run_holds = steps os (lay_outcome B xs g).image (λ (s : ℕ). empty_slot) (lay-holds B xs g a)

  pub run_length : length (run B os (lay_outcome B xs g).image) ≡ length xs
  run_length = run_holds.state.size

  holds : Holds B (length (run B os (lay_outcome B xs g).image)) (guid_bytes g) (λ (s : ℕ). told B os (lay_outcome B xs g).image s empty_slot) (run B os (lay_outcome B xs g).image)
  holds =
      subst (λ (m : ℕ). Holds B m (guid_bytes g) (λ (s : ℕ). told B os (lay_outcome B xs g).image s empty_slot) (run B os (lay_outcome B xs g).image)) (sym run_length) run_holds

  pub demand-3 : GuidHeld g → length xs < 2 ^ 64 → Told B g os (lay_outcome B xs g).image
  demand-3 gh fits =
      let l : length (lay_outcome B xs g).image ≡ length xs = (lay-holds B xs g a).state.size in
      record {
        size = run_length ∙ sym l;
        card = card-of g holds gh (omega (arith, run_length));
        tables =
            ap (λ (m : ℕ). tables_at B m (run B os (lay_outcome B xs g).image)) l
            ∙ run_holds.state.tables
            ∙ ap (λ (a : List ℕ). card_of B (length xs) (guid_bytes g) a) (array_told run_holds)
            ∙ ap (λ (m : ℕ). card_of B m (guid_bytes g) (array_of (λ (s : ℕ). told B os (lay_outcome B xs g).image s empty_slot))) (sym l);
        bytes = λ i o. demand-3-bytes B xs g os a i (subst (λ (m : ℕ). OutsideTables B m i) l o);
      }

  -- the count is that of the filled slots
  pub demand-3-count : GuidHeld g → length xs < 2 ^ 64 → count_answer B (run B os (lay_outcome B xs g).image) ≡ accepted (length (filled_from (λ (s : ℕ). told B os (lay_outcome B xs g).image s empty_slot) 0 128))
  demand-3-count gh fits = judged-none _ _ (holds-check g holds gh (omega (arith, run_length))) ∙ ap accepted (counts-held holds)
