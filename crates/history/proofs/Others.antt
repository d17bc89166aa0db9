-- The bytes beside the tables, through one call and any list of calls: a put or a clear changes none of them, an accepted payload write makes the bytes
-- that it names the given ones and changes no other. No contract cites this file. Assumes nothing.
use mathlib.Core.Path.{◌≡◌, refl, sym, ap, ◌∙◌, subst}
use mathlib.Core.Logic.{inl, inr}
use mathlib.Core.Bool.{Bool, true, false, ◌&&◌}
use mathlib.Core.List.{List, [], ◌∷◌}
use Prim.Native.Nat.{ℕ, ◌+◌, ◌*◌, ◌-◌, ◌≤◌, ◌<◌}
use native.Mathlib.Omega.{arith}
use borrow.Author.Tests.{le-leb, lt-leb, lt-ltb, le-ltb}
use lib.Dec.{leb, ltb}
use lib.ListN.{length, get_or}
use lib.Seq.{sets}
use Rattle.units.specs.declared.Guid.{Guid}
use Rattle.units.specs.Answer.{accepted, pick}
use Rattle.units.proofs.Lists.{get_d-in, get_d-out}
use Rattle.partition.specs.Array.{Found}
use Rattle.tables.specs.Lens.{tables_at, with_tables_at, OutsideTables}
use Rattle.tables.specs.Entries.{zeros, entry, first_of}
use Rattle.tables.specs.Check.{check, slot_check}
use Rattle.card.specs.Calls.{changed, put_check, payload_check, payload_place, put_bytes, put_at, clear_at, payload_at, lay_outcome, clear_outcome}
use Rattle.history.specs.History.{Op, put, clear, payload, taken, done_at, call, run, empty_slot, after, covers, after_byte, told_byte}
use Rattle.tables.proofs.Orders.{Outside, side, by-test}
use Rattle.tables.proofs.Room.{Room}
use Rattle.tables.proofs.LensLaws.{Whole, with_byte}
use Rattle.tables.proofs.EntryLaws.{length-zeros, length-set-entry}
use Rattle.tables.proofs.Good.{room-ok, check-good, card-whole, accepted-array}
use Rattle.history.proofs.State.{accepted-image, taken-zero, untaken-image, state-front}
use Rattle.history.proofs.Changes.{put-ok, clear-check, clear-slot}
use Rattle.history.proofs.Payload.{pays, payload-image, pay-fits}
use Rattle.history.proofs.Records.{length-put}
use Rattle.history.proofs.Steps.{Holds, slot-first, step, lay-holds}

pub sets-byte : (xs : List ℕ) (at : ℕ) (ys : List ℕ) (i : ℕ) → at + length ys ≤ length xs
    → get_or (sets xs at ys) i 0 ≡ pick (covers at (length ys) i) (get_or ys (i - at) 0) (get_or xs i 0)
unfolding covers
sets-byte xs at ys i h = side at (length ys) i out (λ k b e. here k b e)
  where
    out : Outside at (length ys) i → get_or (sets xs at ys) i 0 ≡ pick (leb at i && ltb i (at + length ys)) (get_or ys (i - at) 0) (get_or xs i 0)
    out (inl q) = get_d-out xs at ys i (inl q) ∙ rw (lt-leb at i q)
    out (inr q) = let z : at ≤ i = omega arith in get_d-out xs at ys i (inr q) ∙ rw (le-leb at i z, le-ltb i (at + length ys) q)

    here : (k : ℕ) → k < length ys → i ≡ at + k → get_or (sets xs at ys) i 0 ≡ pick (leb at i && ltb i (at + length ys)) (get_or ys (i - at) 0) (get_or xs i 0)
    here k b e =
        let z : at ≤ i = omega arith in
        let y : i < at + length ys = omega arith in
        let w : k ≡ i - at = omega arith in
        ap (λ (j : ℕ). get_or (sets xs at ys) j 0) e ∙ get_d-in xs at ys k h b ∙ ap (λ (j : ℕ). get_or ys j 0) w ∙ rw (le-leb at i z, lt-ltb i (at + length ys) y)

changed-whole : (B n : ℕ) (xs : List ℕ) → length xs ≡ n → (s : ℕ) (e : List ℕ) → (check B n (tables_at B n xs)).number ≡ 0 → s - 1 < 128 → length e ≡ 128 → Whole B (changed B n (tables_at B n xs) s e)
unfolding changed
changed-whole B n xs l s e c p le =
    let r : Room B n = room-ok B n (check-good B n (tables_at B n xs) c).room in
    card-whole B n _ _ (omega arith) (length-set-entry _ (s - 1) e (accepted-array B n xs l c) p le)

-- neither put nor clear changes a byte beside the tables, whatever the image and whatever they answer
module _ (B n : ℕ) (xs : List ℕ) (l : length xs ≡ n) (s : ℕ) where
  change-beside : (e : List ℕ) → length e ≡ 128 → (check B n (tables_at B n xs)).number ≡ 0 → s - 1 < 128
      → (i : ℕ) → OutsideTables B n i → get_or (with_tables_at B n xs (changed B n (tables_at B n xs) s e)) i 0 ≡ get_or xs i 0
  change-beside e le c p i o =
      with_byte B n (room-ok B n (check-good B n (tables_at B n xs) c).room) xs l _ (changed-whole B n xs l s e c p le) i o.0 o.1

  pub put-beside : (e : List ℕ) (reserved : ℕ) → length e ≡ 128 → (i : ℕ) → OutsideTables B n i → get_or (put_at B n xs s e reserved).image i 0 ≡ get_or xs i 0
  unfolding put_at
  put-beside e reserved le i o =
      by-test (taken (put_at B n xs s e reserved).answer)
      (λ q.
      let z : (put_check B n (tables_at B n xs) s e reserved).number ≡ 0 = taken-zero tt _ _ _ q in
      let k = put-ok B n (tables_at B n xs) s e reserved z in
      ap (λ (x : List ℕ). get_or x i 0) (accepted-image tt _ xs _ z) ∙ change-beside e le k.card k.slot i o)
      (λ q. ap (λ (x : List ℕ). get_or x i 0) (untaken-image tt _ _ _ q))

  pub clear-beside : (i : ℕ) → OutsideTables B n i → get_or (clear_at B n xs s).image i 0 ≡ get_or xs i 0
  unfolding clear_at
  clear-beside i o =
      by-test (taken (clear_at B n xs s).answer)
      (λ q.
      let z : (slot_check B n (tables_at B n xs) s).number ≡ 0 = taken-zero tt _ _ _ q in
      ap (λ (x : List ℕ). get_or x i 0) (accepted-image tt _ xs _ z)
      ∙ change-beside (zeros 128) (length-zeros 128) (clear-check B n (tables_at B n xs) s z) (clear-slot B n (tables_at B n xs) s z).1 i o)
      (λ q. ap (λ (x : List ℕ). get_or x i 0) (untaken-image tt _ _ _ q))

-- clearing a slot leaves every byte outside the two tables: the payload of the partition stays
pub cleared-payload-stays : (B : ℕ) (xs : List ℕ) (s i : ℕ) → OutsideTables B (length xs) i → get_or (clear_outcome B xs s).image i 0 ≡ get_or xs i 0
cleared-payload-stays B xs s i o = clear-beside B (length xs) xs refl s i o

-- a payload write goes to its place in the partition that the slot holds
pub payload-at : {B n : ℕ} {g xs : List ℕ} {slots : ℕ → Found} → Holds B n g slots xs → (s p : ℕ) → 1 ≤ s → s ≤ 128
    → payload_place B (tables_at B n xs) s p ≡ (slots s).partition.first_lba.0 * B + p
payload-at {B} {n} {g} {xs} {slots} h s p a b =
    ap (λ (k : ℕ). k * B + p) (ap (λ (l : List ℕ). first_of (entry l (s - 1))) (state-front h.state) ∙ slot-first h s a b)

module _ {B n : ℕ} {g xs : List ℕ} {slots : ℕ → Found} (h : Holds B n g slots xs) (i : ℕ) (o : OutsideTables B n i) where
  l : length xs ≡ n
  l = h.state.size

  payload-byte : (s a : ℕ) (ys : List ℕ) (t : Bool) → taken (payload_at B n xs s a ys).answer ≡ t
      → get_or (payload_at B n xs s a ys).image i 0 ≡ after_byte B t (payload s a ys) slots i (get_or xs i 0)
  unfolding payload_at
  payload-byte s a ys true q =
      let z : (payload_check B n (tables_at B n xs) s a (length ys)).number ≡ 0 = taken-zero (length ys) _ _ _ q in
      let k = pays B n xs l s a ys z in
      ap (λ (x : List ℕ). get_or x i 0) (payload-image B n xs l s a ys z)
      ∙ sets-byte xs _ ys i (pay-fits B n xs l s a ys z)
      ∙ ap (λ (at : ℕ). pick (covers at (length ys) i) (get_or ys (i - at) 0) (get_or xs i 0)) (payload-at h s a k.one (omega (arith, k.one, k.slot)))
  payload-byte s a ys false q = ap (λ (x : List ℕ). get_or x i 0) (untaken-image (length ys) _ _ _ q)

  -- an accepted put or clear tells a byte nothing, and neither does a refused one
  untold : (c : Op) (t : Bool) → (after_byte B true c slots i (get_or xs i 0) ≡ get_or xs i 0) → after_byte B t c slots i (get_or xs i 0) ≡ get_or xs i 0
  untold c true e = e
  untold c false e = refl

  byte_at : (c : Op) → get_or (done_at B n c xs).image i 0 ≡ after_byte B (done_at B n c xs).taken c slots i (get_or xs i 0)
  byte_at (put s p v) =
      put-beside B n xs l s (put_bytes p) p.flags.reserved (length-put p v) i o ∙ sym (untold (put s p v) (taken (put_at B n xs s (put_bytes p) p.flags.reserved).answer) refl)
  byte_at (clear s) = clear-beside B n xs l s i o ∙ sym (untold (clear s) (taken (clear_at B n xs s).answer) refl)
  byte_at (payload s a ys) = payload-byte s a ys (taken (payload_at B n xs s a ys).answer) refl

  byte_step : (c : Op) → get_or (call B c xs).image i 0 ≡ after_byte B (call B c xs).taken c slots i (get_or xs i 0)
  byte_step c = subst (λ (m : ℕ). get_or (done_at B m c xs).image i 0 ≡ after_byte B (done_at B m c xs).taken c slots i (get_or xs i 0)) (sym l) (byte_at c)

pub bytes-told : {B n : ℕ} {g : List ℕ} (os : List Op) (xs : List ℕ) (slots : ℕ → Found) → Holds B n g slots xs
    → (i : ℕ) → OutsideTables B n i → get_or (run B os xs) i 0 ≡ told_byte B os xs slots i (get_or xs i 0)
unfolding run told_byte
bytes-told [] xs slots h i o = refl
bytes-told {B} (c ∷ os) xs slots h i o =
    bytes-told os (call B c xs).image _ (step h c) i o
    ∙ ap (λ (x : ℕ). told_byte B os (call B c xs).image (λ (k : ℕ). after (call B c xs).taken c k (slots k)) i x) (byte_step h i o c)

-- after an accepted lay and any calls, every byte beside the tables is what the last accepted payload write over it gave, else what lay left
pub demand-3-bytes : (B : ℕ) (xs : List ℕ) (g : Guid) (os : List Op) → (lay_outcome B xs g).answer ≡ accepted tt → (i : ℕ) → OutsideTables B (length xs) i
    → get_or (run B os (lay_outcome B xs g).image) i 0 ≡ told_byte B os (lay_outcome B xs g).image (λ (s : ℕ). empty_slot) i (get_or (lay_outcome B xs g).image i 0)
demand-3-bytes B xs g os h i o = bytes-told os (lay_outcome B xs g).image (λ (s : ℕ). empty_slot) (lay-holds B xs g h) i o
