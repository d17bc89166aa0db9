-- The numbers of the stages: a stage is accepted exactly where its state leads to it; an accepted stage one leads through all of them, and their stores are those of
-- staged/specs/Stores; and 26 refuses no slot, block size, length and stage that some accepted stage one leads to. No contract cites this file. Assumes nothing.
use mathlib.Core.Path.{◌≡◌, refl, sym, ap, ◌∙◌}
use mathlib.Core.Bool.{not}
use mathlib.Core.List.{List}
use Prim.Native.Nat.{ℕ, zero, suc, ◌+◌, ◌^◌, ◌≤◌, ◌<◌}
use native.Mathlib.Omega.{arith}
use borrow.Author.Tests.{eq-eqb, le-leb}
use lib.ListN.{length}
use Rattle.units.specs.Answer.{accepted, gives, plain}
use Rattle.units.proofs.Chains.{else-none, when-none, settle-accepted}
use Rattle.tables.specs.Places.{array_blocks}
use Rattle.tables.specs.Lens.{Front, tables_at}
use Rattle.tables.specs.Entries.{zeros}
use Rattle.tables.specs.Check.{room_check, check, slot_check}
use Rattle.card.specs.Calls.{put_check, lay_at}
use Rattle.tables.proofs.Orders.{both}
use Rattle.tables.proofs.Room.{Room}
use Rattle.tables.proofs.EntryLaws.{length-zeros}
use Rattle.tables.proofs.Good.{room-ok, slot_ok, check-good}
use Rattle.history.proofs.State.{State, state-check, lay_done}
use Rattle.history.proofs.Changes.{small-zeros}
use Rattle.checking.proofs.CheckWays as checks
use Rattle.card.proofs.ChangeWays.{put-good}
use Rattle.reader.specs.Reader.{reader_check}
use Rattle.staged.specs.declared.Update.{Update}
use Rattle.staged.specs.declared.Repair.{Repair}
use Rattle.staged.specs.Stages.{fixed}
use Rattle.staged.specs.Repairs.{repair_of}
use Rattle.staged.specs.Stores.{slot_store, stage_store, stored, repair_store, repair_stored}
use Rattle.staged.specs.Numbers.{start_put_at, start_clear_at, leads, next_check, next_at, start_repair_at, leads_repair, next_repair_check, next_repair_at}
use Rattle.staged.proofs.Leads.{Leads, next-leads, slot-good, room-here, repair-leads}
use Rattle.pulled.proofs.Readers.{Held, held_of, zero-passes, shown-front, reads-shown}

-- ---- what an accepted later stage says (`Leads` in staged/proofs), and the other way

pub leads-next : (B n k : ℕ) (u : Update) → Leads B n k u → (next_check B n k u).number ≡ 0
unfolding next_check leads
leads-next B n k u d =
    let r : Room B n = room-ok B n d.room in
    let s = d.stage in
    else-none _ _ (when-none _ (plain 1) (ap not r.good))
    (when-none _ (plain 26) (ap not
    (both (eq-eqb k u.next d.stage) (both (eq-eqb B u.b d.block) (both (eq-eqb n u.len d.bytes)
    (both (both (le-leb 2 u.next (omega (arith, d.low))) (le-leb u.next 4 (omega (arith, d.high))))
    (both (eq-eqb _ 0 (sym (room-here B n u.b u.len d.block d.bytes) ∙ d.room)) (ap not (slot-good u.slot.0 d.one d.most)))))))))

-- ---- through the stages

-- the state before stage k
abbrev pub before : Update → ℕ → Update
before u k = record { next = k; slot = u.slot; b = u.b; len = u.len; entry = u.entry; guid = u.guid; parts = u.parts }

-- what is stored does not hang on the next stage
same_store : (B n : ℕ) (u : Update) (j k : ℕ) (xs : List ℕ) → stage_store B n (before u j) k xs ≡ stage_store B n u k xs
unfolding slot_store
same_store B n u j zero xs = refl
same_store B n u j (suc zero) xs = refl
same_store B n u j (suc (suc zero)) xs = refl
same_store B n u j (suc (suc (suc zero))) xs = refl
same_store B n u j (suc (suc (suc (suc zero)))) xs = refl
same_store B n u j (suc (suc (suc (suc (suc k))))) xs = refl

module _ (B n : ℕ) (xs : List ℕ) (s : ℕ) where
  -- an accepted stage one stores the first store, and hands on what leads to stage two
  pub put-starts : (e : List ℕ) (reserved : ℕ) → (put_check B n (tables_at B n xs) s e reserved).number ≡ 0
      → start_put_at B n xs s e reserved ≡ gives (accepted (before (fixed B n (tables_at B n xs) s e) 2)) (stored B n (fixed B n (tables_at B n xs) s e) 1 xs)
  unfolding start_put_at stored fixed
  put-starts e reserved h = settle-accepted _ (put_check B n (tables_at B n xs) s e reserved) _ _ h

  pub clear-starts : (slot_check B n (tables_at B n xs) s).number ≡ 0
      → start_clear_at B n xs s ≡ gives (accepted (before (fixed B n (tables_at B n xs) s (zeros 128)) 2)) (stored B n (fixed B n (tables_at B n xs) s (zeros 128)) 1 xs)
  unfolding start_clear_at stored fixed
  clear-starts h = settle-accepted _ (slot_check B n (tables_at B n xs) s) _ _ h

-- and each later one is accepted in its turn
pub goes_on : (u : Update) (xs : List ℕ) (k : ℕ) → (room_check u.b u.len).number ≡ 0 → 1 ≤ u.slot.0 → u.slot.0 ≤ 128 → 1 ≤ k → k ≤ 3
    → next_at u.b u.len (stored u.b u.len u k xs) (k + 1) (before u (k + 1)) ≡ gives (accepted (before u (k + 1 + 1))) (stored u.b u.len u (k + 1) xs)
unfolding next_at stored
goes_on u xs k r a b lo hi =
    settle-accepted _ (next_check u.b u.len (k + 1) (before u (k + 1))) _ _
    (leads-next u.b u.len (k + 1) (before u (k + 1)) (record { stage = refl; block = refl; bytes = refl; low = omega arith; high = omega arith; room = r; one = a; most = b }))
    ∙ ap (λ (x : List ℕ). gives (accepted (before u (k + 1 + 1))) x) (same_store u.b u.len u (k + 1) (k + 1) _ ∙ store k)
  where
    store : (k : ℕ) → stage_store u.b u.len u (k + 1) (stored u.b u.len u k xs) ≡ stored u.b u.len u (k + 1) xs
    store k = let e : k + 1 ≡ suc k = omega arith in rw e

-- what it asks for is what an accepted stage one has tested
pub put-goes : (B n : ℕ) (xs : List ℕ) (s : ℕ) (e : List ℕ) (reserved : ℕ) → (put_check B n (tables_at B n xs) s e reserved).number ≡ 0 → ((room_check B n).number ≡ 0) × (1 ≤ s) × (s ≤ 128)
put-goes B n xs s e reserved h =
    let k = put-good B n (tables_at B n xs) s e reserved h in
    let i = slot_ok s k.1 in
    ((check-good B n (tables_at B n xs) k.0).room, i.0, omega (arith, i.0, i.1))

pub clear-goes : (B n : ℕ) (xs : List ℕ) (s : ℕ) → (slot_check B n (tables_at B n xs) s).number ≡ 0 → ((room_check B n).number ≡ 0) × (1 ≤ s) × (s ≤ 128)
clear-goes B n xs s h =
    let k = checks.slot-good B n (tables_at B n xs) s h in
    let i = slot_ok s k.1 in
    ((check-good B n (tables_at B n xs) k.0).room, i.0, omega (arith, i.0, i.1))

-- ---- 26 lets nothing more through: each slot, block size, length and stage that a later stage accepts is one that an accepted stage one leads to, as a clear of its slot on
-- a freshly laid image

zeros-held : Held (zeros 16)
zeros-held = held_of (zeros 16) (length-zeros 16) (small-zeros 16)

fresh-check : (B n : ℕ) → (room_check B n).number ≡ 0 → n < 2 ^ 64
    → (length (lay_at B n (zeros n) (zeros 16)).image ≡ n) × ((check B n (tables_at B n (lay_at B n (zeros n) (zeros 16)).image)).number ≡ 0)
fresh-check B n r few =
    let q : State B n (zeros 16) (zeros 16384) (lay_at B n (zeros n) (zeros 16)).image = lay_done B n (zeros n) (zeros 16) (length-zeros n) r in
    (q.size, state-check q few zeros-held.held (small-zeros 16384))

pub reached : (B n k : ℕ) (u : Update) → n < 2 ^ 64 → (next_check B n k u).number ≡ 0
    → (2 ≤ k) × (k ≤ 4) × (length (lay_at B n (zeros n) (zeros 16)).image ≡ n) × ((slot_check B n (tables_at B n (lay_at B n (zeros n) (zeros 16)).image) u.slot.0).number ≡ 0)
unfolding slot_check
reached B n k u few h =
    let d = next-leads B n k u h in
    let q = fresh-check B n d.room few in
    (d.low, d.high, q.0, else-none _ _ q.1 (when-none _ (plain 18) (slot-good u.slot.0 d.one d.most)))

-- ---- repair

-- the state before stage k of a repair, and its way through the stages
abbrev pub before_repair : Repair → ℕ → Repair
before_repair r k = record { next = k; back = r.back; b = r.b; len = r.len; guid = r.guid; parts = r.parts }

pub leads-repair : (k : ℕ) (r : Repair) → 2 ≤ k → k ≤ array_blocks r.b + 2 → (room_check r.b r.len).number ≡ 0 → (next_repair_check r.b r.len k (before_repair r k)).number ≡ 0
unfolding next_repair_check leads_repair
leads-repair k r lo hi rm =
    else-none _ _ (when-none _ (plain 1) (ap not (room-ok r.b r.len rm).good))
    (when-none _ (plain 26) (ap not
    (both (eq-eqb k k refl) (both (eq-eqb r.b r.b refl) (both (eq-eqb r.len r.len refl) (both (both (le-leb 2 k lo) (le-leb k (array_blocks r.b + 2) hi)) (eq-eqb _ 0 rm)))))))

pub repair-starts : (B n : ℕ) (xs : List ℕ) → (reader_check B n (tables_at B n xs)).number ≡ 0
    → start_repair_at B n xs ≡ gives (accepted (before_repair (repair_of B n (tables_at B n xs)) 2)) (repair_stored B n (repair_of B n (tables_at B n xs)) 1 xs)
unfolding start_repair_at repair_stored repair_of
repair-starts B n xs h = settle-accepted _ (reader_check B n (tables_at B n xs)) _ _ h

same-repair : (B n : ℕ) (r : Repair) (j k : ℕ) (xs : List ℕ) → repair_store B n (before_repair r j) k xs ≡ repair_store B n r k xs
unfolding repair_store
same-repair B n r j zero xs = refl
same-repair B n r j (suc zero) xs = refl
same-repair B n r j (suc (suc k)) xs = refl

repair-store : (B n : ℕ) (r : Repair) (xs : List ℕ) (k : ℕ) → repair_store B n r (k + 1) (repair_stored B n r k xs) ≡ repair_stored B n r (k + 1) xs
unfolding repair_stored
repair-store B n r xs k = let e : k + 1 ≡ suc k = omega arith in rw e

pub repair-goes-on : (r : Repair) (xs : List ℕ) (k : ℕ) → (room_check r.b r.len).number ≡ 0 → 1 ≤ k → k ≤ array_blocks r.b + 1
    → next_repair_at r.b r.len (repair_stored r.b r.len r k xs) (k + 1) (before_repair r (k + 1)) ≡ gives (accepted (before_repair r (k + 1 + 1))) (repair_stored r.b r.len r (k + 1) xs)
unfolding next_repair_at
repair-goes-on r xs k rm lo hi =
    settle-accepted _ (next_repair_check r.b r.len (k + 1) (before_repair r (k + 1))) _ _ (leads-repair (k + 1) r (omega arith) (omega arith) rm)
    ∙ ap (λ (x : List ℕ). gives (accepted (before_repair r (k + 1 + 1))) x) (same-repair r.b r.len r (k + 1) (k + 1) _ ∙ repair-store r.b r.len r xs k)

-- a state that leads to a stage of a repair is one that an accepted stage one leads to, as on a freshly laid image
pub reached-repair : (B n k : ℕ) (r : Repair) → n < 2 ^ 64 → (next_repair_check B n k r).number ≡ 0
    → (2 ≤ k) × (k ≤ array_blocks B + 2) × (length (lay_at B n (zeros n) (zeros 16)).image ≡ n) × ((reader_check B n (tables_at B n (lay_at B n (zeros n) (zeros 16)).image)).number ≡ 0)
reached-repair B n k r few h =
    let d = repair-leads B n k r h in
    let xs : List ℕ = (lay_at B n (zeros n) (zeros 16)).image in
    let q = fresh-check B n d.room few in
    let g = check-good B n (tables_at B n (lay_at B n (zeros n) (zeros 16)).image) q.1 in (
      d.low,
      d.high,
      q.0,
      reads-shown B n (tables_at B n xs) _ _ d.room (shown-front B n (tables_at B n xs) (zero-passes B n Front (tables_at B n xs).front g.front g.entries)),
    )
