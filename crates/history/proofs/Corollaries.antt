-- What follows for every image, with no history: both tables are twins after any accepted call, and block 0 reads as a protective MBR after a lay.
-- No contract cites this file. Assumes nothing.
use mathlib.Core.Path.{◌≡◌, refl, sym, ap, ◌∙◌, subst}
use mathlib.Core.Logic.{inl}
use mathlib.Core.Bool.{true}
use mathlib.Core.List.{List, [], append-nil}
use Prim.Native.Nat.{ℕ, ◌-◌, ◌<◌}
use native.Mathlib.Omega.{arith}
use borrow.Author.Tests.{ltb-true}
use lib.Dec.{ltb}
use lib.ListN.{length}
use lib.Seq.{sets, length-sets}
use Rattle.units.specs.declared.Guid.{Guid}
use Rattle.units.specs.Answer.{accepted, pick, ends}
use Rattle.units.specs.Bytes.{part}
use Rattle.units.specs.Guids.{guid_bytes}
use Rattle.partition.specs.declared.Partition.{Partition}
use Rattle.partition.specs.Format.{entry_at, entry_bytes, named}
use Rattle.partition.specs.Held.{PartitionHeld}
use Rattle.partition.proofs.Laws.{entry_here}
use Rattle.mbr.specs.Format.{fresh}
use Rattle.mbr.specs.Parsing.{image_parsed}
use Rattle.mbr.proofs.Laws.{store-all, whole-reads-back}
use Rattle.tables.specs.Places.{blocks}
use Rattle.tables.specs.Lens.{Tables, tables_at, tables}
use Rattle.tables.specs.Entries.{zeros, entry, set_entry}
use Rattle.tables.specs.Headers.{card_of}
use Rattle.tables.specs.Check.{room_check, guid_of, slot_check}
use Rattle.card.proofs.LayWays.{fit-fresh, length-mbr-of}
use Rattle.card.specs.Calls.{mbr, put_bytes, put_check, put_at, clear_at, payload_check, payload_at, lay_at, lay_outcome, put_outcome}
use Rattle.history.specs.History.{Op, put, clear, payload, taken, call}
use Rattle.tables.proofs.Orders.{by-pick}
use Rattle.tables.proofs.Room.{Room}
use Rattle.tables.proofs.LensLaws.{with-beside}
use Rattle.tables.proofs.EntryLaws.{length-zeros, entry-same}
use Rattle.tables.proofs.Good.{room-ok, check-good, card-whole, accepted-array}
use Rattle.history.proofs.State.{taken-zero, accepted-image, State, state-guid, state-guid-back, state-front, state-back, lay_done}
use Rattle.history.proofs.Changes.{put-ok, put-done, clear-done}
use Rattle.history.proofs.Payload.{pay-ok, payload-tables, payload-length}
use Rattle.history.proofs.Records.{held-named, named-twice, tidied-is, length-put}

-- ---- twins

-- both arrays are the same bytes, and both disk GUIDs too
pub record Twins (t : Tables) : Type 0 where
  pub arrays : t.front.array ≡ t.back.array
  pub guids : guid_of t.front ≡ guid_of t.back

state-twins : (B n : ℕ) (g arr xs : List ℕ) → State B n g arr xs → Twins (tables B xs)
state-twins B n g arr xs k =
    subst (λ (m : ℕ). Twins (tables_at B m xs)) (sym k.size)
    (record { arrays = state-front k ∙ sym (state-back k); guids = state-guid k ∙ sym (state-guid-back k) })

-- after any accepted call on any image
pub twins-after : (B : ℕ) (o : Op) (xs : List ℕ) → (call B o xs).taken ≡ true → Twins (tables B (call B o xs).image)
unfolding put_at clear_at payload_at
twins-after B (put s p v) xs q =
    let z : (put_check B (length xs) (tables B xs) s (put_bytes p) p.flags.reserved).number ≡ 0 = taken-zero tt _ _ _ q in
    state-twins B (length xs) _ _ _ (put-done B (length xs) xs refl s (put_bytes p) p.flags.reserved (length-put p v) z)
twins-after B (clear s) xs q =
    let z : (slot_check B (length xs) (tables B xs) s).number ≡ 0 = taken-zero tt _ _ _ q in
    state-twins B (length xs) _ _ _ (clear-done B (length xs) xs refl s z)
twins-after B (payload s p ys) xs q =
    let z : (payload_check B (length xs) (tables B xs) s p (length ys)).number ≡ 0 = taken-zero (length ys) _ _ _ q in
    let k = check-good B (length xs) (tables B xs) (pay-ok B (length xs) (tables B xs) s p (length ys) z).card in
    let t : Twins (tables B xs) = record { arrays = sym k.arrays; guids = k.guids } in
    subst (λ (m : ℕ). Twins (tables_at B m (payload_at B (length xs) xs s p ys).image)) (sym (payload-length B (length xs) xs refl s p ys z))
    (subst Twins (sym (payload-tables B (length xs) xs refl s p ys z)) t)

-- ---- what reads back

-- after an accepted put slot s of both arrays reads as the record with its name cleared
pub put_reads : (B : ℕ) (xs : List ℕ) (s : ℕ) (p : Partition) → PartitionHeld p → (put_outcome B xs s p).answer ≡ accepted tt
    → (entry_at (entry (tables_at B (length xs) (put_outcome B xs s p).image).front.array (s - 1)) 0 ≡ named p)
    × (entry_at (entry (tables_at B (length xs) (put_outcome B xs s p).image).back.array (s - 1)) 0 ≡ named p)
unfolding put_at
put_reads B xs s p v h =
    let z : (put_check B (length xs) (tables B xs) s (put_bytes p) p.flags.reserved).number ≡ 0 = taken-zero tt _ _ _ (ap taken h) in
    let o = put-ok B (length xs) (tables B xs) s (put_bytes p) p.flags.reserved z in
    let le : length (put_bytes p) ≡ 128 = length-put p v in
    let k = put-done B (length xs) xs refl s (put_bytes p) p.flags.reserved le z in
    let e : entry (set_entry (tables B xs).front.array (s - 1) (put_bytes p)) (s - 1) ≡ put_bytes p =
    entry-same (tables B xs).front.array (s - 1) (put_bytes p) (accepted-array B (length xs) xs refl o.card) o.slot le in
    let r : entry_at (put_bytes p) 0 ≡ named p =
    ap (λ (x : Partition). entry_at (entry_bytes x) 0) (tidied-is p o.flags)
    ∙ ap (λ (l : List ℕ). entry_at l 0) (sym (append-nil (entry_bytes (named p))))
    ∙ entry_here (named p) [] (held-named p v).fields (omega (arith, o.flags))
    ∙ named-twice p in (
      ap (λ (a : List ℕ). entry_at (entry a (s - 1)) 0) (state-front k) ∙ ap (λ (a : List ℕ). entry_at a 0) e ∙ r,
      ap (λ (a : List ℕ). entry_at (entry a (s - 1)) 0) (state-back k) ∙ ap (λ (a : List ℕ). entry_at a 0) e ∙ r,
    )

-- ---- block 0

-- the record's size: the lesser of the backup's block and FFFFFFFF
abbrev pub protected : ℕ → ℕ
protected k = pick (ltb k 0xFFFFFFFF) k 0xFFFFFFFF

-- what is read of block 0 depends on its bytes alone
block_read : (xs ys : List ℕ) (b : ℕ) → length xs ≡ length ys → part xs 0 b ≡ part ys 0 b → image_parsed xs b ≡ image_parsed ys b
unfolding image_parsed
block_read xs ys b l e = rw (l, e)

pub laid-mbr : (B : ℕ) (xs : List ℕ) (g : Guid) → (lay_outcome B xs g).answer ≡ accepted tt
    → image_parsed (lay_outcome B xs g).image B ≡ accepted (fresh (protected (blocks B (length xs) - 1)))
unfolding lay_at mbr
laid-mbr B xs g h =
    let z : (room_check B (length xs)).number ≡ 0 = taken-zero tt _ _ _ (ap taken h) in
    let r : Room B (length xs) = room-ok B (length xs) z in
    let k : ℕ = protected (blocks B (length xs) - 1) in
    let m : length (mbr (blocks B (length xs) - 1)) ≡ 512 = length-mbr-of (blocks B (length xs) - 1) in
    let ly : length (sets xs 0 (mbr (blocks B (length xs) - 1))) ≡ length xs = length-sets xs 0 (mbr (blocks B (length xs) - 1)) in
    let f = by-pick (λ (x : ℕ). x < 4294967296) (ltb (blocks B (length xs) - 1) 0xFFFFFFFF) (blocks B (length xs) - 1) 0xFFFFFFFF
    (λ e. omega (arith, ltb-true (blocks B (length xs) - 1) 0xFFFFFFFF e)) (λ _. omega arith) in
    let w = card-whole B (length xs) (guid_bytes g) (zeros 16384) (omega arith) (length-zeros 16384) in
    let s = lay_done B (length xs) xs (guid_bytes g) refl z in
    block_read (lay_outcome B xs g).image (sets xs 0 (mbr (blocks B (length xs) - 1))) B (s.size ∙ sym ly)
    (ap (λ (i : List ℕ). part i 0 B) (accepted-image tt _ xs _ z)
    ∙ with-beside B (length xs) r (sets xs 0 (mbr (blocks B (length xs) - 1))) ly (card_of B (length xs) (guid_bytes g) (zeros 16384)) w 0 B (omega arith) (inl (omega arith)) (inl (omega arith)))
    ∙ (whole-reads-back xs (fresh (protected (blocks B (length xs) - 1))) B (fit-fresh k f) r.good (omega arith)
    (ends (store-all xs 0 (mbr (blocks B (length xs) - 1)) 512 m (omega arith)))).1
