-- The numbers of the stages, and what each leaves. Stage one has put's or clear's own numbers, repair's has 1, 8, 10, 27; a later stage has 1, then 26: if it is not the
-- next, if block size or image length are not stage one's, or if the state holds a slot, block size, length or stage that no accepted stage one leads to.
-- From document 02, 6/13. Assumes nothing.
use Rattle.std.specs.Prelude.{Bool, not, ◌&&◌, List, ℕ, ◌+◌, eqb, leb, length}
use Rattle.units.specs.declared.why.Why.{Why}
use Rattle.units.specs.Answer.{Answer, Outcome, plain, when, or_else, settle}
use Rattle.units.specs.Places.{good_size}
use Rattle.partition.specs.declared.Partition.{Partition}
use Rattle.tables.specs.Places.{array_blocks}
use Rattle.tables.specs.Lens.{tables_at}
use Rattle.tables.specs.Entries.{zeros}
use Rattle.tables.specs.Check.{room_check, bad_slot, slot_check}
use Rattle.card.specs.Calls.{put_check, put_bytes}
use Rattle.reader.specs.Reader.{reader_check}
use Rattle.staged.specs.declared.Update.{Update}
use Rattle.staged.specs.declared.Repair.{Repair}
use Rattle.staged.specs.Stages.{fixed}
use Rattle.staged.specs.Repairs.{repair_of}
use Rattle.staged.specs.Stores.{stage_store, repair_store}

-- ---- put and clear

-- stage one, of an image of n bytes, whose tests found w, for slot s and its new 128 bytes e
abbrev pub start_at : Why → ℕ → ℕ → List ℕ → ℕ → List ℕ → Outcome (Answer Update)
start_at w B n xs s e = settle w (fixed B n (tables_at B n xs) s e) xs (stage_store B n (fixed B n (tables_at B n xs) s e) 1 xs)

unfoldable pub start_put_at : ℕ → ℕ → List ℕ → ℕ → List ℕ → ℕ → Outcome (Answer Update)
start_put_at B n xs s e reserved = start_at (put_check B n (tables_at B n xs) s e reserved) B n xs s e

unfoldable pub start_clear_at : ℕ → ℕ → List ℕ → ℕ → Outcome (Answer Update)
start_clear_at B n xs s = start_at (slot_check B n (tables_at B n xs) s) B n xs s (zeros 128)

-- the state that a later stage hands back
abbrev pub onward : Update → Update
onward u = record { next = u.next + 1; slot = u.slot; b = u.b; len = u.len; entry = u.entry; guid = u.guid; parts = u.parts }

-- the state leads to stage k of an image of n bytes
unfoldable pub leads : ℕ → ℕ → ℕ → Update → Bool
leads B n k u =
    eqb k u.next && (eqb B u.b && (eqb n u.len
    && ((leb 2 u.next && leb u.next 4) && (eqb (room_check u.b u.len).number 0 && not (bad_slot u.slot.0)))))

unfoldable pub next_check : ℕ → ℕ → ℕ → Update → Why
next_check B n k u = or_else (when (not (good_size B)) (plain 1)) (when (not (leads B n k u)) (plain 26))

unfoldable pub next_at : ℕ → ℕ → List ℕ → ℕ → Update → Outcome (Answer Update)
next_at B n xs k u = settle (next_check B n k u) (onward u) xs (stage_store B n u k xs)

-- ---- repair

unfoldable pub start_repair_at : ℕ → ℕ → List ℕ → Outcome (Answer Repair)
start_repair_at B n xs = settle (reader_check B n (tables_at B n xs)) (repair_of B n (tables_at B n xs)) xs (repair_store B n (repair_of B n (tables_at B n xs)) 1 xs)

abbrev pub onward_repair : Repair → Repair
onward_repair r = record { next = r.next + 1; back = r.back; b = r.b; len = r.len; guid = r.guid; parts = r.parts }

unfoldable pub leads_repair : ℕ → ℕ → ℕ → Repair → Bool
leads_repair B n k r =
    eqb k r.next && (eqb B r.b && (eqb n r.len
    && ((leb 2 r.next && leb r.next (array_blocks r.b + 2)) && eqb (room_check r.b r.len).number 0)))

unfoldable pub next_repair_check : ℕ → ℕ → ℕ → Repair → Why
next_repair_check B n k r = or_else (when (not (good_size B)) (plain 1)) (when (not (leads_repair B n k r)) (plain 26))

unfoldable pub next_repair_at : ℕ → ℕ → List ℕ → ℕ → Repair → Outcome (Answer Repair)
next_repair_at B n xs k r = settle (next_repair_check B n k r) (onward_repair r) xs (repair_store B n r k xs)

-- ---- the public calls

abbrev pub start_put : ℕ → List ℕ → ℕ → Partition → Outcome (Answer Update)
start_put B xs s p = start_put_at B (length xs) xs s (put_bytes p) p.flags.reserved

abbrev pub start_clear : ℕ → List ℕ → ℕ → Outcome (Answer Update)
start_clear B xs s = start_clear_at B (length xs) xs s

abbrev pub next_stage : ℕ → List ℕ → ℕ → Update → Outcome (Answer Update)
next_stage B xs k u = next_at B (length xs) xs k u

abbrev pub start_repair : ℕ → List ℕ → Outcome (Answer Repair)
start_repair B xs = start_repair_at B (length xs) xs

abbrev pub next_repair : ℕ → List ℕ → ℕ → Repair → Outcome (Answer Repair)
next_repair B xs k r = next_repair_at B (length xs) xs k r
