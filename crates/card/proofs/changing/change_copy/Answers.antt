-- `card::changing::change_copy` meets its contract. Assumes nothing.
use mathlib.Core.Path.{◌≡◌, ap, ◌∙◌}
use mathlib.Core.List.{List}
use Prim.Native.Nat.{ℕ, ◌-◌}
use native.Mathlib.Omega.{arith}
use lib.ListN.{length}
use lib.Seq.{sets, length-sets}
use Rattle.tables.proofs.HeaderLaws.{block-long}
use Rattle.tables.specs.Headers.{head_block}
use Rattle.tables.specs.Lens.{side_of}
use Rattle.tables.proofs.Good.{slot_ok}
use Rattle.tables.proofs.Good.{room-ok}
use Rattle.tables.specs.Lens.{header_in}
use Rattle.card.proofs.CopyLaws.{copy-changed}
use Rattle.card.proofs.changing.change_copy.Goals as goal

pub put_slot-requires : goal.put_slot-requires
put_slot-requires c =
    let r = room-ok _ _ c.requires.len_value.0 in
    record { b_bound = (r.most, c.requires.slot_value.0); copy_len = (c.requires.len_value.1, c.requires.slot_value.1) }

pub put_header-requires : goal.put_header-requires
put_header-requires c =
    let slot-length : length c.put_slot.new.copy ≡ length c.args.copy.now = ap length c.put_slot.ensures ∙ simp length-sets in
    (c.requires.len_value.0, slot-length ∙ c.requires.len_value.1)

pub returns : goal.returns
returns c =
    let a = c.args in
    let r = room-ok _ _ c.requires.len_value.0 in
    let h = head_block a.b a.len (side_of a.back) a.guid a.parts in
    c.put_header.ensures
    ∙ ap (λ (y : List ℕ). sets y (header_in (side_of a.back)) h) c.put_slot.ensures
    ∙ copy-changed a.b (side_of a.back) a.copy.now h a.e.now (a.slot.0 - 1) c.requires.len_value.1 (block-long a.b a.len (side_of a.back) a.guid a.parts (omega (arith, r.least))) c.requires.slot_value.1 (slot_ok _ c.requires.slot_value.0).1
