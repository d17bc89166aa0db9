-- `windows::inner::change` meets its contract. Assumes nothing.
use mathlib.Core.Path.{ap, ◌∙◌}
use Prim.Native.Nat.{◌-◌}
use native.Mathlib.Omega.{arith}
use lib.ListN.{length}
use lib.Seq.{sets, length-sets}
use Rattle.tables.specs.Lens.{Front, Back, Copy, copy_bytes}
use Rattle.tables.proofs.HeaderLaws.{block-long}
use Rattle.tables.proofs.Good.{room-ok, slot_ok, check-good}
use Rattle.card.proofs.CopyLaws.{length-changed, front-changed, back-changed}
use Rattle.windows.specs.Windows.{window_tables}
use Rattle.windows.proofs.inner.change.Goals as goal

pub front_guid-guid-requires : goal.front_guid-guid-requires
front_guid-guid-requires c = let r = (room-ok _ _ (let a = c.args in check-good a.b a.len (window_tables a.b a.head.now a.tail.now) c.requires.head_len.2).room) in (omega (arith, r.least), r.most, omega (arith, c.requires.head_len.0))

pub front_sum-parts-requires : goal.front_sum-parts-requires
front_sum-parts-requires c =
    record { len_value = ((let a = c.args in check-good a.b a.len (window_tables a.b a.head.now a.tail.now) c.requires.head_len.2).room, omega (arith, c.requires.head_len.0)); b_value = (let a = c.args in check-good a.b a.len (window_tables a.b a.head.now a.tail.now) c.requires.head_len.2).front; slot_value = c.requires.slot_value }

pub change_copy-requires : goal.change_copy-requires
change_copy-requires c = record { len_value = ((let a = c.args in check-good a.b a.len (window_tables a.b a.head.now a.tail.now) c.requires.head_len.2).room, c.requires.head_len.1); slot_value = c.requires.slot_value }

pub change_at-requires : goal.change_at-requires
change_at-requires c = record { len_value = ((let a = c.args in check-good a.b a.len (window_tables a.b a.head.now a.tail.now) c.requires.head_len.2).room, omega (arith, c.requires.head_len.0)); slot_value = c.requires.slot_value }

pub shape_of-head : goal.shape_of-head
shape_of-head c = ap length c.change_at.ensures ∙ simp length-sets

pub shape_of-tail : goal.shape_of-tail
shape_of-tail c =
    let a = c.args in
    let g = c.front_guid-guid.result in
    let p = c.front_sum-parts.result in
    ap length c.change_copy.ensures
    ∙ length-changed a.b Back a.tail.now _ a.e.now (a.slot.0 - 1) c.requires.head_len.1 (block-long a.b a.len Back g p (omega (arith, (room-ok _ _ (let a = c.args in check-good a.b a.len (window_tables a.b a.head.now a.tail.now) c.requires.head_len.2).room).least))) c.requires.slot_value.1 (slot_ok a.slot.0 c.requires.slot_value.0).1
    ∙ omega (arith, c.requires.head_len.1)

pub returns : goal.returns
returns c =
    let a = c.args in
    let t = window_tables a.b a.head.now a.tail.now in
    let g = c.front_guid-guid in
    let p = c.front_sum-parts in record {
      head_after = c.change_at.ensures
          ∙ ap (λ (x : Copy). sets a.head.now a.b (copy_bytes Front x)) (front-changed a.b a.len t a.slot.0 a.e.now g.result p.result g.ensures.bytes p.ensures);
      tail_after = c.change_copy.ensures
          ∙ ap (λ (x : Copy). copy_bytes Back x) (back-changed a.b a.len t a.slot.0 a.e.now g.result p.result g.ensures.bytes p.ensures (let a = c.args in check-good a.b a.len (window_tables a.b a.head.now a.tail.now) c.requires.head_len.2).arrays);
    }
