-- `rows::inner::fill_bytes` meets its contract. The invariant: with the rows that are left stored, the lent bytes are those that are asked for. Assumes nothing.
use mathlib.Core.Path.{◌≡◌, refl, sym, ap, ◌∙◌}
use mathlib.Core.List.{List}
use Prim.Native.Nat.{◌*◌, ◌^◌, ◌<◌}
use native.Mathlib.Omega.{arith}
use lib.ListN.{length}
use lib.Seq.{sets}
use Rattle.rows.specs.declared.Entry.{Entry}
use Rattle.rows.proofs.Laws.{plan-fits, plan-made, left, left-all}
use Rattle.rows.specs.RowBytes.{rows_bytes}
use Rattle.rows.proofs.ByteRows.{row-joins, next-left, rows_more, rows_none, bytes-ends}
use borrow.Author.Rules.{rules}
use Rattle.rows.proofs.inner.fill_bytes.Goals as goal

pub loop-i-init : goal.loop-i-init
loop-i-init c =
    let a = c.args in
    let q = c.within-q.result in (
      omega (arith, ap length (left-all a.img.now q), (plan-made _ a.p c.within-q.ensures a.img.now c.requires).counted),
      refl,
      ap (λ (es : List Entry). sets a.out.now 0 (rows_bytes es)) (left-all a.img.now q),
    )

pub next_slot-at-requires : goal.next_slot-at-requires
next_slot-at-requires c = let a = c.args in (plan-made _ a.p c.within-q.ensures a.img.now c.requires).lies

pub entry_in-e-requires : goal.entry_in-e-requires
entry_in-e-requires c =
    let a = c.args in
    let l = c.loop-i in
    let q = c.within-q.result in
    let h : 0 < length (left a.img.now q l.at) = omega arith in (
      (plan-made _ a.p c.within-q.ensures a.img.now c.requires).lies,
      (next-left a.img.now q l.at h c.next_slot-at.ensures).0,
    )

pub overflow_mul-i : goal.overflow_mul-i
overflow_mul-i c =
    let s = c in
    let h = plan-fits _ s.args.p c.within-q.ensures in
    let l : length s.args.out.now < 2 ^ 64 = omega (arith, s.well_formed.1.1.0) in
    let f : 136 * c.loop-i.i < 2 ^ 64 = omega (arith, h, l) in
    search rules

pub put_row-requires : goal.put_row-requires
put_row-requires c =
    let a = c.args in
    let q = c.within-q in
    (row-joins a.img.now q.result _ c.entry_in-e.ensures, omega (arith, plan-fits _ a.p q.ensures))

pub loop-i-preserved : goal.loop-i-preserved
loop-i-preserved c =
    let a = c.args in
    let l = c.loop-i in
    let q = c.within-q.result in
    let h : 0 < length (left a.img.now q l.at) = omega arith in
    let n = (next-left a.img.now q l.at h c.next_slot-at.ensures).1 in (
      omega (arith, ap length n),
      omega arith,
      rows_more a.img.now q l.at c.next_slot-at.result l.i l.out n c.entry_in-e.ensures c.put_row.ensures ∙ l.invariant.2,
    )

pub returns : goal.returns
returns c =
    let a = c.args in
    let l = c.loop-i in
    let q = c.within-q.result in
    let z : length (left a.img.now q l.at) ≡ 0 = omega arith in
    bytes-ends a.img.now a.p a.out.now c.requires c.within-q.ensures refl (sym (rows_none a.img.now q l.at l.out (136 * l.i) z) ∙ l.invariant.2)
