-- `rows::inner::fill` meets its contract. Assumes nothing.
use mathlib.Core.Path.{◌≡◌, refl, ap, ◌∙◌}
use Prim.Native.Nat.{◌<◌, ◌≤◌}
use native.Mathlib.Omega.{arith}
use lib.ListN.{length, length-set}
use Rattle.std.proofs.lemmas.List.{length-take-le}
use Rattle.rows.specs.Plans.{entries_by}
use Rattle.rows.proofs.Laws.{plan-fits, plan-made, left, left-all, place-stored, places_all, row_ends}
use Rattle.rows.proofs.ByteRows.{next-left}
use Rattle.rows.proofs.inner.fill.Goals as goal

pub slice_bounds-entry-items-end : goal.slice_bounds-entry-items-end
slice_bounds-entry-items-end c = omega (arith, plan-fits _ c.args.p c.within-q.ensures, c.places-count.ensures)

pub slice_bounds-entry-items-end-2 : goal.slice_bounds-entry-items-end-2
slice_bounds-entry-items-end-2 c =
    let fits : c.places-count.result ≤ length c.args.row.now = omega (arith, plan-fits _ c.args.p c.within-q.ensures, c.places-count.ensures) in
    omega (arith, length-take-le c.places-count.result c.args.row.now fits)

pub loop-entry-init : goal.loop-entry-init
loop-entry-init c =
    let a = c.args in
    let q = c.within-q.result in
    let made = plan-made _ a.p c.within-q.ensures a.img.now c.requires in
    let fits : c.places-count.result ≤ length a.row.now = omega (arith, plan-fits _ a.p c.within-q.ensures, c.places-count.ensures) in
    record {
      counted = omega (arith, ap length (left-all a.img.now q), made.counted, c.places-count.ensures, length-take-le c.places-count.result a.row.now fits);
      stored = left-all a.img.now q;
    }

pub next_slot-at-requires : goal.next_slot-at-requires
next_slot-at-requires c = let a = c.args in (plan-made _ a.p c.within-q.ensures a.img.now c.requires).lies

pub entry_in-requires : goal.entry_in-requires
entry_in-requires c =
    let a = c.args in
    let l = c.loop-entry in
    let q = c.within-q.result in
    let h : 0 < length (left a.img.now q l.at) = omega arith in (
      (plan-made _ a.p c.within-q.ensures a.img.now c.requires).lies,
      (next-left a.img.now q l.at h c.next_slot-at.ensures).0,
    )

pub loop-entry-preserved : goal.loop-entry-preserved
loop-entry-preserved c =
    let a = c.args in
    let l = c.loop-entry in
    let q = c.within-q.result in
    let h : 0 < length (left a.img.now q l.at) = omega arith in
    let n = (next-left a.img.now q l.at h c.next_slot-at.ensures).1 in
    record {
      counted = simp length-set (omega (arith, ap length n));
      stored = place-stored l.entry-items l.entry-index (omega arith) c.entry_in.ensures n l.invariant.stored;
    }

pub returns : goal.returns
returns c =
    let a = c.args in
    let l = c.loop-entry in
    let q = c.within-q.result in
    let fits : c.places-count.result ≤ length a.row.now = omega (arith, plan-fits _ a.p c.within-q.ensures, c.places-count.ensures) in
    let full : length l.entry-items ≡ c.places-count.result = omega (arith, length-take-le c.places-count.result a.row.now fits) in
    row_ends a.img.now a.p a.row.now c.requires c.within-q.ensures refl
    (places_all l.entry-items l.entry-index c.places-count.result _ _ a.row.now (omega arith) (omega arith) full l.invariant.stored)
