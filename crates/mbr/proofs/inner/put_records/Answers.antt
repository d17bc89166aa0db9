-- `mbr::inner::put_records` meets its contract. The loop's invariant: storing the records that are left makes what the function promises. Assumes nothing.
use mathlib.Core.Path.{refl, sym, ◌∙◌}
use Prim.Native.Nat.{◌+◌, ◌*◌}
use native.Mathlib.Nat.{add-zero}
use native.Mathlib.Omega.{arith}
use Rattle.mbr.specs.Format.{zero_record}
use Rattle.mbr.proofs.Laws.{records-more, records-none}
use Rattle.mbr.proofs.inner.put_records.Goals as goal

pub loop-i-init : goal.loop-i-init
loop-i-init c = (refl, rw add-zero)

pub loop-i-preserved : goal.loop-i-preserved
loop-i-preserved c =
    let a = c.args in
    let l = c.loop-i in
    (omega arith, rw c.put_record.ensures (records-more l.s a.records a.at l.i zero_record (omega arith) ∙ l.invariant.1))

pub returns : goal.returns
returns c =
    let a = c.args in
    let l = c.loop-i in
    sym (records-none l.s a.records (a.at + 16 * l.i) l.i (omega arith)) ∙ l.invariant.1
