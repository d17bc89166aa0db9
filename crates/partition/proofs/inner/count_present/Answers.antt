-- `partition::inner::count_present` meets its contract. The invariant: the present entries that were passed, and those that are left, are all. Assumes nothing.
use mathlib.Core.Path.{sym, ap, ◌∙◌}
use Prim.Native.Nat.{◌+◌, ◌*◌, ◌≤◌}
use native.Mathlib.Nat.{sub-zero}
use native.Mathlib.Omega.{arith}
use lib.ListN.{length}
use Rattle.partition.proofs.Laws.{from-yes, from-no, from-none}
use Rattle.partition.proofs.Ways.{inside-filled}
use Rattle.partition.proofs.inner.count_present.Goals as goal
use Rattle.partition.proofs.inner.count_present.Goals.{then-is_present, else-is_present}

pub loop-k-init : goal.loop-k-init
loop-k-init c = (omega arith, rw sub-zero (omega arith))

-- the whole array is inside, since it has an entry
within : (c : goal.In-loop-k) → let a = c.args in a.at + a.count * 128 ≤ length a.s.now
within c = inside-filled _ _ _ c.requires (λ z. omega arith)

pub overflow_add-at : goal.overflow_add-at
overflow_add-at c = omega (arith, within c)

pub is_present-requires : goal.is_present-requires
is_present-requires c = omega (arith, within c)

pub loop-k-preserved : goal.loop-k-preserved
loop-k-preserved c =
    let a = c.args in
    let l = c.loop-k in
    let e = c.is_present.ensures in
    elim c.if-is_present.branch [
      | then-is_present w ↦ (
        omega arith,
        omega (arith, ap length (from-yes a.s.now a.at l.k a.count (omega arith) (sym e ∙ w.if-is_present.true))),
      )
      | else-is_present w ↦ (
        omega arith,
        omega (arith, ap length (from-no a.s.now a.at l.k a.count (omega arith) (sym e ∙ w.if-is_present.false))),
      )
    ]

pub returns : goal.returns
returns c =
    let a = c.args in
    let l = c.loop-k in
    omega (arith, ap length (from-none a.s.now a.at l.k a.count (omega arith)))
