-- `rows::by_type::count_used` meets its contract. The invariant: the used entries that were passed, and those that are left, are all. Assumes nothing.
use mathlib.Core.Path.{ap, ◌∙◌}
use mathlib.Core.Bool.{Bool}
use Prim.Native.Nat.{ℕ, ◌+◌, ◌*◌, ◌≤◌}
use native.Mathlib.Nat.{sub-zero}
use native.Mathlib.Omega.{arith}
use lib.ListN.{length}
use Rattle.rows.specs.Slots.{typed_each}
use Rattle.rows.proofs.Slots.{from-yes, from-no, from-none, entry-within, used-here}
use Rattle.rows.proofs.by_type.count_used.Goals as goal
use Rattle.rows.proofs.by_type.count_used.Goals.{then-is_used, else-is_used}

pub loop-k-init : goal.loop-k-init
loop-k-init c = (omega arith, rw sub-zero (omega arith))

-- the entry at hand is inside
within : (c : goal.In-loop-k) → let a = c.args in a.at.0 + c.loop-k.k * a.each + 128 ≤ length a.s.now
within c =
    let p = c.requires in
    entry-within _ _ _ _ _ p.0 p.1 c.loop-k-test.true

pub entry_place-requires : goal.entry_place-requires
entry_place-requires c = omega (arith, within c)

pub is_used-requires : goal.is_used-requires
is_used-requires c =
    let p = c.requires in
    omega (arith, entry-within _ _ _ _ _ p.0 p.1 c.loop-k-test.true, c.entry_place.ensures)

pub loop-k-preserved : goal.loop-k-preserved
loop-k-preserved c =
    let l = c.loop-k in
    let a = c.args in
    let u : ℕ → Bool = typed_each a.s.now a.each a.at.0 in
    let e = used-here a.s.now a.each a.at.0 l.k c.entry_place.ensures c.is_used.ensures in
    elim c.if-is_used.branch [
      | then-is_used w ↦ (omega arith, omega (arith, ap length (from-yes u l.k a.count (omega arith) (e ∙ w.if-is_used.true))))
      | else-is_used w ↦ (omega arith, omega (arith, ap length (from-no u l.k a.count (omega arith) (e ∙ w.if-is_used.false))))
    ]

pub returns : goal.returns
returns c =
    let a = c.args in
    let l = c.loop-k in
    omega (arith, ap length (from-none (typed_each a.s.now a.each a.at.0) l.k a.count (omega arith)))
