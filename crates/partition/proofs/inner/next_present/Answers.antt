-- `partition::inner::next_present` meets its contract. The invariant: no entry that was passed is present. Assumes nothing.
use mathlib.Core.Path.{refl, sym, ap, ◌∙◌}
use mathlib.Core.List.{List}
use Prim.Native.Nat.{ℕ, ◌+◌, ◌*◌, ◌≤◌}
use native.Mathlib.Omega.{arith}
use lib.ListN.{length, get_or}
use Rattle.units.specs.declared.Slot.{Slot}
use Rattle.std.specs.Prelude.{take, Option, Some}
use Rattle.partition.specs.Meanings.{slots_of}
use Rattle.partition.proofs.Laws.{from-yes, from-no, from-none}
use Rattle.partition.proofs.Ways.{inside-filled}
use Rattle.partition.proofs.inner.next_present.Goals as goal

pub loop-k-init : goal.loop-k-init
loop-k-init c = refl

-- the whole array is inside, since it has an entry
within : (c : goal.In-loop-k) → let a = c.args in a.at + a.count * 128 ≤ length a.s.now
within c = inside-filled _ _ _ c.requires (λ z. omega arith)

pub overflow_add-at : goal.overflow_add-at
overflow_add-at c = omega (arith, within c)

pub is_present-requires : goal.is_present-requires
is_present-requires c = omega (arith, within c)

-- the first of the slots that are left
abbrev first : List ℕ → List ℕ
first l = take 1 l

pub returns-then-is_present : goal.returns-then-is_present
returns-then-is_present c =
    let d = c in
    let l = d.loop-k in
    let a = d.args in
    ap (λ (x : Slot). slots_of (Some x)) c.slot_at.ensures
    ∙ sym (l.invariant ∙ ap first (from-yes a.s.now a.at l.k a.count (omega arith) (sym d.is_present.ensures ∙ d.if-is_present.true)))

pub loop-k-preserved : goal.loop-k-preserved
loop-k-preserved c =
    let a = c.args in
    let l = c.loop-k in
    l.invariant ∙ ap first (from-no a.s.now a.at l.k a.count (omega arith) (sym c.is_present.ensures ∙ c.if-is_present.false))

pub returns : goal.returns
returns c =
    let a = c.args in
    let l = c.loop-k in
    sym (l.invariant ∙ ap first (from-none a.s.now a.at l.k a.count (omega arith)))
