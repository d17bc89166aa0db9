-- `rows::by_type::next_used` meets its contract. The invariant: no entry that was passed is used. Assumes nothing.
use mathlib.Core.Path.{refl, sym, ap, ◌∙◌}
use mathlib.Core.Bool.{Bool}
use mathlib.Core.List.{List}
use Prim.Native.Nat.{ℕ, ◌+◌, ◌*◌, ◌≤◌}
use native.Mathlib.Omega.{arith}
use lib.ListN.{length, take}
use Rattle.units.specs.declared.Slot.{Slot}
use Rattle.std.specs.Prelude.{Some}
use Rattle.partition.specs.Meanings.{slots_of}
use Rattle.rows.specs.Slots.{typed_each}
use Rattle.rows.proofs.Slots.{from-yes, from-no, from-none, entry-within, used-here}
use Rattle.rows.proofs.by_type.next_used.Goals as goal

pub loop-k-init : goal.loop-k-init
loop-k-init c = refl

-- the entry at hand is inside
within : (c : goal.In-loop-k) → let a = c.args in a.at.0 + c.loop-k.k * a.each + 128 ≤ length a.s.now
within c =
    let p = c.requires in
    entry-within _ _ _ _ _ p.0 p.1 c.loop-k-test.true

pub entry_place-requires : goal.entry_place-requires
entry_place-requires c = omega (arith, within c)

pub is_used-requires : goal.is_used-requires
is_used-requires c =
    let p = c.requires in
    omega (arith, entry-within _ _ _ _ _ p.0 p.1 c.loop-k-test.true, c.entry_place.ensures)

-- the first of the slots that are left
abbrev first : List ℕ → List ℕ
first l = take 1 l

pub returns-then-is_used : goal.returns-then-is_used
returns-then-is_used c =
    let d = c in
    let l = d.loop-k in
    let a = d.args in
    let u : ℕ → Bool = typed_each a.s.now a.each a.at.0 in
    let e = used-here a.s.now a.each a.at.0 l.k d.entry_place.ensures d.is_used.ensures in
    ap (λ (x : Slot). slots_of (Some x)) c.slot_at.ensures
    ∙ sym (l.invariant ∙ ap first (from-yes u l.k a.count (omega arith) (e ∙ d.if-is_used.true)))

pub loop-k-preserved : goal.loop-k-preserved
loop-k-preserved c =
    let l = c.loop-k in
    let a = c.args in
    let u : ℕ → Bool = typed_each a.s.now a.each a.at.0 in
    let e = used-here a.s.now a.each a.at.0 l.k c.entry_place.ensures c.is_used.ensures in
    l.invariant ∙ ap first (from-no u l.k a.count (omega arith) (e ∙ c.if-is_used.false))

pub returns : goal.returns
returns c =
    let a = c.args in
    let l = c.loop-k in
    sym (l.invariant ∙ ap first (from-none (typed_each a.s.now a.each a.at.0) l.k a.count (omega arith)))
