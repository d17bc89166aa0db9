-- `card::changing::of_slot` meets its contract. Assumes nothing.
use mathlib.Core.Path.{ap, ◌∙◌}
use native.Mathlib.Omega.{arith}
use borrow.Author.Tests.{lt-ltb, le-ltb}
use Rattle.units.specs.declared.Slot.{Slot}
use Rattle.units.specs.declared.Place.TheVariants.{Nowhere}
use Rattle.units.proofs.Chains.{last, none}
use Rattle.card.proofs.changing.of_slot.Goals as goal

pub slot_at-requires : goal.slot_at-requires
slot_at-requires c = omega (arith, c.if-j-lt128.true)

pub returns-then-j-lt128 : goal.returns-then-j-lt128
returns-then-j-lt128 c =
    let a = c.args in
    ap (λ (x : Slot). record { number = a.number; slot = x; place = Nowhere }) c.slot_at.ensures ∙ last _ (lt-ltb _ _ c.if-j-lt128.true)

pub returns : goal.returns
returns c = none _ (le-ltb _ _ c.if-j-lt128.false)
