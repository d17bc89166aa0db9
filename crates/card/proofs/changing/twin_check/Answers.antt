-- `card::changing::twin_check` meets its contract. Assumes nothing.
use mathlib.Core.Path.{◌≡◌, ap, ◌∙◌}
use Prim.Native.Nat.{ℕ, ◌+◌, ◌-◌}
use native.Mathlib.Omega.{arith}
use lib.Dec.{ltb}
use Rattle.units.specs.Answer.{of_slot, when}
use Rattle.units.specs.Bytes.{part}
use Rattle.units.proofs.Lists.{lent-part, length-lent}
use Rattle.tables.specs.Lens.{Front, copy_in}
use Rattle.tables.specs.Entries.{part_guid_of, first_twin}
use Rattle.tables.proofs.Copies.{array_of}
use Rattle.card.specs.Calls.{twin_check}
use Rattle.card.proofs.ChangeWays.{twin-by}
use Rattle.card.proofs.changing.twin_check.Goals as goal

pub first_twin-requires : goal.first_twin-requires
first_twin-requires c =
    let g = c.guid_place-guid in
    (omega (arith, c.array_in-array.ensures.1, c.requires.1), length-lent c.args.e.now g.result.0 16 (omega (arith, g.ensures, c.requires.2)))

pub returns : goal.returns
unfolding twin_check part_guid_of
returns c =
    let met : let a = c.args in c.first_twin.result ≡ first_twin (copy_in a.b Front a.front.now).array (a.slot.0 - 1) (part_guid_of a.e.now) = let a = c.args in
    let g = c.guid_place-guid in
    c.first_twin.ensures
    ∙ twin-by (array_of a.b Front a.front.now c.array_in-array.ensures.0) c.array_place-k.ensures
    (lent-part a.e.now g.result.0 16 ∙ ap (λ (o : ℕ). part a.e.now o 16) g.ensures) in
    c.of_slot.ensures ∙ ap (λ (j : ℕ). when (ltb j 128) (of_slot 25 (j + 1))) met
