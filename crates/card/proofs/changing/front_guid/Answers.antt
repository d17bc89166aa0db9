-- `card::changing::front_guid` meets its contract. Assumes nothing.
use mathlib.Core.Path.{subst}
use mathlib.Core.List.{List}
use Prim.Native.Nat.{ℕ, ◌+◌}
use native.Mathlib.Omega.{arith}
use Rattle.units.proofs.Lists.{lent-part, length-lent}
use Rattle.tables.specs.Lens.{copy_in, Front}
use Rattle.card.specs.Calls.{KeptGuid}
use Rattle.card.proofs.changing.front_guid.Goals as goal

pub overflow_add-size : goal.overflow_add-size
overflow_add-size c = omega (arith, c.requires.1)

pub overflow_add-size-2 : goal.overflow_add-size-2
overflow_add-size-2 c = omega (arith, c.requires.1)

pub slice_bounds-kept_guid-end : goal.slice_bounds-kept_guid-end
slice_bounds-kept_guid-end c = omega (arith, c.requires.2)

pub kept_guid-requires : goal.kept_guid-requires
kept_guid-requires c =
    (c.requires.0, length-lent c.args.s.now c.args.b (c.args.b + 16384) c.requires.2)

pub returns : goal.returns
returns c =
    let a = c.args in
    subst (λ (y : List ℕ). KeptGuid (copy_in a.b Front y) c.kept_guid.result) (lent-part a.s.now a.b (a.b + 16384)) c.kept_guid.ensures
