-- `rows::inner::Plan::entry_place` meets its contract. Assumes nothing.
use mathlib.Core.Path.{ap, ◌∙◌}
use Prim.Native.Nat.{ℕ}
use Rattle.rows.specs.Slots.{place_each}
use Rattle.rows.proofs.inner.Plan.entry_place.Goals as goal

pub entry_place-requires : goal.entry_place-requires
entry_place-requires c = rw c.array_place-k.ensures c.requires.1

pub returns : goal.returns
returns c =
    let p = c.args.self in
    c.entry_place.ensures ∙ ap (λ (k : ℕ). place_each p.each p.place.0 k) c.array_place-k.ensures
