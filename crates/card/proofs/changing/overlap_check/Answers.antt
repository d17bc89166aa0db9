-- `card::changing::overlap_check` meets its contract. Assumes nothing.
use mathlib.Core.Path.{◌≡◌, ap, ◌∙◌}
use mathlib.Core.List.{List}
use Prim.Native.Nat.{ℕ, ◌+◌, ◌-◌}
use native.Mathlib.Omega.{arith}
use lib.Dec.{ltb}
use Rattle.units.specs.Answer.{of_slot, when}
use Rattle.tables.specs.Lens.{Front, copy_in}
use Rattle.tables.specs.Entries.{first_of, last_of}
use Rattle.tables.proofs.Copies.{array_of}
use Rattle.card.specs.Calls.{first_overlap, overlap_check}
use Rattle.card.proofs.changing.overlap_check.Goals as goal

pub first_overlap-requires : goal.first_overlap-requires
first_overlap-requires c = omega (arith, c.array_in-array.ensures.1, c.requires.1)

pub returns : goal.returns
unfolding overlap_check first_of last_of
returns c =
    let met : let a = c.args in c.first_overlap.result ≡ first_overlap (copy_in a.b Front a.front.now).array (a.slot.0 - 1) a.e.now = let a = c.args in
    c.first_overlap.ensures a.e.now c.requires.3 c.first_at-first.ensures c.last_at-last.ensures
    ∙ ap (λ (l : List ℕ). first_overlap l c.array_place-k.result a.e.now) (array_of a.b Front a.front.now c.array_in-array.ensures.0)
    ∙ ap (λ (k : ℕ). first_overlap (copy_in a.b Front a.front.now).array k a.e.now) c.array_place-k.ensures in
    c.of_slot.ensures ∙ ap (λ (j : ℕ). when (ltb j 128) (of_slot 22 (j + 1))) met
