-- `checking::inner::apart_from` meets its contract. Assumes nothing.
use mathlib.Core.Path.{sym, ap, ◌∙◌}
use mathlib.Core.List.{List}
use Prim.Native.Nat.{ℕ}
use native.Mathlib.Omega.{arith}
use Rattle.units.specs.Bytes.{part}
use Rattle.checking.specs.Order.{starts_after}
use Rattle.tables.proofs.EntryLaws.{entry_at}
use Rattle.checking.proofs.OrderLaws.{after-apart}
use Rattle.checking.proofs.inner.apart_from.Goals as goal

pub starts_after-requires : goal.starts_after-requires
starts_after-requires c = omega (arith, c.entry_place.ensures)

pub returns-then-starts_after : goal.returns-then-starts_after
returns-then-starts_after c =
    let s = c in
    let a = s.args in
    sym (after-apart (part a.img.now a.at.0 16384) a.k a.top.0 s.requires.below
    (ap (λ (e : List ℕ). starts_after e a.top.0) (entry_at a.img.now a.at.0 a.k s.requires.at_in_bounds.1 c.entry_place.ensures) ∙ sym c.starts_after.ensures ∙ c.if-starts_after.true))

pub returns : goal.returns
returns c = c.apart_below.ensures
