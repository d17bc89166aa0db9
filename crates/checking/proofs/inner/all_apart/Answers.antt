-- `checking::inner::all_apart` meets its contract. The invariant: no two of the entries that were passed share a block, and none of them ends after block top. Assumes nothing.
use mathlib.Core.Path.{sym, ap, ◌∙◌}
use mathlib.Core.Bool.{not}
use mathlib.Core.List.{List}
use Prim.Native.Nat.{ℕ}
use native.Mathlib.Omega.{arith}
use borrow.Author.Tests.{not-true, not-false}
use Rattle.units.specs.Bytes.{part}
use Rattle.checking.specs.Order.{greatest_last}
use Rattle.tables.proofs.Orders.{all-fails, all_more, all_end, all_start}
use Rattle.tables.proofs.EntryLaws.{entry_at}
use Rattle.checking.proofs.CheckWays.{square}
use Rattle.checking.proofs.OrderLaws.{below_none, below_more}
use Rattle.checking.proofs.inner.all_apart.Goals as goal

pub loop-k-init : goal.loop-k-init
loop-k-init c = (all_start _, below_none _ _)

pub apart_from-requires : goal.apart_from-requires
apart_from-requires c = let l = c.loop-k in record { at_in_bounds = (c.requires, omega arith); below = l.invariant.1 }

pub returns-then-not-apart_from : goal.returns-then-not-apart_from
returns-then-not-apart_from c =
    let a = c.args in
    sym (all-fails 128 _ c.loop-k.k (omega arith) (sym c.apart_from.ensures ∙ not-true _ (ap not c.if-not-apart_from.true)))
    ∙ square (part a.img.now a.at.0 16384)

pub loop-k-preserved : goal.loop-k-preserved
loop-k-preserved c =
    let l = c.loop-k in
    let a = c.args in
    let e = c.greatest_last-top.ensures ∙ ap (λ (e : List ℕ). greatest_last e l.top.0) (sym (entry_at a.img.now a.at.0 l.k (omega arith) c.entry_place.ensures)) in
    (all_more l.k _ l.invariant.0 (sym c.apart_from.ensures ∙ not-false _ (ap not c.if-not-apart_from.false)), below_more (part a.img.now a.at.0 16384) l.k l.top.0 l.invariant.1 e)

pub returns : goal.returns
returns c =
    let a = c.args in
    let l = c.loop-k in
    all_end l.k 128 _ (omega arith) (omega arith) l.invariant.0 ∙ square (part a.img.now a.at.0 16384)
