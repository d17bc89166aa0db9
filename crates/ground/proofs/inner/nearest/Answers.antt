-- `ground::inner::nearest` meets its contract. The invariant: the best so far of the entries that were passed. Assumes nothing.
use mathlib.Core.Path.{◌≡◌, sym, ap, ◌∙◌, subst}
use mathlib.Core.List.{List}
use Prim.Native.Nat.{ℕ}
use native.Mathlib.Omega.{arith}
use Rattle.units.specs.Bytes.{part}
use Rattle.tables.proofs.EntryLaws.{entry_at}
use Rattle.ground.specs.Search.{Nearest, nearer_of}
use Rattle.ground.proofs.SearchLaws.{nearest-none, nearest-more}
use Rattle.ground.proofs.inner.nearest.Goals as goal

pub loop-k-init : goal.loop-k-init
loop-k-init c = nearest-none _ _ _

pub nearer-best-requires : goal.nearer-best-requires
nearer-best-requires c = omega (arith, c.entry_place.ensures)

pub loop-k-preserved : goal.loop-k-preserved
loop-k-preserved c =
    let l = c.loop-k in
    let a = c.args in
    let e = c.nearer-best.ensures ∙ ap (λ (e : List ℕ). nearer_of e a.x.0 l.best) (sym (entry_at a.copy.now a.array.0 l.k (omega arith) c.entry_place.ensures)) in
    nearest-more (part a.copy.now a.array.0 16384) l.k a.x.0 a.none l.best l.invariant e

pub returns : goal.returns
returns c =
    let l = c.loop-k in
    let a = c.args in
    let e : l.k ≡ 128 = omega arith in
    subst (λ (k : ℕ). Nearest (part a.copy.now a.array.0 16384) k a.x.0 a.none l.best) e l.invariant
