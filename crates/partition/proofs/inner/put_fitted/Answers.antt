-- `partition::inner::put_fitted` meets its contract: the whole of its local array is the record. Assumes nothing.
use mathlib.Core.Path.{◌≡◌, sym, ap, ◌∙◌}
use mathlib.Core.List.{List}
use Prim.Native.Nat.{ℕ}
use lib.ListN.{length, replicate}
use Rattle.units.proofs.Lists.{sets-all}
use Rattle.partition.specs.Format.{entry_bytes, fitted}
use Rattle.partition.proofs.Laws.{fit-entry-of, length-entry}
use Rattle.partition.proofs.inner.put_fitted.Goals as goal

pub returns : goal.returns
returns c =
    let a = c.args in
    let n : length a.p.name ≡ 36 = (fit-entry-of a.p _ c.well_formed.1.0).long in
    let e = c.put_entry.ensures in
    c.fit.ensures
    ∙ ap (λ (xs : List ℕ). fitted (length a.out.now) xs) (e ∙ sets-all (replicate 128 0) (entry_bytes a.p) (sym (length-entry a.p n)))
