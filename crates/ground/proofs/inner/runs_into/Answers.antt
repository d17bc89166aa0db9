-- `ground::inner::runs_into` meets its contract: one law for each way out. Assumes nothing.
use mathlib.Core.Path.{refl, sym, ◌∙◌}
use lib.ListN.{length}
use Rattle.units.proofs.Chains.{number-of}
use Rattle.ground.specs.Search.{front_runs}
use Rattle.ground.proofs.Ways.{rows_fit, rows-answered, into-refused, into-filled}
use Rattle.ground.proofs.inner.runs_into.Goals as goal

pub count_runs-n-requires : goal.count_runs-n-requires
count_runs-n-requires c = c.requires

pub returns-then-found-ne0 : goal.returns-then-found-ne0
returns-then-found-ne0 c =
    let k = c in
    let a = k.args in
    rows-answered _ 0 c.if-found-ne0.true c.answer.ensures
    (into-refused (front_runs a.b a.len a.copy.now) a.starts.now a.lengths.now k.count_runs-n.ensures k.rows_check-found.ensures c.if-found-ne0.true refl)

pub fill-requires : goal.fill-requires
fill-requires c =
    let i = c in
    let k = i in
    let s = k in
    let a = s.args in
    let f = rows_fit (length a.starts.now) (length a.lengths.now) k.count_runs-n.result (sym (number-of k.rows_check-found.ensures) ∙ i.if-found-ne0.false) in
    record { checked = s.requires; n_value = k.count_runs-n.ensures; n_in_bounds = (f.0, f.1) }

pub returns : goal.returns
returns c =
    let f = c in
    let i = f in
    let k = i in
    let a = k.args in
    into-filled (front_runs a.b a.len a.copy.now) a.starts.now a.lengths.now k.count_runs-n.ensures k.rows_check-found.ensures i.if-found-ne0.false f.fill.ensures.starts_after f.fill.ensures.lengths_after
