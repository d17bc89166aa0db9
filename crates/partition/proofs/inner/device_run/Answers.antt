-- `partition::inner::device_run` meets its contract: the code tests each product and each sum before it makes it, where the definition tests the end alone. Assumes nothing.
use mathlib.Core.Path.{sym, ap, ◌∙◌}
use Prim.Native.Nat.{◌+◌, ◌*◌, ◌^◌, ◌≤◌}
use native.Mathlib.Omega.{arith}
use Rattle.units.proofs.Results.{handed}
use Rattle.units.specs.Meanings.{means}
use Rattle.units.proofs.Laws.{product, product-not}
use Rattle.partition.proofs.Ways.{run-over, run-start, run-from}
use Rattle.partition.proofs.inner.device_run.Goals as goal
use Rattle.partition.proofs.inner.device_run.Goals.{then-most-index-via-then-most-index, then-most-index-via-else-most-index+then-most-count}

pub returns-then-most-index : goal.returns-then-most-index
returns-then-most-index c =
    let s = c.args in
    let each = s.entry_size in
    let over : 2 ^ 64 ≤ s.start.0 * s.b + s.index * each + s.count * each =
    elim c.then-most-index.branch [
      | then-most-index-via-then-most-index w ↦ omega (arith, product-not s.index each c.requires.1 w.if-most-index.true)
      | then-most-index-via-else-most-index+then-most-count w ↦ omega (arith, product-not s.count each c.requires.1 w.if-most-count.true)
    ] in
    run-over _ _ _ over

pub overflow_mul-offset : goal.overflow_mul-offset
overflow_mul-offset c = let s = c in record { fits = product s.args.index s.args.entry_size s.requires.1 c.if-most-index.false }

pub overflow_mul-n : goal.overflow_mul-n
overflow_mul-n c = let s = c in record { fits = product s.args.count s.args.entry_size s.requires.1 c.if-most-count.false }

pub returns-in_err-base : goal.returns-in_err-base
returns-in_err-base c =
    let s = c in
    handed _ _ c.from_residual.ensures.1 ∙ run-start s.args.b s.args.start.0 _ _ s.requires.0 (sym c.in_err-base.ensures)

pub returns : goal.returns
returns c =
    let s = c in
    c.run_place.ensures ∙ run-from s.args.b s.args.start.0 _ _ s.requires.0 (sym c.in_ok-base.ensures)
