-- `partition::inner::clear_name` meets its contract. Assumes nothing.
use Rattle.std.proofs.Common.{arith, rules}
use Rattle.partition.proofs.Laws.{first-le, cleared-filled}
use Rattle.partition.proofs.inner.clear_name.Goals as goal

pub offset_bounds-out-first_zero : goal.offset_bounds-out-first_zero
offset_bounds-out-first_zero c = search (rules, first-le c.args.name)

pub slice_bounds-fill-count : goal.slice_bounds-fill-count
slice_bounds-fill-count c = omega (arith, c.first_zero.ensures, first-le c.args.name)

pub slice_bounds-out-start : goal.slice_bounds-out-start
slice_bounds-out-start c = search (rules, first-le c.args.name)

pub returns : goal.returns
returns c = cleared-filled c.args.name _ _ 36 _ c.first_zero.ensures (search rules) (omega arith) (c.fill.ensures.after (λ y e. e))
