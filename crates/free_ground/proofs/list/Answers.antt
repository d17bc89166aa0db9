use Rattle.std.proofs.Common.{replicate, refl, arith}
use Rattle.ground.proofs.Theorems.{row-facts}
use Rattle.free_ground.proofs.list.Goals as goal

pub print_runs-requires-clause-n_in_bounds : goal.print_runs-requires-clause-n_in_bounds
print_runs-requires-clause-n_in_bounds g c =
    let f = row-facts 512 c.args.img.now (replicate 129 0) (replicate 129 0) c.in-Ok.ensures refl in
    (f.starts-long, f.lengths-long)

pub print_runs-requires-clause-by_index : goal.print_runs-requires-clause-by_index
print_runs-requires-clause-by_index g c =
    let f = row-facts 512 c.args.img.now (replicate 129 0) (replicate 129 0) c.in-Ok.ensures refl in
    λ i h. (f.some i h, omega (arith, f.inside i h))
