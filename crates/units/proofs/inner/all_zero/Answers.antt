-- `units::inner::all_zero` meets its contract. Assumes nothing.
use Rattle.std.proofs.Common.{rules, ◌≡◌, ◌∙◌, fold, ap, nat_eq}
use Rattle.std.specs.Int.Bits.{bit_or}
use Rattle.units.specs.Bytes.{part}
use Rattle.units.proofs.Laws.{fold_zero}
use Rattle.units.proofs.inner.all_zero.Goals as goal

pub returns : goal.returns
returns c =
    let own = part c.args.s.now c.args.at c.args.n in
    let e : c.fold.result ≡ fold bit_or 0 own = search rules in
    ap (λ r. nat_eq r 0) e ∙ fold_zero 0 own
