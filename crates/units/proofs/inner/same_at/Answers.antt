-- `units::inner::same_at` meets its contract: the chain gives the pairs of the two lists, and the fold over them is `fold_same`. Assumes nothing.
use Rattle.std.proofs.Common.{rules, ◌≡◌, ◌∙◌, ℕ, fold, ap, nat_eq, length}
use Rattle.std.specs.Int.Bits.{bit_or, bit_xor}
use Rattle.std.specs.List.{zip}
use Rattle.std.proofs.lemmas.Iterator.{YieldsList-from_slice, YieldsList-from_zip}
use Rattle.std.proofs.lemmas.Iterator.Consumers.{fold_from_yields_List}
use Rattle.units.specs.Bytes.{part}
use Rattle.units.proofs.Lists.{length_part}
use Rattle.units.proofs.Laws.{fold_same}
use Rattle.units.proofs.inner.same_at.Goals as goal

pub returns : goal.returns
returns c =
    let other = c.args.other.now in
    let own = part c.args.s.now c.args.at (length other) in
    let e : c.fold.result ≡ fold (λ (a : ℕ) (p : ℕ × ℕ). bit_or a (bit_xor p.0 p.1)) 0 (zip own other) =
    fold_from_yields_List _ _ 0 c.fold.result c.fold.ensures.ran
    (YieldsList-from_zip (YieldsList-from_slice own (search rules)) (YieldsList-from_slice other (search rules))) (λ a x b q k. search rules) in
    ap (λ r. nat_eq r 0) e ∙ fold_same 0 own other (length_part c.args.s.now c.args.at (length other) c.requires)
