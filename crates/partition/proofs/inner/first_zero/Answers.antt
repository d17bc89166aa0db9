-- `partition::inner::first_zero` meets its contract. Assumes nothing.
use Rattle.std.proofs.Common.{◌∙◌, ℕ, Option, ap, unwrap_or, rules}
use Rattle.partition.proofs.Laws.{position_first}
use Rattle.partition.proofs.inner.first_zero.Goals as goal

pub returns : goal.returns
returns c = c.unwrap_or.ensures ∙ ap (λ (o : Option ℕ). unwrap_or o 36) c.zero_unit.ensures ∙ position_first c.args.name (search rules)
