-- `builder::blocks_for` meets its contract. Assumes nothing.
use mathlib.Core.Path.{refl}
use Rattle.builder.proofs.Laws.{few-blocks}
use Rattle.builder.proofs.blocks_for.Goals as goal

pub returns : goal.returns
returns c = (refl, few-blocks _ _ c.requires.1)
