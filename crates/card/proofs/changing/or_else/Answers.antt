-- `card::changing::or_else` meets its contract. Assumes nothing.
use mathlib.Core.Path.{refl}
use Rattle.units.proofs.Chains.{found, past}
use Rattle.card.proofs.changing.or_else.Goals as goal

pub returns-then-one-ne0 : goal.returns-then-one-ne0
returns-then-one-ne0 c = found _ refl c.if-one-ne0.true

pub returns : goal.returns
returns c = past refl c.if-one-ne0.false refl
