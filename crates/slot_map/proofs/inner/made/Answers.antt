-- `slot_map::inner::made` meets its contract. Assumes nothing.
use Rattle.slot_map.proofs.Ways.{made-fine, made-refused}
use Rattle.slot_map.proofs.inner.made.Goals as goal

pub returns-then-n-eq0 : goal.returns-then-n-eq0
returns-then-n-eq0 c = let a = c.args in made-fine a.found a.map c.if-n-eq0.true

pub returns : goal.returns
returns c = let a = c.args in made-refused a.found a.map c.if-n-eq0.false c.reason.ensures
