-- `card::changing::flag_check` meets its contract. Assumes nothing.
use borrow.Author.Tests.{eq-eqb, ne_eqb}
use Rattle.card.specs.Calls.{flag_check}
use Rattle.card.proofs.changing.flag_check.Goals as goal

pub returns-then-reserved-ne0 : goal.returns-then-reserved-ne0
unfolding flag_check
returns-then-reserved-ne0 c = rw (ne_eqb _ 0 c.if-reserved-ne0.true)

pub returns : goal.returns
unfolding flag_check
returns c = rw (eq-eqb _ 0 c.if-reserved-ne0.false)
