-- `partition::Partition::write_bytes` meets its contract: 28, else the record cut or filled. Assumes nothing.
use mathlib.Core.Path.{sym, ◌∙◌}
use Prim.Native.Nat.{◌^◌}
use borrow.Author.Tests.{leb-false}
use Rattle.units.specs.Answer.{ends}
use Rattle.partition.specs.Device.{entry_written}
use Rattle.partition.proofs.Partition.write_bytes.Goals as goal

pub returns-then-too_wide : goal.returns-then-too_wide
unfolding entry_written
returns-then-too_wide c = ends (rw (← c.too_wide.ensures, c.if-too_wide.true))

pub put_fitted-requires : goal.put_fitted-requires
put_fitted-requires c = leb-false (2 ^ 45) _ (sym c.too_wide.ensures ∙ c.if-too_wide.false)

pub returns : goal.returns
unfolding entry_written
returns c = ends (rw (← c.too_wide.ensures, c.if-too_wide.false, c.put_fitted.ensures))
