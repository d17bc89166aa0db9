-- `partition::Flags::bits` meets its contract. Assumes nothing.
use mathlib.Core.Path.{sym, ap, ◌∙◌}
use Prim.Native.Nat.{◌^◌}
use borrow.Author.Tests.{leb-false}
use Rattle.units.specs.Answer.{accepted}
use Rattle.partition.specs.Flags.{bits_of}
use Rattle.partition.proofs.Flags.bits.Goals as goal

pub returns-then-too_wide : goal.returns-then-too_wide
unfolding bits_of
returns-then-too_wide c = rw (← c.too_wide.ensures, c.if-too_wide.true)

pub joined-requires : goal.joined-requires
joined-requires c = leb-false (2 ^ 45) _ (sym c.too_wide.ensures ∙ c.if-too_wide.false)

pub returns : goal.returns
unfolding bits_of
returns c = rw (← c.too_wide.ensures, c.if-too_wide.false) (ap accepted c.joined.ensures)
