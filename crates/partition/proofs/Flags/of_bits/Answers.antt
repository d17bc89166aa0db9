-- `partition::Flags::of_bits` meets its contract. Assumes nothing.
use native.Mathlib.Nat.{div-one}
use Rattle.partition.specs.Flags.{flags_of}
use Rattle.partition.proofs.Flags.of_bits.Goals as goal

pub returns : goal.returns
unfolding flags_of
returns c = rw (div-one c.args.bits)
