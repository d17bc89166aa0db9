-- The sum so far, gone on over what is left, is the sum of all bytes.
use Rattle.std.proofs.Common.{◌≡◌}
use Rattle.crc32.specs.Crc.{crc_from, crc}
use Rattle.sums.proofs.sum_cut.Given as goal

abbrev pub invariant-loop-cut : goal.invariant-loop-cut
invariant-loop-cut l = crc_from l.sum l.rest ≡ crc l.bytes
