-- The sum and the count so far are those of the bytes that the input gave. Each piece but the last has bytes, and the count fits 64 bits as long as one more buffer does.
use Rattle.std.proofs.Common.{◌≡◌, ◌-◌, ℕ, List, length}
use Rattle.std.specs.Io.KnownBytes.{Consumes}
use Rattle.crc32.specs.Crc.{crc}
use Rattle.sums.proofs.sum_input.Given as goal

abbrev pub invariant-loop-length : goal.invariant-loop-length
invariant-loop-length g l = (length l.buf ≡ 65536) × ((bs : List ℕ) × Consumes (g.R.Read.remaining l.initial.input) (g.R.Read.remaining l.input) bs × (l.sum ≡ crc bs) × (l.length ≡ length bs))

abbrev pub decreases-loop-length : goal.decreases-loop-length
decreases-loop-length g l = 18446744073709551615 - l.length
