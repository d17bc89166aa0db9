-- The register, fed with what is left, is what the whole slice feeds. Assumes nothing.
use Rattle.std.proofs.Common.{◌≡◌, length}
use Rattle.crc32.specs.Crc.{feed}
use Rattle.crc32.proofs.inner.words.Given as goal

abbrev pub invariant-loop-b : goal.invariant-loop-b
invariant-loop-b l = feed l.x l.rest ≡ feed l.r l.s

abbrev pub decreases-loop-b : goal.decreases-loop-b
decreases-loop-b l = length l.rest
