-- Each byte below the index is its own place, modulo 256.
use Rattle.std.proofs.Common.{◌≡◌, ℕ, ◌<◌, ◌%◌, length, get_or}
use Rattle.sums.proofs.fill_rising.Given as goal

abbrev pub invariant-loop-i : goal.invariant-loop-i
invariant-loop-i l = (length l.bytes ≡ length l.initial.bytes) × ((k : ℕ) → k < l.i → get_or l.bytes k 0 ≡ k % 256)
