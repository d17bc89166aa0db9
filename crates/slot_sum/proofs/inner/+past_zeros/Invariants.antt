-- `inner::past_zeros` ends: what is left is halved at each call. Assumes nothing.
use Rattle.slot_sum.proofs.inner.+past_zeros.Given as goal

abbrev pub decreases-past_zeros : goal.decreases-past_zeros
decreases-past_zeros l = l.left
