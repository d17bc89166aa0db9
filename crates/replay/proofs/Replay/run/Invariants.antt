-- The image is never longer than its room.
use Rattle.std.proofs.Common.{◌≤◌}
use Rattle.replay.proofs.Replay.run.Given as goal

abbrev pub invariant-loop : goal.invariant-loop
invariant-loop g l = l.self.len ≤ 65536
