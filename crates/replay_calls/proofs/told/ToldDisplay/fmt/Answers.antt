use Rattle.std.proofs.Common.{rules, arith}
use Rattle.console.proofs.Displays.{displayed-next, hex-shown}
use Rattle.replay_calls.specs.Texts.{hex_byte}
use Rattle.replay_calls.proofs.told.ToldDisplay.fmt.Goals as goal

pub loop-byte-preserved : goal.loop-byte-preserved
loop-byte-preserved g c = λ plain.
    let digits = hex-shown c.in_radix.result _ 1 _ c.in_radix.ensures c.laid_out.ensures (omega arith) (omega arith) in
    displayed-next _ hex_byte _ _ 0 _ _ _ _ _ c.loop-byte-test.true (c.loop-byte.invariant plain) c.write.ensures.writes (search rules) digits
