use Rattle.std.proofs.Common.{rules, arith, [], ◌∷◌, ap, Some}
use Rattle.std.specs.Fmt.{◌++?◌}
use Rattle.console.proofs.Displays.{displayed-next, hex-shown}
use Rattle.console.specs.Answers.{spaced_byte}
use Rattle.edges.proofs.BytesDisplay.fmt.Goals as goal

pub loop-byte-preserved : goal.loop-byte-preserved
loop-byte-preserved g c = λ plain.
    let digits = hex-shown c.in_radix.result _ 1 _ c.in_radix.ensures c.laid_out.ensures (omega arith) (omega arith) in
    let one = ap (λ o. Some (32 ∷ []) ++? o) digits in
    displayed-next _ spaced_byte _ _ 0 _ _ _ _ _ c.loop-byte-test.true (c.loop-byte.invariant plain) c.write.ensures.writes (search rules) one
