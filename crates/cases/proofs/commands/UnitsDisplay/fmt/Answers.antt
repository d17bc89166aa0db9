use Rattle.std.proofs.Common.{rules, arith, [], ◌∷◌, ap, Some}
use Rattle.std.specs.Fmt.{◌++?◌}
use Rattle.console.proofs.Displays.{displayed-next, hex-shown}
use Rattle.cases.specs.Texts.{unit_text}
use Rattle.cases.proofs.commands.UnitsDisplay.fmt.Goals as goal

pub loop-unit-preserved : goal.loop-unit-preserved
loop-unit-preserved g c = λ plain.
    let digits = hex-shown c.in_radix.result _ 3 _ c.in_radix.ensures c.laid_out.ensures (omega arith) (omega arith) in
    let one = ap (λ o. Some (32 ∷ []) ++? o) digits in
    displayed-next _ unit_text _ _ 0 _ _ _ _ _ c.loop-unit-test.true (c.loop-unit.invariant plain) c.write.ensures.writes (search rules) one
