-- `units::Guid::is_nil` meets its contract: the code tests the fields where the definition tests their bytes. Assumes nothing.
use Rattle.std.proofs.Common.{◌≡◌, arith}
use Rattle.std.specs.Prelude.{◌&&◌, eqb}
use Rattle.std.proofs.lemmas.Bool.Decides.{nat_tests}
use Rattle.units.specs.Held.{FitGuid}
use Rattle.units.proofs.GuidLaws.{fit-guid-of, nil-fields}
use Rattle.units.proofs.Guid.is_nil.Goals as goal

pub returns-then-fields : goal.returns-then-fields
returns-then-fields c =
    let g = c.args.self in
    let f : FitGuid g = fit-guid-of g _ c.well_formed.0 in
    let e : c.if-self-eq0-2.fields ≡ ((eqb g.time_low 0 && eqb g.time_mid 0) && eqb g.time_high 0) = grind (arith, nat_tests) in
    rw (nil-fields g f, ← e, c.if-fields.true) c.tail_is_zero.ensures

pub returns-else-fields : goal.returns-else-fields
returns-else-fields c =
    let g = c.args.self in
    let f : FitGuid g = fit-guid-of g _ c.well_formed.0 in
    let e : c.if-self-eq0-2.fields ≡ ((eqb g.time_low 0 && eqb g.time_mid 0) && eqb g.time_high 0) = grind (arith, nat_tests) in
    rw (nil-fields g f, ← e, c.if-fields.false)
