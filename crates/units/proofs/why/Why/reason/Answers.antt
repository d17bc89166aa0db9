-- `units::why::Why::reason` meets its contract. Assumes nothing.
use mathlib.Core.Path.{ap}
use Rattle.units.specs.declared.Refusal.{Refusal}
use Rattle.units.specs.Refusals.{reason_of}
use Rattle.units.proofs.why.Why.reason.Goals as goal

pub returns : goal.returns
unfolding reason_of
returns c = ap (λ (r : Refusal). record { what = r; place = c.args.self.place }) c.refusal.ensures
