use Rattle.console.proofs.Streams.{Writes-part}
use Rattle.console.proofs.complain.Goals as goal

pub returns : goal.returns
returns g c = Writes-part _ _ c.write_all.result c.args.line.now c.write_all.ensures
