-- `rows::inner::meets` meets its contract: what the closure makes is a plan of the image. Assumes nothing.
use Rattle.std.proofs.Common.{refl}
use Rattle.rows.proofs.inner.meets.Goals as goal

pub fill-q-requires : goal.fill-q-requires
fill-q-requires g c = c.requires.made c.plan-p.result (c.args.img, c.plan-p.ensures, refl)
