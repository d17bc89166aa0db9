-- `names::inner::compose` meets its contract. The invariant: what is stored so far, three bytes a unit at most, and with what is to come it is the whole text. Assumes nothing.
use mathlib.Core.Path.{sym, ◌∙◌}
use native.Mathlib.Omega.{arith}
use Rattle.names.proofs.Ways.{unit-past}
use Rattle.names.proofs.Runs.{told-start, told-room, told-end, told-on}
use Rattle.names.proofs.inner.compose.Goals as goal

pub loop-i-init : goal.loop-i-init
loop-i-init c = (omega arith, omega arith, told-start c.args.name.now)

pub returns-then-u-eq0 : goal.returns-then-u-eq0
returns-then-u-eq0 c =
    let l = c.loop-i in
    (omega (arith, told-room l.invariant.2), told-end l.invariant.2 (omega arith) (sym c.unit_at-u.ensures ∙ c.if-u-eq0.true))

pub put_utf8-requires : goal.put_utf8-requires
put_utf8-requires c = (omega arith, omega arith)

pub loop-i-preserved : goal.loop-i-preserved
loop-i-preserved c =
    let p = c in
    let u = p in (
      omega arith,
      omega arith,
      told-on u.loop-i.invariant.2 (omega arith) u.unit_at-u.ensures p.if-u-eq0.false p.point_at-p.ensures.value.0 (omega arith)
          c.put_utf8.ensures c.byte_count-n.ensures,
    )

pub returns : goal.returns
returns c =
    let l = c.loop-i in (
      omega (arith, told-room l.invariant.2),
      told-end l.invariant.2 (omega arith) (sym (unit-past c.args.name.now l.i (omega arith))),
    )
