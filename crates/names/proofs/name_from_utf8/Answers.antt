-- `names::name_from_utf8` meets its contract. The invariant: what is stored so far, and from here the run is the whole text's. Assumes nothing.
use native.Mathlib.Omega.{arith}
use Rattle.names.proofs.Runs.{gone-start, gone-end, gone-none, gone-zero, gone-full, gone-on}
use Rattle.names.proofs.name_from_utf8.Goals as goal

pub loop-at-init : goal.loop-at-init
loop-at-init c = (omega arith, omega arith, gone-start c.args.text.now)

pub returns-then-s-eq0 : goal.returns-then-s-eq0
returns-then-s-eq0 c =
    let d = c in
    gone-none d.loop-at.invariant.2 d.scalar_at-s.ensures.0 (omega arith) c.refused.ensures c.if-s-eq0.true

pub returns-then-s-eq0-2 : goal.returns-then-s-eq0-2
returns-then-s-eq0-2 c =
    let d = c in
    let s = d in
    gone-zero s.loop-at.invariant.2 s.scalar_at-s.ensures.0 (omega arith) d.if-s-eq0.false c.refused-then-s-eq0-2.ensures c.if-s-eq0-2.true

pub returns-then-k-n-gt36 : goal.returns-then-k-n-gt36
returns-then-k-n-gt36 c =
    let n = c in
    let d = n in
    let s = d in
    gone-full s.loop-at.invariant.2 s.scalar_at-s.ensures.0 (omega arith) d.if-s-eq0.false d.if-s-eq0-2.false n.unit_count-n.ensures.0
    c.refused-then-k-n-gt36.ensures c.if-k-n-gt36.true

pub put_units-requires : goal.put_units-requires
put_units-requires c = (omega arith, omega arith)

pub loop-at-preserved : goal.loop-at-preserved
loop-at-preserved c =
    let n = c in
    let d = n in
    let s = d in (
      omega arith,
      omega arith,
      gone-on s.loop-at.invariant.2 s.scalar_at-s.ensures.0 (omega arith) d.if-s-eq0.false d.if-s-eq0-2.false n.unit_count-n.ensures.0
          c.put_units.ensures (omega arith),
    )

pub returns : goal.returns
returns c = gone-end c.loop-at.invariant.2 (omega arith)
