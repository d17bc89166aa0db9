use Rattle.std.proofs.Common.{◌≡◌, sym, ◌∙◌, arith}
use Rattle.text.proofs.Laws.{digit-first, no-digits}
use Rattle.text.proofs.inner.put_digits.Goals as goal

pub loop-i-preserved : goal.loop-i-preserved
loop-i-preserved c =
    let a = c.args in
    let l = c.loop-i in
    rw c.digit_of.ensures (digit-first l.s a.at a.base l.i l.v (omega arith)) ∙ l.invariant

pub returns : goal.returns
returns c =
    let a = c.args in
    let l = c.loop-i in
    let z : l.i ≡ 0 = omega arith in
    sym (no-digits l.s a.at a.base l.v) ∙ rw z at l.invariant
