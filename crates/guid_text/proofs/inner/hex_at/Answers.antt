use Rattle.std.proofs.Common.{◌≡◌, ◌<◌, sym, ◌∙◌, arith}
use Rattle.units.proofs.Lists.{lent-part, get_d_part}
use Rattle.guid_text.proofs.Laws.{hex-more, hex-none, below-8, one-power-more}
use Rattle.guid_text.proofs.inner.hex_at.Goals as goal

pub overflow_mul-v : goal.overflow_mul-v
overflow_mul-v c = omega (arith, below-8 c.loop-c.c-index (omega arith))

pub overflow_add-v : goal.overflow_add-v
overflow_add-v c = omega (arith, below-8 c.loop-c.c-index (omega arith))

pub loop-c-preserved : goal.loop-c-preserved
loop-c-preserved c =
    let a = c.args in
    let l = c.loop-c in
    let i : l.c-index < a.n = omega arith in (
      rw (c.digit_value.ensures, lent-part a.text.now a.at a.n, get_d_part a.text.now a.at a.n l.c-index i) (hex-more a.text.now a.at l.c-index a.n l.v i (omega arith)) ∙ l.invariant.0,
      omega (arith, one-power-more l.c-index),
    )

pub returns : goal.returns
returns c =
    let a = c.args in
    let l = c.loop-c in
    let e : l.c-index ≡ a.n = omega arith in
    (sym (hex-none a.text.now a.at l.c-index a.n l.v e) ∙ l.invariant.0, rw e at l.invariant.1)
