-- `message::slots::put_decimal` meets its contract. Assumes nothing.
use native.Mathlib.Omega.{arith}
use Rattle.message.specs.Words.{digit_count, decimal}
use Rattle.text.proofs.Laws.{length_digits}
use Rattle.message.proofs.slots.put_decimal.Goals as goal

pub returns : goal.returns
unfolding decimal
returns c =
    let a = c.args in
    let e = c.digit_count-k.ensures.0 in (
      rw (length_digits 10 (digit_count a.n) a.n) (omega (arith, e)),
      omega arith,
      rw e at c.put_digits.ensures,
    )
