-- `inner::past_zeros` meets its contract, by what is left, which is halved at each call. Assumes nothing.
use Rattle.std.proofs.Common.{sym, ap, ◌∙◌, ◌+◌, ◌*◌, ◌/◌, ◌^◌, arith}
use Rattle.crc32.specs.Crc.{steps}
use Rattle.crc32.specs.Register.{feed-zeros}
use Rattle.slot_sum.proofs.Halving.{some_left, half-left, digit-left, none_left}
use Rattle.slot_sum.proofs.inner.+past_zeros.Goals as goal

pub returns-then-left-eq0 : goal.returns-then-left-eq0
returns-then-left-eq0 t c =
    let a = c.args in
    sym (feed-zeros (a.left * 2 ^ a.k) a.x ∙ none_left a.k a.left a.x (omega arith))

pub past_zeros-requires : goal.past_zeros-requires
past_zeros-requires t c =
    let m = some_left c.args.k c.args.left (omega arith) c.requires.1 (omega arith) in
    (omega arith, (omega (arith, m), half-left c.args.k c.args.left m c.requires.1))

pub returns : goal.returns
returns t c =
    let a = c.args in
    c.past_zeros.ensures ∙ feed-zeros (a.left / 2 * 2 ^ (a.k + 1)) c.past_one-y.result
    ∙ ap (steps (8 * (a.left / 2 * 2 ^ (a.k + 1)))) c.past_one-y.ensures
    ∙ digit-left a.k a.left a.x ∙ sym (feed-zeros (a.left * 2 ^ a.k) a.x)
