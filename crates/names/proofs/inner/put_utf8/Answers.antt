-- `names::inner::put_utf8` meets its contract. Assumes nothing.
use Rattle.names.proofs.Sizes.{count-1, count-2, count-3, count-4, store-1, store-2, store-3, store-4}
use native.Mathlib.Omega.{arith}
use Rattle.names.proofs.inner.put_utf8.Goals as goal

pub bounds-words-n : goal.bounds-words-n
bounds-words-n c = omega (arith, count-1 c.args.code c.if-code-lt128.true)

pub returns-then-code-lt128 : goal.returns-then-code-lt128
returns-then-code-lt128 c = store-1 _ _ _ c.if-code-lt128.true

pub bounds-words-n-then-code-lt2048 : goal.bounds-words-n-then-code-lt2048
bounds-words-n-then-code-lt2048 c = omega (arith, count-2 c.args.code c.if-code-lt128.false c.if-code-lt2048.true)

pub bounds-words-n-then-code-lt2048-2 : goal.bounds-words-n-then-code-lt2048-2
bounds-words-n-then-code-lt2048-2 c = omega (arith, count-2 c.args.code c.if-code-lt128.false c.if-code-lt2048.true)

pub returns-then-code-lt2048 : goal.returns-then-code-lt2048
returns-then-code-lt2048 c = store-2 _ _ _ c.if-code-lt128.false c.if-code-lt2048.true

pub bounds-words-n-then-code-lt65536 : goal.bounds-words-n-then-code-lt65536
bounds-words-n-then-code-lt65536 c = omega (arith, count-3 c.args.code c.if-code-lt2048.false c.if-code-lt65536.true)

pub bounds-words-n-then-code-lt65536-2 : goal.bounds-words-n-then-code-lt65536-2
bounds-words-n-then-code-lt65536-2 c = omega (arith, count-3 c.args.code c.if-code-lt2048.false c.if-code-lt65536.true)

pub bounds-words-n-then-code-lt65536-3 : goal.bounds-words-n-then-code-lt65536-3
bounds-words-n-then-code-lt65536-3 c = omega (arith, count-3 c.args.code c.if-code-lt2048.false c.if-code-lt65536.true)

pub returns-then-code-lt65536 : goal.returns-then-code-lt65536
returns-then-code-lt65536 c = store-3 _ _ _ c.if-code-lt2048.false c.if-code-lt65536.true

pub bounds-words-n-2 : goal.bounds-words-n-2
bounds-words-n-2 c = omega (arith, count-4 c.args.code c.if-code-lt65536.false)

pub bounds-words-n-3 : goal.bounds-words-n-3
bounds-words-n-3 c = omega (arith, count-4 c.args.code c.if-code-lt65536.false)

pub bounds-words-n-4 : goal.bounds-words-n-4
bounds-words-n-4 c = omega (arith, count-4 c.args.code c.if-code-lt65536.false)

pub bounds-words-n-5 : goal.bounds-words-n-5
bounds-words-n-5 c = omega (arith, count-4 c.args.code c.if-code-lt65536.false)

pub returns : goal.returns
returns c = store-4 _ _ _ c.if-code-lt65536.false
