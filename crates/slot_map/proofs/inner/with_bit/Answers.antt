-- `slot_map::inner::with_bit` meets its contract. Assumes nothing.
use mathlib.Core.Path.{sym, ap, ◌∙◌}
use mathlib.Core.Bool.{Bool}
use mathlib.Core.List.{List, ◌++◌}
use Rattle.slot_map.specs.Bits.{bits_of}
use Rattle.slot_map.proofs.BitLaws.{set-low, set-high}
use Rattle.slot_map.proofs.inner.with_bit.Goals as goal

pub returns-then-place-lt64 : goal.returns-then-place-lt64
returns-then-place-lt64 c =
    let a = c.args in
    ap (λ (l : List Bool). l ++ bits_of 64 a.m.high) c.word_with.ensures ∙ sym (set-low a.m.low a.m.high a.place a.yes c.if-place-lt64.true)

pub returns : goal.returns
returns c =
    let a = c.args in
    ap (λ (l : List Bool). bits_of 64 a.m.low ++ l) c.word_with-2.ensures ∙ sym (set-high a.m.low a.m.high a.place a.yes c.if-place-lt64.false)
