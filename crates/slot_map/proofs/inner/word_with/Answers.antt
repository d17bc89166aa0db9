-- `slot_map::inner::word_with` meets its contract. Assumes nothing.
use mathlib.Core.Path.{sym, ap, ◌∙◌}
use mathlib.Core.Bool.{Bool}
use lib.ListN.{set}
use Rattle.slot_map.specs.Bits.{bits_of}
use Rattle.slot_map.proofs.inner.word_with.Goals as goal

pub returns-then-yes : goal.returns-then-yes
returns-then-yes c =
    let a = c.args in
    c.word_set.ensures ∙ ap (λ (b : Bool). set (bits_of 64 a.x) a.k b) (sym c.if-yes.true)

pub returns : goal.returns
returns c =
    let a = c.args in
    c.word_clear.ensures ∙ ap (λ (b : Bool). set (bits_of 64 a.x) a.k b) (sym c.if-yes.false)
