-- `tables::inner::array_sum` meets its contract. Assumes nothing.
use mathlib.Core.Path.{ap, ◌∙◌}
use Rattle.units.proofs.Lists.{lent-part}
use Rattle.crc32.specs.Crc.{crc}
use Rattle.tables.proofs.Copies.{array_of}
use Rattle.tables.proofs.inner.array_sum.Goals as goal

pub returns : goal.returns
returns c =
    let k = c in
    let a = k.args in
    c.sum.ensures ∙ ap crc (lent-part a.copy.now k.array_in-array.result.0 16384 ∙ array_of _ _ a.copy.now k.array_in-array.ensures.0)
