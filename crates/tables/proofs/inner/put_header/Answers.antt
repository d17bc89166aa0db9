-- `tables::inner::put_header` meets its contract. Assumes nothing.
use mathlib.Core.Path.{◌∙◌}
use native.Mathlib.Omega.{arith}
use Rattle.tables.specs.Headers.{head_block}
use Rattle.tables.proofs.Good.{room-ok}
use Rattle.tables.proofs.inner.put_header.Goals as goal

pub put_block-requires : goal.put_block-requires
put_block-requires c =
    let s = c in
    let r = room-ok _ _ s.requires.0 in
    (omega (arith, r.least), omega (arith, c.header_in-at.ensures.1, s.requires.1))

pub returns : goal.returns
unfolding head_block
returns c =
    let put = c in
    let placed = put in
    put.put_block.ensures ∙ rw (placed.header_in-at.ensures.0, placed.with_sums-h.ensures, placed.card_header-plain.ensures)
