-- `partition::Partition::bytes_len` meets its contract: the blocks are counted first, and the code divides where the definition multiplies. Assumes nothing.
use mathlib.Core.Path.{sym, ap, ◌∙◌}
use native.Mathlib.Omega.{arith}
use Rattle.units.proofs.Results.{handed}
use Rattle.units.specs.Meanings.{means}
use Rattle.units.proofs.Laws.{size-yes, product, product-not}
use Rattle.partition.proofs.Ways.{bytes-size, bytes-refused, bytes-over, bytes_counted}
use Rattle.std.specs.Prelude.{not}
use Rattle.partition.proofs.Partition.bytes_len.Goals as goal

pub returns-then-not-good_block_size : goal.returns-then-not-good_block_size
returns-then-not-good_block_size c = bytes-size _ _ _ c.good_block_size.ensures (ap not c.if-not-good_block_size.true)

pub nonzero_div-b : goal.nonzero_div-b
nonzero_div-b c = let p = size-yes _ c.good_block_size.ensures (ap not c.if-not-good_block_size.false) in omega arith

pub returns-then-b-n : goal.returns-then-b-n
returns-then-b-n c =
    bytes-over _ _ _ c.good_block_size.ensures (ap not c.if-not-good_block_size.false) (sym c.in_ok-n.ensures) (product-not _ _ (size-yes _ c.good_block_size.ensures (ap not c.if-not-good_block_size.false)) c.if-b-n.true)

pub overflow_mul-result : goal.overflow_mul-result
overflow_mul-result c = record { fits = product _ _ (size-yes _ c.good_block_size.ensures (ap not c.if-not-good_block_size.false)) c.if-b-n.false }

pub returns-in_err-n : goal.returns-in_err-n
returns-in_err-n c = handed _ _ c.from_residual.ensures.1 ∙ bytes-refused _ _ _ c.good_block_size.ensures (ap not c.if-not-good_block_size.false) (sym c.in_err-n.ensures)

pub returns : goal.returns
returns c =
    bytes_counted _ _ _ c.good_block_size.ensures (ap not c.if-not-good_block_size.false) (sym c.in_ok-n.ensures) (overflow_mul-result c).fits
