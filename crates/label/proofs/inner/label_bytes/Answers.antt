-- `label::inner::label_bytes` meets its contract: the definition's 13 bytes, one by one. Assumes nothing.
use Rattle.units.specs.Bytes.{bytes}
use Rattle.label.specs.Labels.{label_bytes}
use Rattle.label.proofs.inner.label_bytes.Goals as goal

pub returns : goal.returns
unfolding label_bytes bytes
returns c = rw (c.low.ensures, c.high.ensures, c.low-2.ensures, c.high-2.ensures, c.low-3.ensures, c.high-3.ensures)
