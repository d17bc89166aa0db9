-- `uefi::inner::bad_stated` meets its contract: the definition's two tests, in the code's order. Assumes nothing.
use Rattle.units.proofs.Laws.{tests}
use Rattle.uefi.specs.Reading.{bad_stated}
use Rattle.uefi.proofs.inner.bad_stated.Goals as goal

pub returns-then-n-lt92 : goal.returns-then-n-lt92
unfolding bad_stated
returns-then-n-lt92 c = search tests

pub returns-else-n-lt92 : goal.returns-else-n-lt92
unfolding bad_stated
returns-else-n-lt92 c = search tests
