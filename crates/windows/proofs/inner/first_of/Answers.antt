-- `windows::inner::first_of` meets its contract. Assumes nothing.
use mathlib.Core.Path.{sym}
use Rattle.windows.proofs.Ways.{if-zero, if-not}
use Rattle.windows.proofs.inner.first_of.Goals as goal

pub returns-then-one-ne0 : goal.returns-then-one-ne0
returns-then-one-ne0 c = sym (if-not _ _ _ c.if-one-ne0.true)

pub returns : goal.returns
returns c = sym (if-zero _ _ _ c.if-one-ne0.false)
