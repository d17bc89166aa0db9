-- `checking::inner::entry_ok` meets its contract: an unused entry has to be all zero. Assumes nothing.
use mathlib.Core.Path.{◌∙◌}
use Rattle.checking.proofs.CheckWays.{ok-unused, ok-inside}
use Rattle.checking.proofs.inner.entry_ok.Goals as goal

pub returns-then-nil_type_at : goal.returns-then-nil_type_at
returns-then-nil_type_at c B n f l = let a = c.args in c.all_zero.ensures ∙ ok-unused a.img.now a.at.0 c.nil_type_at.ensures B n c.if-nil_type_at.true

pub returns : goal.returns
returns c B n f l =
    let i = c in
    let a = i.args in
    ok-inside a.img.now a.at.0 i.nil_type_at.ensures B n i.if-nil_type_at.false c.first_at-from.ensures c.last_at-to.ensures f l
