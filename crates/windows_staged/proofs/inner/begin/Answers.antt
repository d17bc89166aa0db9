-- `windows_staged::inner::begin` meets its contract. Assumes nothing.
use mathlib.Core.Path.{◌≡◌, refl, ap, ◌∙◌}
use native.Mathlib.Omega.{arith}
use lib.ListN.{length}
use lib.Seq.{length-sets}
use Rattle.tables.proofs.Good.{Good, check-good}
use Rattle.staged.specs.Stages.{fixed}
use Rattle.windows.specs.Windows.{window_tables}
use Rattle.windows_staged.proofs.Ways.{fixed-fits}
use Rattle.windows_staged.proofs.inner.begin.Goals as goal

pub fix-u-requires : goal.fix-u-requires
fix-u-requires c =
    let good : let a = c.args in Good a.b a.len (window_tables a.b a.head.now a.tail.now) = let a = c.args in check-good a.b a.len (window_tables a.b a.head.now a.tail.now) c.requires.2 in
    record { len_value = (good.room, omega (arith, c.requires.0)); b_value = good.front; slot_value = c.requires.3 }

pub store_stage-requires : goal.store_stage-requires
store_stage-requires c =
    let is-fixed : let a = c.args in c.fix-u.result ≡ fixed a.b a.len (window_tables a.b a.head.now a.tail.now) a.slot.0 a.e = let a = c.args in c.fix-u.ensures (window_tables a.b a.head.now a.tail.now) refl in
    let good : let a = c.args in Good a.b a.len (window_tables a.b a.head.now a.tail.now) = let a = c.args in check-good a.b a.len (window_tables a.b a.head.now a.tail.now) c.requires.2 in
    let a = c.args in
    fixed-fits a.b a.len _ a.slot.0 a.e a.head.now a.tail.now is-fixed good.room c.requires.3 c.requires.0 c.requires.1

pub shape_of-head : goal.shape_of-head
shape_of-head c = ap length c.store_stage.ensures.0

pub shape_of-tail : goal.shape_of-tail
shape_of-tail c = ap length c.store_stage.ensures.1 ∙ simp length-sets

pub returns : goal.returns
returns c =
    let is-fixed : let a = c.args in c.fix-u.result ≡ fixed a.b a.len (window_tables a.b a.head.now a.tail.now) a.slot.0 a.e = let a = c.args in c.fix-u.ensures (window_tables a.b a.head.now a.tail.now) refl in
    record { value = is-fixed; stage_stored = c.store_stage.ensures }
