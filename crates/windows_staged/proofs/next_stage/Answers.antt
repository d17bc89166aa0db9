-- `windows_staged::next_stage` meets its contract: refused as the state and the windows say, else one store. Assumes nothing.
use mathlib.Core.Path.{◌≡◌, ap, ◌∙◌}
use native.Mathlib.Omega.{arith}
use borrow.Author.Rules.{rules}
use lib.ListN.{length}
use Rattle.units.proofs.Results.{card-handed}
use Rattle.staged.proofs.Leads.{leads-store}
use Rattle.windows.specs.Windows.{head_long, tail_long}
use Rattle.windows_staged.specs.Stages.{next_why}
use Rattle.windows_staged.proofs.Ways.{named-later, bare-later, later-refused, later-zero, own-refused, next_fits, next-stored}
use Rattle.windows_staged.proofs.next_stage.Goals as goal

pub returns-in_err-verdict : goal.returns-in_err-verdict
returns-in_err-verdict c =
    let a = c.args in
    let h = length a.head.now in
    let t = length a.tail.now in
    let l = later-refused (next_why a.b a.blocks h t a.stage a.state) c.next_check-found.ensures c.by_number.ensures (bare-later a.b a.blocks h t a.stage a.state) (named-later a.b a.blocks h t a.stage a.state) c.in_err-verdict.ensures in
    rw (card-handed _ _ c.from_residual.ensures.1, l.1) (own-refused _ a.b a.blocks a.head.now a.tail.now _ l.0)

pub store_stage-requires : goal.store_stage-requires
store_stage-requires c =
    let zero : let a = c.args in (next_why a.b a.blocks (length a.head.now) (length a.tail.now) a.stage a.state).number ≡ 0 = let a = c.args in later-zero (next_why a.b a.blocks (length a.head.now) (length a.tail.now) a.stage a.state) c.next_check-found.ensures c.by_number.ensures c.in_ok-verdict.ensures in
    let a = c.args in
    let q = next_fits a.b a.blocks a.head.now a.tail.now a.stage a.state zero in
    let l = leads-store q.0 in
    (l.0, l.1, q.1 ∙ ap head_long q.0.block, q.2 ∙ ap tail_long q.0.block)

pub onward-requires : goal.onward-requires
onward-requires c =
    let zero : let a = c.args in (next_why a.b a.blocks (length a.head.now) (length a.tail.now) a.stage a.state).number ≡ 0 = let a = c.args in later-zero (next_why a.b a.blocks (length a.head.now) (length a.tail.now) a.stage a.state) c.next_check-found.ensures c.by_number.ensures c.in_ok-verdict.ensures in
    let a = c.args in let q = next_fits a.b a.blocks a.head.now a.tail.now a.stage a.state zero in omega (arith, q.0.stage, q.0.high)

pub returns : goal.returns
returns c =
    let zero : let a = c.args in (next_why a.b a.blocks (length a.head.now) (length a.tail.now) a.stage a.state).number ≡ 0 = let a = c.args in later-zero (next_why a.b a.blocks (length a.head.now) (length a.tail.now) a.stage a.state) c.next_check-found.ensures c.by_number.ensures c.in_ok-verdict.ensures in
    let long : length c.args.state.entry ≡ 128 = search rules in
    let a = c.args in
    rw c.onward.ensures (next-stored a.b a.blocks a.head.now a.tail.now a.stage a.state zero long c.store_stage.ensures)
