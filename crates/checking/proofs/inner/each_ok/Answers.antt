-- `checking::inner::each_ok` meets its contract. The invariant: every entry that was passed is good. Assumes nothing.
use mathlib.Core.Path.{sym, ap, ◌∙◌}
use native.Mathlib.Omega.{arith}
use borrow.Author.Tests.{not-true, not-false}
use Rattle.tables.specs.Entries.{ok_entry}
use Rattle.tables.proofs.Orders.{all-fails, all_more, all_end, all_start}
use Rattle.tables.proofs.EntryLaws.{entry_at}
use Rattle.std.specs.Prelude.{not}
use Rattle.checking.proofs.inner.each_ok.Goals as goal

pub loop-k-init : goal.loop-k-init
loop-k-init c B n f l = all_start _

pub returns-then-not-entry_ok : goal.returns-then-not-entry_ok
returns-then-not-entry_ok c B n f l =
    let a = c.args in
    let k = c.loop-k.k in
    sym (all-fails 128 _ k (omega arith) (ap (ok_entry B n) (entry_at a.img.now a.at.0 k (omega arith) c.entry_place.ensures) ∙ sym (c.entry_ok.ensures B n f l) ∙ not-true _ (ap not c.if-not-entry_ok.true)))

pub loop-k-preserved : goal.loop-k-preserved
loop-k-preserved c B n p q =
    let a = c.args in
    let l = c.loop-k in
    all_more l.k _ (l.invariant B n p q) (ap (ok_entry B n) (entry_at a.img.now a.at.0 l.k (omega arith) c.entry_place.ensures) ∙ sym (c.entry_ok.ensures B n p q) ∙ not-false _ (ap not c.if-not-entry_ok.false))

pub returns : goal.returns
returns c B n f l = all_end c.loop-k.k 128 _ (omega arith) (omega arith) (c.loop-k.invariant B n f l)
