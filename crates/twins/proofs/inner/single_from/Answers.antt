-- `twins::inner::single_from` meets its contract: one law for each way out, and one for the set. Assumes nothing.
use mathlib.Core.Path.{sym, ap, ◌∙◌}
use native.Mathlib.Omega.{arith}
use Rattle.units.specs.Bytes.{part}
use Rattle.tables.proofs.EntryLaws.{entry_at}
use Rattle.twins.specs.Marks.{fresh}
use Rattle.twins.proofs.Laws.{fresh-single, marked_from}
use Rattle.twins.proofs.inner.single_from.Goals as goal

pub fresh-requires : goal.fresh-requires
fresh-requires c =
    let s = c in
    (s.requires.at_in_bounds.2, omega (arith, c.entry_place-own.ensures, s.requires.at_in_bounds.0, s.requires.at_in_bounds.1))

pub returns-then-fresh : goal.returns-then-fresh
returns-then-fresh c =
    let f = c in
    let s = f in
    let a = s.args in
    let p = f.entry_place-own.ensures in record { value = sym (fresh-single (part a.copy.now a.at.0 16384) a.k a.m.now s.requires.marked (ap (fresh a.m.now) (entry_at a.copy.now a.at.0 a.k s.requires.at_in_bounds.1 p) ∙ sym f.fresh.ensures.value ∙ c.if-fresh.true)); marked_2 = marked_from a.copy.now a.at.0 a.k a.m.now _ s.requires.at_in_bounds.1 p s.requires.at_in_bounds.2 s.requires.marked f.fresh.ensures.m_after }

pub returns : goal.returns
returns c =
    let f = c in
    let s = f in
    let a = s.args in
    record { value = c.single_below.ensures; marked_2 = marked_from a.copy.now a.at.0 a.k a.m.now _ s.requires.at_in_bounds.1 f.entry_place-own.ensures s.requires.at_in_bounds.2 s.requires.marked f.fresh.ensures.m_after }
