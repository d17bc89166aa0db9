-- `card::changing::first_overlap` meets its contract. The invariant: none of the entries that were passed is met. Assumes nothing.
use mathlib.Core.Path.{sym, ap, ◌∙◌}
use native.Mathlib.Omega.{arith}
use Rattle.units.specs.Bytes.{part}
use Rattle.tables.specs.Entries.{overlaps}
use Rattle.tables.proofs.Orders.{other-is}
use Rattle.tables.proofs.EntryLaws.{entry_at}
use Rattle.card.proofs.ChangeWays.{overlap-more, overlap-first, overlap-none}
use Rattle.card.proofs.changing.first_overlap.Goals as goal

pub loop-j-init : goal.loop-j-init
loop-j-init c e u f l i h = absurd (omega arith)

pub overlaps-met-requires : goal.overlaps-met-requires
overlaps-met-requires c = omega (arith, c.entry_place-place.ensures)

pub returns-then-j-k : goal.returns-then-j-k
returns-then-j-k c e u f l =
    let a = c.args in
    let o = c.loop-j in
    overlap-first (part a.copy.now a.at.0 16384) a.k e o.j (omega arith) (o.invariant e u f l) (sym (other-is o.j a.k (c.overlaps-met.ensures e u f l ∙ ap (overlaps e) (sym (entry_at a.copy.now a.at.0 o.j (omega arith) c.entry_place-place.ensures)))) ∙ c.if-j-k.true)

pub loop-j-preserved : goal.loop-j-preserved
loop-j-preserved c e u f l =
    let a = c.args in
    let o = c.loop-j in
    overlap-more (part a.copy.now a.at.0 16384) a.k e o.j (o.invariant e u f l) (sym (other-is o.j a.k (c.overlaps-met.ensures e u f l ∙ ap (overlaps e) (sym (entry_at a.copy.now a.at.0 o.j (omega arith) c.entry_place-place.ensures)))) ∙ c.if-j-k.false)

pub returns : goal.returns
returns c e u f l =
    let a = c.args in
    let o = c.loop-j in
    overlap-none (part a.copy.now a.at.0 16384) a.k e o.j (omega arith) (o.invariant e u f l)
