-- `twins::inner::first_twin` meets its contract. Assumes nothing.
use mathlib.Core.Path.{◌≡◌, sym, ap, ◌∙◌}
use mathlib.Core.Bool.{false}
use Prim.Native.Nat.{ℕ}
use native.Mathlib.Omega.{arith}
use lib.Dec.{eqb}
use Rattle.std.proofs.Common.{below_more}
use Rattle.units.specs.Answer.{pick}
use Rattle.units.specs.Bytes.{part}
use Rattle.tables.specs.Entries.{entry, bears, first_twin}
use Rattle.tables.proofs.Orders.{other-is, lowest-none, lowest-is}
use Rattle.tables.proofs.EntryLaws.{entry_at}
use Rattle.twins.proofs.inner.first_twin.Goals as goal

pub bears-met-requires : goal.bears-met-requires
bears-met-requires c = (omega (arith, c.entry_place-own.ensures), c.requires.1)

pub returns-then-j-k : goal.returns-then-j-k
unfolding first_twin
returns-then-j-k c =
    let a = c.args in
    let l = c.loop-j in
    let met = c.bears-met.ensures ∙ ap (bears a.g.now) (sym (entry_at a.copy.now a.at.0 l.j c.loop-j-test.true c.entry_place-own.ensures)) in
    lowest-is 128 (λ (i : ℕ). pick (eqb i a.k) false (bears a.g.now (entry (part a.copy.now a.at.0 16384) i))) l.j c.loop-j-test.true l.invariant
    (sym (other-is l.j a.k met) ∙ c.if-j-k.true)

pub loop-j-preserved : goal.loop-j-preserved
loop-j-preserved c =
    let a = c.args in
    let l = c.loop-j in
    let met = c.bears-met.ensures ∙ ap (bears a.g.now) (sym (entry_at a.copy.now a.at.0 l.j c.loop-j-test.true c.entry_place-own.ensures)) in
    below_more (λ (i : ℕ). pick (eqb i a.k) false (bears a.g.now (entry (part a.copy.now a.at.0 16384) i)) ≡ false) l.j l.invariant
    (sym (other-is l.j a.k met) ∙ c.if-j-k.false)

pub returns : goal.returns
unfolding first_twin
returns c =
    let a = c.args in
    let l = c.loop-j in
    sym (lowest-none 128 (λ (i : ℕ). pick (eqb i a.k) false (bears a.g.now (entry (part a.copy.now a.at.0 16384) i))) (λ i q. l.invariant i (omega (arith, c.loop-j-test.false))))
