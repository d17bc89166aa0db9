-- `checking::inner::entries_ok` meets its contract. Assumes nothing.
use mathlib.Core.Path.{ap, ◌∙◌}
use mathlib.Core.List.{List}
use Prim.Native.Nat.{ℕ}
use native.Mathlib.Omega.{arith}
use Rattle.units.specs.declared.Lba.{Lba}
use Rattle.tables.specs.Entries.{entries_ok}
use Rattle.tables.proofs.Good.{room-ok}
use Rattle.checking.proofs.CheckWays.{entries-bad, entries-meet, entries-single}
use Rattle.tables.proofs.Copies.{array_of}
use Rattle.std.specs.Prelude.{not}
use Rattle.checking.proofs.inner.entries_ok.Goals as goal

pub first_usable-first-requires : goal.first_usable-first-requires
first_usable-first-requires c = let r = room-ok _ _ c.requires.0 in omega (arith, r.least)

pub returns-then-not-each_ok : goal.returns-then-not-each_ok
returns-then-not-each_ok c =
    let k = c in
    let a = k.args in
    entries-bad _ _ _ (c.each_ok.ensures c.args.b c.args.len (ap (λ (l : Lba). l.0) c.first_usable-first.ensures) (ap (λ (l : Lba). l.0) c.last_usable-last.ensures)) (ap not c.if-not-each_ok.true) ∙ ap (λ (l : List ℕ). entries_ok a.b a.len l) (array_of _ _ a.copy.now k.array_in-at.ensures.0)

pub returns-then-not-all_apart : goal.returns-then-not-all_apart
returns-then-not-all_apart c =
    let i = c in
    let k = i in
    let a = k.args in
    entries-meet _ _ _ (c.each_ok.ensures c.args.b c.args.len (ap (λ (l : Lba). l.0) c.first_usable-first.ensures) (ap (λ (l : Lba). l.0) c.last_usable-last.ensures)) (ap not i.if-not-each_ok.false) c.all_apart.ensures (ap not c.if-not-all_apart.true) ∙ ap (λ (l : List ℕ). entries_ok a.b a.len l) (array_of _ _ a.copy.now k.array_in-at.ensures.0)

pub returns : goal.returns
returns c =
    let i = c in
    let k = i in
    let a = k.args in
    entries-single _ _ _ (c.each_ok.ensures c.args.b c.args.len (ap (λ (l : Lba). l.0) c.first_usable-first.ensures) (ap (λ (l : Lba). l.0) c.last_usable-last.ensures)) (ap not i.if-not-each_ok.false) c.all_apart.ensures (ap not c.if-not-all_apart.false) c.all_single.ensures ∙ ap (λ (l : List ℕ). entries_ok a.b a.len l) (array_of _ _ a.copy.now k.array_in-at.ensures.0)
