-- `ground::inner::next_run` meets its contract. The invariant: the runs from the block where the search stands are those that are asked for. Assumes nothing.
use mathlib.Core.Path.{refl, ap, ◌∙◌}
use native.Mathlib.Omega.{arith}
use Rattle.units.specs.declared.Lba.{Lba}
use Rattle.units.specs.Bytes.{part}
use Rattle.ground.proofs.SearchLaws.{run-over, next-from, entries-in, last-in, tells, found_here, found-on}
use Rattle.ground.proofs.inner.next_run.Goals as goal

pub last_usable-last-requires : goal.last_usable-last-requires
last_usable-last-requires c = c.requires.checked.room

pub overflow_add-none : goal.overflow_add-none
overflow_add-none c =
    let s = c in
    let a = s.args in
    omega (arith, last-in a.b a.len a.copy.now a.array.0 s.requires.checked, ap (λ (l : Lba). l.0) c.last_usable-last.ensures)

pub loop-from-init : goal.loop-from-init
loop-from-init c = (c.requires.at, refl, omega arith)

pub nearest-s-requires : goal.nearest-s-requires
nearest-s-requires c = c.requires.checked.inside

pub overflow_add-result : goal.overflow_add-result
overflow_add-result c =
    let k = c in
    let i = k in
    let l = i in
    let u = l in
    let s = u in
    let a = s.args in
    let t = tells a.b a.len a.copy.now a.array.0 s.requires.checked l.loop-from.from.0 l.loop-from.invariant.0 u.last_usable-last.ensures i.loop-from-test.true k.nearest-s.ensures in
    omega (arith, last-in a.b a.len a.copy.now a.array.0 s.requires.checked, t.high)

pub returns-then-from-s : goal.returns-then-from-s
returns-then-from-s c =
    let k = c in
    let i = k in
    let l = i in
    let u = l in
    let s = u in
    let a = s.args in
    next-from a.b a.len (part a.copy.now a.array.0 16384) l.loop-from.invariant.1 l.loop-from.invariant.2
    (found_here a.b a.len a.copy.now a.array.0 s.requires.checked l.loop-from.from.0 l.loop-from.invariant.0 u.last_usable-last.ensures i.loop-from-test.true k.nearest-s.ensures c.if-from-s.true)

pub overflow_add-from : goal.overflow_add-from
overflow_add-from c =
    let k = c in
    let i = k in
    let l = i in
    let u = l in
    let s = u in
    let a = s.args in
    let t = tells a.b a.len a.copy.now a.array.0 s.requires.checked l.loop-from.from.0 l.loop-from.invariant.0 u.last_usable-last.ensures i.loop-from-test.true k.nearest-s.ensures in
    omega (arith, last-in a.b a.len a.copy.now a.array.0 s.requires.checked, t.high)

pub loop-from-smaller : goal.loop-from-smaller
loop-from-smaller c =
    let k = c in
    let i = k in
    let l = i in
    let u = l in
    let s = u in
    let a = s.args in
    let t = tells a.b a.len a.copy.now a.array.0 s.requires.checked l.loop-from.from.0 l.loop-from.invariant.0 u.last_usable-last.ensures i.loop-from-test.true k.nearest-s.ensures in
    omega (arith, t.past, t.high, i.loop-from-test.true, ap (λ (l : Lba). l.0) u.last_usable-last.ensures)

pub loop-from-preserved : goal.loop-from-preserved
loop-from-preserved c =
    let k = c in
    let i = k in
    let l = i in
    let u = l in
    let s = u in
    let a = s.args in
    let t = tells a.b a.len a.copy.now a.array.0 s.requires.checked l.loop-from.from.0 l.loop-from.invariant.0 u.last_usable-last.ensures i.loop-from-test.true k.nearest-s.ensures in
    (t.at, l.loop-from.invariant.1 ∙ found-on a.b a.len a.copy.now a.array.0 s.requires.checked l.loop-from.from.0 l.loop-from.invariant.0 u.last_usable-last.ensures i.loop-from-test.true k.nearest-s.ensures c.if-from-s.false, omega (arith, t.past, l.loop-from.invariant.2))

pub returns : goal.returns
returns c =
    let l = c in
    let u = l in
    let s = u in
    let a = s.args in
    next-from a.b a.len (part a.copy.now a.array.0 16384) l.loop-from.invariant.1 l.loop-from.invariant.2
    (run-over a.b a.len (part a.copy.now a.array.0 16384) (entries-in a.b a.len a.copy.now a.array.0 s.requires.checked) l.loop-from.from.0 l.loop-from.invariant.0 (omega (arith, c.loop-from-test.false, ap (λ (l : Lba). l.0) u.last_usable-last.ensures)))
