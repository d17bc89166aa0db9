-- `ground::inner::count_runs` meets its contract. The invariant: the runs that were counted and those that are left are all. Assumes nothing.
use mathlib.Core.Path.{ap, ◌∙◌}
use native.Mathlib.Omega.{arith}
use lib.ListN.{length}
use Rattle.units.specs.declared.Lba.{Lba}
use Rattle.units.specs.Bytes.{part}
use Rattle.tables.proofs.Good.{room-ok}
use Rattle.ground.specs.Ground.{Run}
use Rattle.ground.proofs.FillLaws.{rest_some, rest-none, next-rest, all_left, checked-at, starts-at, count-few}
use Rattle.ground.proofs.inner.count_runs.Goals as goal

pub first_usable-requires : goal.first_usable-requires
first_usable-requires c = let s = c in omega (arith, (room-ok s.args.b s.args.len s.requires.room).least)

pub next_run-g-requires : goal.next_run-g-requires
next_run-g-requires c =
    let s = c in
    let a = s.args in
    let p = c.array_in-array.ensures.0 in
    record { checked = checked-at a.b a.len a.copy.now s.requires p; at = starts-at a.b a.len a.copy.now s.requires (ap (λ (l : Lba). l.0) c.first_usable.ensures) p }

pub loop-g-init : goal.loop-g-init
loop-g-init c =
    let s = c in
    let a = s.args in
    let p = c.array_in-array.ensures.0 in
    let q = ap (λ (l : Lba). l.0) c.first_usable.ensures in
    let e = ap (length {A = Run}) (next-rest a.b a.len (part a.copy.now c.array_in-array.result.0 16384) c.next_run-g.ensures ∙ all_left a.b a.len a.copy.now q p) in
    (c.next_run-g.ensures.at, omega (arith, e))

pub overflow_add-n : goal.overflow_add-n
overflow_add-n c =
    let l = c in
    let s = l in
    omega (arith, l.loop-g.invariant.1, count-few s.args.b s.args.len s.args.copy.now s.requires, ap (length {A = Run}) (rest_some s.args.b s.args.len (part s.args.copy.now l.array_in-array.result.0 16384) l.loop-g.g c.loop-g-test.true))

pub next_run-g-requires-in-loop-g : goal.next_run-g-requires-in-loop-g
next_run-g-requires-in-loop-g c =
    let l = c in
    let s = l in
    record { checked = checked-at s.args.b s.args.len s.args.copy.now s.requires l.array_in-array.ensures.0; at = l.loop-g.invariant.0 }

pub loop-g-smaller : goal.loop-g-smaller
loop-g-smaller c =
    let l = c in
    let s = l in
    let arr = part s.args.copy.now l.array_in-array.result.0 16384 in
    omega (arith, ap (length {A = Run}) (rest_some s.args.b s.args.len arr l.loop-g.g c.loop-g-test.true), ap (length {A = Run}) (next-rest s.args.b s.args.len arr c.next_run-g-in-loop-g.ensures))

pub loop-g-preserved : goal.loop-g-preserved
loop-g-preserved c =
    let l = c in
    let s = l in
    let arr = part s.args.copy.now l.array_in-array.result.0 16384 in
    (c.next_run-g-in-loop-g.ensures.at, omega (arith, l.loop-g.invariant.1, ap (length {A = Run}) (rest_some s.args.b s.args.len arr l.loop-g.g c.loop-g-test.true), ap (length {A = Run}) (next-rest s.args.b s.args.len arr c.next_run-g-in-loop-g.ensures)))

pub returns : goal.returns
returns c =
    let l = c in
    let s = l in
    let arr = part s.args.copy.now l.array_in-array.result.0 16384 in
    omega (arith, l.loop-g.invariant.1, ap (length {A = Run}) (rest-none s.args.b s.args.len arr l.loop-g.g c.loop-g-test.false))
