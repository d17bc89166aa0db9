-- `ground::inner::fill` meets its contract. The invariant: with the runs that are left stored, both rows are those that are asked for. Assumes nothing.
use mathlib.Core.Path.{refl, sym, ap, ◌∙◌}
use mathlib.Core.List.{List, map}
use Prim.Native.Nat.{◌≤◌, ◌<◌}
use native.Mathlib.Omega.{arith}
use lib.ListN.{length, length-set}
use lib.Seq.{sets}
use Rattle.units.specs.declared.Lba.{Lba}
use Rattle.units.specs.Bytes.{part}
use Rattle.tables.proofs.Good.{room-ok}
use Rattle.ground.specs.Ground.{Run}
use Rattle.ground.specs.Search.{left}
use Rattle.ground.proofs.FillLaws.{next-some, all_left, checked-at, starts-at, row_more, row-none}
use Rattle.ground.proofs.inner.fill.Goals as goal

pub first_usable-x-requires : goal.first_usable-x-requires
first_usable-x-requires c = let s = c in omega (arith, (room-ok s.args.b s.args.len s.requires.checked.room).least)

pub loop-i-init : goal.loop-i-init
loop-i-init c =
    let s = c in
    let a = s.args in
    let p = c.array_in-array.ensures.0 in
    let q = ap (λ (l : Lba). l.0) c.first_usable-x.ensures in
    let e = all_left a.b a.len a.copy.now q p in
    (starts-at a.b a.len a.copy.now s.requires.checked q p, omega (arith, ap (length {A = Run}) e, s.requires.n_value), ap (λ (l : List Run). sets a.starts.now 0 (map (λ (r : Run). r.start) l)) e, ap (λ (l : List Run). sets a.lengths.now 0 (map (λ (r : Run). r.blocks) l)) e)

pub next_run-g-requires : goal.next_run-g-requires
next_run-g-requires c =
    let l = c in
    let p = l in
    let s = p in
    record { checked = checked-at s.args.b s.args.len s.args.copy.now s.requires.checked p.array_in-array.ensures.0; at = l.loop-i.invariant.0 }

pub loop-i-preserved : goal.loop-i-preserved
loop-i-preserved c =
    let n = c in
    let l = n in
    let p = l in
    let s = p in
    let a = s.args in
    let k = l.loop-i in
    let h : 0 < length (left a.b a.len (part a.copy.now p.array_in-array.result.0 16384) k.x.0) = omega (arith, k.invariant.1) in
    let e = next-some a.b a.len (part a.copy.now p.array_in-array.result.0 16384) n.next_run-g.ensures h in (
      n.next_run-g.ensures.at,
      omega (arith, k.invariant.1, ap (length {A = Run}) e),
      row_more (λ (r : Run). r.start) k.starts k.i e ∙ k.invariant.2,
      row_more (λ (r : Run). r.blocks) k.lengths k.i e ∙ k.invariant.3,
    )

pub returns : goal.returns
returns c =
    let l = c in
    let p = l in
    let s = p in
    let a = s.args in
    let k = l.loop-i in
    let m = left a.b a.len (part a.copy.now p.array_in-array.result.0 16384) k.x.0 in
    let z : length m ≤ 0 = omega (arith, k.invariant.1) in
    record { starts_after = sym (row-none (λ (r : Run). r.start) k.starts k.i m z) ∙ k.invariant.2; lengths_after = sym (row-none (λ (r : Run). r.blocks) k.lengths k.i m z) ∙ k.invariant.3 }
