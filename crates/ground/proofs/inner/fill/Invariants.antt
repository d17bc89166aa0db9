-- `ground::inner::fill` meets its contract. The invariant: with the runs that are left stored, both rows are those that are asked for. Assumes nothing.
use mathlib.Core.Path.{◌≡◌}
use mathlib.Core.List.{map}
use Prim.Native.Nat.{◌+◌}
use lib.ListN.{length}
use lib.Seq.{sets}
use Rattle.units.specs.Bytes.{part}
use Rattle.ground.specs.Ground.{Run}
use Rattle.ground.specs.Search.{At, left, front_runs}
use Rattle.ground.proofs.inner.fill.Given as goal

abbrev pub invariant-loop-i : goal.invariant-loop-i
invariant-loop-i l =
    At l.b l.len (part l.copy l.array.0 16384) l.x.0
    × (l.i + length (left l.b l.len (part l.copy l.array.0 16384) l.x.0) ≡ l.n)
    × (sets l.starts l.i (map (λ (r : Run). r.start) (left l.b l.len (part l.copy l.array.0 16384) l.x.0)) ≡ sets l.initial.starts 0 (map (λ (r : Run). r.start) (front_runs l.b l.len l.copy)))
    × (sets l.lengths l.i (map (λ (r : Run). r.blocks) (left l.b l.len (part l.copy l.array.0 16384) l.x.0)) ≡ sets l.initial.lengths 0 (map (λ (r : Run). r.blocks) (front_runs l.b l.len l.copy)))
