-- `units::inner::put_guid` meets its contract: four stores, each where the one before it ends, are one store. Assumes nothing.
use mathlib.Core.List.{List, ◌++◌, append_assoc}
use Prim.Native.Nat.{ℕ, ◌+◌}
use native.Mathlib.Omega.{arith}
use lib.ListN.{length-append}
use Rattle.units.specs.Bytes.{bytes}
use Rattle.units.specs.Guids.{tail_bytes}
use Rattle.units.proofs.Lists.{sets_then}
use Rattle.units.proofs.Laws.{length-bytes}
use Rattle.units.proofs.inner.put_guid.Goals as goal

pub returns : goal.returns
returns c =
    let a = c.args in
    let A : List ℕ = bytes 4 a.g.time_low in
    let B : List ℕ = bytes 2 a.g.time_mid in
    let C : List ℕ = bytes 2 a.g.time_high in
    let D : List ℕ = tail_bytes a.g.tail in
    cc (
      sets_then a.s.now a.at A (a.at + 4) B (simp length-bytes (omega arith)),
      sets_then a.s.now a.at (A ++ B) (a.at + 6) C (simp (length-append, length-bytes) (omega arith)),
      sets_then a.s.now a.at (A ++ B ++ C) (a.at + 8) D (simp (length-append, length-bytes) (omega arith)),
      append_assoc (A ++ B) C D,
      append_assoc A B (C ++ D),
    )
