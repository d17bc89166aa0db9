-- `mbr::inner::put_record` meets its contract: three stores, each where the one before it ends, are one store. Assumes nothing.
use mathlib.Core.List.{List, [], ◌∷◌, ◌++◌}
use Prim.Native.Nat.{ℕ, ◌+◌}
use native.Mathlib.Omega.{arith}
use Rattle.units.specs.Bytes.{bytes}
use Rattle.units.proofs.Lists.{and_then}
use Rattle.units.proofs.Laws.{length-bytes}
use Rattle.mbr.proofs.inner.put_record.Goals as goal

pub returns : goal.returns
returns c =
    let a = c.args in
    let p = a.p in
    let A : List ℕ = p.boot_indicator ∷ p.start_head ∷ p.start_sector ∷ p.start_track ∷ p.os_type ∷ p.end_head ∷ p.end_sector ∷ p.end_track ∷ [] in
    let B : List ℕ = bytes 4 p.lb_start in
    let C : List ℕ = bytes 4 p.lb_size in
    and_then a.s.now a.at A (a.at + 8) (B ++ C) (omega arith) c.put_bytes.ensures
    (and_then _ (a.at + 8) B (a.at + 12) C (simp length-bytes (omega arith)) c.put.ensures c.put-2.ensures)
