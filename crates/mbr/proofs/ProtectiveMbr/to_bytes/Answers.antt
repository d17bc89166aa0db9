-- `mbr::ProtectiveMbr::to_bytes` meets its contract: four stores, each where the one before it ends, make all of the 512 bytes. Assumes nothing.
use mathlib.Core.Path.{sym, ◌∙◌}
use mathlib.Core.List.{List, ◌++◌}
use Prim.Native.Nat.{ℕ}
use native.Mathlib.Omega.{arith}
use lib.ListN.{replicate}
use Rattle.units.specs.Bytes.{bytes}
use Rattle.units.proofs.Lists.{and_then, sets-all}
use Rattle.units.proofs.Laws.{length-bytes}
use Rattle.mbr.specs.Format.{tail_bytes, mbr_bytes}
use Rattle.mbr.proofs.Laws.{FitMbr, fit-mbr-of, length-mbr}
use Rattle.mbr.proofs.ProtectiveMbr.to_bytes.Goals as goal

pub put_bytes-requires : goal.put_bytes-requires
put_bytes-requires c = omega (arith, (fit-mbr-of c.args.self _ c.well_formed.0).boot)

pub put_bytes-requires-2 : goal.put_bytes-requires-2
put_bytes-requires-2 c = omega (arith, (fit-mbr-of c.args.self _ c.well_formed.0).sign)

pub returns : goal.returns
returns c =
    let m = c.args.self in
    let f : FitMbr m = fit-mbr-of m _ c.well_formed.0 in
    let B : List ℕ = m.bootcode in
    let S : List ℕ = m.disk_signature in
    let U : List ℕ = bytes 2 m.unknown in
    let T : List ℕ = tail_bytes m.partitions in
    and_then (replicate 512 0) 0 B 440 (S ++ (U ++ T)) (omega (arith, f.boot)) c.put_bytes.ensures
    (and_then _ 440 S 444 (U ++ T) (omega (arith, f.sign)) c.put_bytes-2.ensures
    (and_then _ 444 U 446 T (rw length-bytes) c.put.ensures c.put_tail.ensures))
    ∙ sets-all (replicate 512 0) (mbr_bytes m) (sym (length-mbr m f))
