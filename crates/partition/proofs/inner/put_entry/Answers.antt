-- `partition::inner::put_entry` meets its contract: six stores, each where the one before it ends, are one. Assumes nothing.
use mathlib.Core.Path.{ap, ◌∙◌}
use mathlib.Core.List.{List, ◌++◌}
use lib.Seq.{sets}
use Rattle.partition.specs.Flags.{joined}
use Prim.Native.Nat.{ℕ, ◌+◌}
use native.Mathlib.Omega.{arith}
use Rattle.units.specs.Bytes.{bytes}
use Rattle.units.proofs.Laws.{length-bytes}
use Rattle.units.proofs.Lists.{and_then}
use Rattle.units.specs.Guids.{guid_bytes}
use Rattle.partition.specs.Format.{unit_bytes}
use Rattle.units.proofs.GuidLaws.{length-guid}
use Rattle.partition.proofs.inner.put_entry.Goals as goal

pub returns : goal.returns
returns c =
    let a = c.args in
    let s = a.s.now in
    let at = a.at in
    let A : List ℕ = guid_bytes a.p.part_type_guid in
    let B : List ℕ = guid_bytes a.p.part_guid in
    let C : List ℕ = bytes 8 a.p.first_lba.0 in
    let D : List ℕ = bytes 8 a.p.last_lba.0 in
    let E : List ℕ = bytes 8 (joined a.p.flags) in
    let F : List ℕ = unit_bytes a.p.name in
    and_then s at A (at + 16) (B ++ (C ++ (D ++ (E ++ F)))) (omega (arith, length-guid a.p.part_type_guid)) c.put_guid.ensures
    (and_then _ (at + 16) B (at + 32) (C ++ (D ++ (E ++ F))) (omega (arith, length-guid a.p.part_guid)) c.put_guid-2.ensures
    (and_then _ (at + 32) C (at + 40) (D ++ (E ++ F)) (simp length-bytes (omega arith)) c.put.ensures
    (and_then _ (at + 40) D (at + 48) (E ++ F) (simp length-bytes (omega arith)) c.put-2.ensures
    (and_then _ (at + 48) E (at + 56) F (simp length-bytes (omega arith)) (c.put-3.ensures ∙ ap (λ (x : ℕ). sets c.put-2.new.s (at + 48) (bytes 8 x)) c.joined.ensures) c.put_units.ensures))))
