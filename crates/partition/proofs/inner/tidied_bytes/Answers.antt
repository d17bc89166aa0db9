-- `partition::inner::tidied_bytes` meets its contract. Assumes nothing.
use mathlib.Core.Path.{◌≡◌, refl, ap}
use mathlib.Core.List.{List}
use Prim.Native.Nat.{ℕ}
use lib.ListN.{length, replicate}
use Rattle.partition.specs.Flags.{unreserved}
use Rattle.partition.proofs.Laws.{fit-entry-of}
use Rattle.partition.proofs.Ways.{record-made}
use Rattle.partition.proofs.inner.tidied_bytes.Goals as goal

pub returns : goal.returns
returns c =
    let p = c.args.p in
    let l : length p.name ≡ 36 = (fit-entry-of p _ c.well_formed.0).long in
    record-made p _ (replicate 128 0) _ refl l
    (ap
    (λ (us : List ℕ). record { part_type_guid = p.part_type_guid; part_guid = p.part_guid; first_lba = p.first_lba; last_lba = p.last_lba; flags = unreserved p.flags; name = us })
    c.clear_name-name.ensures)
    c.put_entry.ensures
