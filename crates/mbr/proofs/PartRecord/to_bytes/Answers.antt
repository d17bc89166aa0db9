-- `mbr::PartRecord::to_bytes` meets its contract: sixteen bytes stored over sixteen are these bytes. Assumes nothing.
use mathlib.Core.Path.{sym, ◌∙◌}
use lib.ListN.{replicate}
use Rattle.units.proofs.Lists.{sets-all}
use Rattle.mbr.specs.Format.{record_bytes}
use Rattle.mbr.proofs.Laws.{length-record}
use Rattle.mbr.proofs.PartRecord.to_bytes.Goals as goal

pub returns : goal.returns
returns c =
    let p = c.args.self in
    c.put_record.ensures ∙ sets-all (replicate 16 0) (record_bytes p) (sym (length-record p))
