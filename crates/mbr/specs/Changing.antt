-- Changing an MBR by value, by document 01, "MBR": a record is read or set by its place from 0 to 3, 18; setting returns the old one. Assumes nothing.
use Rattle.std.specs.Prelude.{List, ℕ, leb, get_or, set}
use Rattle.units.specs.Answer.{Answer, accepted, refuse, pick, Beside, beside}
use Rattle.mbr.specs.declared.PartRecord.{PartRecord}
use Rattle.mbr.specs.declared.ProtectiveMbr.{ProtectiveMbr}
use Rattle.mbr.specs.declared.Changed.{Changed}
use Rattle.mbr.specs.Format.{zero_record}

abbrev pub with_bootcode : ProtectiveMbr → List ℕ → ProtectiveMbr
with_bootcode m code =
    record { bootcode = code; disk_signature = m.disk_signature; unknown = m.unknown; partitions = m.partitions }

abbrev pub with_signature : ProtectiveMbr → List ℕ → ProtectiveMbr
with_signature m sign =
    record { bootcode = m.bootcode; disk_signature = sign; unknown = m.unknown; partitions = m.partitions }

unfoldable pub record_taken : ProtectiveMbr → ℕ → Answer PartRecord
record_taken m place = pick (leb 4 place) (refuse 18) (accepted (get_or m.partitions place zero_record))

unfoldable pub record_set : ProtectiveMbr → ℕ → PartRecord → Answer Changed
record_set m place p =
    pick (leb 4 place) (refuse 18)
    (accepted (record {
      old = get_or m.partitions place zero_record;
      mbr =
          record {
            bootcode = m.bootcode;
            disk_signature = m.disk_signature;
            unknown = m.unknown;
            partitions = set m.partitions place p;
          };
    }))

-- beside a refusal stand the zero record and the MBR as it was
abbrev pub set_of : ProtectiveMbr → Answer Changed → Beside Changed
set_of m r = beside (record { old = zero_record; mbr = m }) r
