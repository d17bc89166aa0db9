-- Records as the code can hold them: each number fits its field, and a name has 36 units. Assumes nothing.
use Rattle.std.specs.Prelude.{◌≡◌, ℕ, ◌^◌, ◌<◌, length, get_or}
use Rattle.units.specs.Held.{FitGuid, GuidHeld}
use Rattle.partition.specs.declared.Flags.{Flags}
use Rattle.partition.specs.declared.Partition.{Partition}

-- a yes/no has nothing to fit
pub record FitFlags (f : Flags) : Type 0 where
  pub reserved : f.reserved < 2 ^ 64
  pub owner : f.owner < 2 ^ 16

pub record FitEntry (p : Partition) : Type 0 where
  pub type : FitGuid p.part_type_guid
  pub guid : FitGuid p.part_guid
  pub first : p.first_lba.0 < 2 ^ 64
  pub last : p.last_lba.0 < 2 ^ 64
  pub flags : FitFlags p.flags
  pub long : length p.name ≡ 36
  pub units : (i : ℕ) → get_or p.name i 0 < 2 ^ 16

-- and the last eight bytes of its two GUIDs are bytes
pub record PartitionHeld (p : Partition) : Type 0 where
  pub fields : FitEntry p
  pub type : GuidHeld p.part_type_guid
  pub guid : GuidHeld p.part_guid
