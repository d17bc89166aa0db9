-- A partition entry's 128 bytes (UEFI 2.10, 5.3.3): type GUID at 0, partition GUID 16, first block 32, last block 40, attributes 48 (specs/Flags), and the name at
-- 56, 36 units of 16 bits ended by a zero unit. All numbers are little-endian. Assumes nothing.
use Rattle.std.specs.Prelude.{ℕ, zero, suc, ◌+◌, ◌-◌, Bool, List, [], ◌∷◌, ◌++◌, length, take, replicate, eqb}
use Rattle.units.specs.Answer.{pick}
use Rattle.units.specs.Bytes.{part, num, bytes, all_zero}
use Rattle.units.specs.Guids.{guid_at, guid_bytes, nil_guid}
use Rattle.partition.specs.declared.Partition.{Partition}
use Rattle.partition.specs.Flags.{flags_of, joined, unreserved}

-- n units of 16 bits from place at on
unfoldable pub units_at : ℕ → List ℕ → ℕ → List ℕ
units_at zero xs at = []
units_at (suc n) xs at = num xs at 2 ∷ units_at n xs (at + 2)

unfoldable pub unit_bytes : List ℕ → List ℕ
unit_bytes [] = []
unit_bytes (u ∷ us) = bytes 2 u ++ unit_bytes us

-- the place of the first zero unit, or the length
unfoldable pub first_zero : List ℕ → ℕ
first_zero [] = 0
first_zero (u ∷ us) = pick (eqb u 0) 0 (suc (first_zero us))

-- the units before the first zero, and zeros from there on
unfoldable pub cleared : List ℕ → List ℕ
cleared us = take (first_zero us) us ++ replicate (length us - first_zero us) 0

-- the blocks of the entry at a place, whether its type is nil, and the sixteen bytes of its partition GUID
abbrev pub first_at : List ℕ → ℕ → ℕ
first_at xs at = num xs (at + 32) 8

abbrev pub last_at : List ℕ → ℕ → ℕ
last_at xs at = num xs (at + 40) 8

abbrev pub nil_type_at : List ℕ → ℕ → Bool
nil_type_at xs at = all_zero (part xs at 16)

abbrev pub part_guid_at : List ℕ → ℕ → List ℕ
part_guid_at xs at = part xs (at + 16) 16

-- the record at a place, its name ended by its first zero unit
abbrev pub entry_at : List ℕ → ℕ → Partition
entry_at xs at =
    record {
      part_type_guid = guid_at xs at;
      part_guid = guid_at xs (at + 16);
      first_lba = record { 0 = first_at xs at };
      last_lba = record { 0 = last_at xs at };
      flags = flags_of (num xs (at + 48) 8);
      name = cleared (units_at 36 xs (at + 56));
    }

-- the 128 bytes of a record, field after field
abbrev pub entry_bytes : Partition → List ℕ
entry_bytes p =
    guid_bytes p.part_type_guid
    ++ (guid_bytes p.part_guid
    ++ (bytes 8 p.first_lba.0 ++ (bytes 8 p.last_lba.0 ++ (bytes 8 (joined p.flags) ++ unit_bytes p.name))))

-- the record with its name cleared after the first zero unit
abbrev pub named : Partition → Partition
named p =
    record {
      part_type_guid = p.part_type_guid;
      part_guid = p.part_guid;
      first_lba = p.first_lba;
      last_lba = p.last_lba;
      flags = p.flags;
      name = cleared p.name;
    }

-- the record as put stores it: its name cleared, and no reserved flag
abbrev pub tidied : Partition → Partition
tidied p =
    record {
      part_type_guid = p.part_type_guid;
      part_guid = p.part_guid;
      first_lba = p.first_lba;
      last_lba = p.last_lba;
      flags = unreserved p.flags;
      name = cleared p.name;
    }

-- the unused entry: every byte is zero
abbrev pub zero_partition : Partition
zero_partition =
    record {
      part_type_guid = nil_guid;
      part_guid = nil_guid;
      first_lba = record { 0 = 0 };
      last_lba = record { 0 = 0 };
      flags = flags_of 0;
      name = replicate 36 0;
    }

-- xs, cut or filled with zeros to n bytes (the bytes from 128 on are reserved and zero)
unfoldable pub fitted : ℕ → List ℕ → List ℕ
fitted n xs = take n (xs ++ replicate n 0)
