-- The GPT header's 92 bytes (UEFI 2.10, 5.3.2): the place and width of each field, little-endian, and the bytes of a header. Assumes nothing.
use Rattle.std.specs.Prelude.{ℕ, ◌+◌, List, [], ◌∷◌, ◌++◌}
use Rattle.units.specs.Bytes.{num, bytes}
use Rattle.units.specs.Guids.{guid_at, guid_bytes}
use Rattle.header.specs.declared.Header.{Header}

-- EFI PART
abbrev pub signature : List ℕ
signature = 0x45 ∷ 0x46 ∷ 0x49 ∷ 0x20 ∷ 0x50 ∷ 0x41 ∷ 0x52 ∷ 0x54 ∷ []

-- the fields of the header at a place: minor revision at 8 and major at 10, header size 12, check sum 16, reserved 20, own block 24, other block 32,
-- first usable 40, last usable 48, disk GUID 56, array start 72, entry count 80, entry size 84, array check sum 88
abbrev pub header_at : List ℕ → ℕ → Header
header_at xs at =
    record {
      revision = record { 0 = num xs (at + 10) 2; 1 = num xs (at + 8) 2 };
      header_size_le = num xs (at + 12) 4;
      crc32 = num xs (at + 16) 4;
      reserved = num xs (at + 20) 4;
      current_lba = record { 0 = num xs (at + 24) 8 };
      backup_lba = record { 0 = num xs (at + 32) 8 };
      first_usable = record { 0 = num xs (at + 40) 8 };
      last_usable = record { 0 = num xs (at + 48) 8 };
      disk_guid = guid_at xs (at + 56);
      part_start = record { 0 = num xs (at + 72) 8 };
      num_parts = num xs (at + 80) 4;
      part_size = num xs (at + 84) 4;
      crc32_parts = num xs (at + 88) 4;
    }

-- the 92 bytes of a header, field after field
abbrev pub header_bytes : Header → List ℕ
header_bytes h =
    signature
    ++ (bytes 2 h.revision.1
    ++ (bytes 2 h.revision.0
    ++ (bytes 4 h.header_size_le
    ++ (bytes 4 h.crc32
    ++ (bytes 4 h.reserved
    ++ (bytes 8 h.current_lba.0
    ++ (bytes 8 h.backup_lba.0
    ++ (bytes 8 h.first_usable.0
    ++ (bytes 8 h.last_usable.0
    ++ (guid_bytes h.disk_guid
    ++ (bytes 8 h.part_start.0
    ++ (bytes 4 h.num_parts
    ++ (bytes 4 h.part_size
    ++ bytes 4 h.crc32_parts)))))))))))))
