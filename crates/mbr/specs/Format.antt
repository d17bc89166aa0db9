-- The protective MBR by byte places (UEFI 2.10, 5.2.3): boot code at 0, disk signature 440, unknown 444, four records of 16 bytes from 446, 55 AA at 510.
-- A record: boot indicator at 0, starting CHS 1, OS type 4, ending CHS 5, starting block 8, size in blocks 12. Assumes nothing.
use Rattle.std.specs.Prelude.{ℕ, ◌+◌, List, [], ◌∷◌, ◌++◌, get_or, replicate}
use Rattle.units.specs.Bytes.{part, num, bytes}
use Rattle.mbr.specs.declared.PartRecord.{PartRecord}
use Rattle.mbr.specs.declared.ProtectiveMbr.{ProtectiveMbr}

abbrev pub record_at : List ℕ → ℕ → PartRecord
record_at xs at =
    record {
      boot_indicator = get_or xs at 0;
      start_head = get_or xs (at + 1) 0;
      start_sector = get_or xs (at + 2) 0;
      start_track = get_or xs (at + 3) 0;
      os_type = get_or xs (at + 4) 0;
      end_head = get_or xs (at + 5) 0;
      end_sector = get_or xs (at + 6) 0;
      end_track = get_or xs (at + 7) 0;
      lb_start = num xs (at + 8) 4;
      lb_size = num xs (at + 12) 4;
    }

abbrev pub record_bytes : PartRecord → List ℕ
record_bytes p =
    (p.boot_indicator ∷ p.start_head ∷ p.start_sector ∷ p.start_track ∷ p.os_type ∷ p.end_head ∷ p.end_sector ∷ p.end_track ∷ [])
    ++ (bytes 4 p.lb_start ++ bytes 4 p.lb_size)

-- records one after the other
unfoldable pub records_bytes : List PartRecord → List ℕ
records_bytes [] = []
records_bytes (p ∷ ps) = record_bytes p ++ records_bytes ps

-- byte 510 is 55, byte 511 is AA
abbrev pub signature : List ℕ
signature = 0x55 ∷ 0xAA ∷ []

-- bytes 446 to 511
abbrev pub tail_bytes : List PartRecord → List ℕ
tail_bytes ps = records_bytes ps ++ signature

abbrev pub mbr_at : List ℕ → ℕ → ProtectiveMbr
mbr_at xs at =
    record {
      bootcode = part xs at 440;
      disk_signature = part xs (at + 440) 4;
      unknown = num xs (at + 444) 2;
      partitions = record_at xs (at + 446) ∷ record_at xs (at + 462) ∷ record_at xs (at + 478) ∷ record_at xs (at + 494) ∷ [];
    }

-- its 512 bytes
abbrev pub mbr_bytes : ProtectiveMbr → List ℕ
mbr_bytes m = m.bootcode ++ (m.disk_signature ++ (bytes 2 m.unknown ++ tail_bytes m.partitions))

-- the protective record: starting CHS 000200, OS type EE, ending CHS FFFFFF, from block 1 on, n blocks
abbrev pub protective : ℕ → PartRecord
protective n =
    record {
      boot_indicator = 0;
      start_head = 0;
      start_sector = 2;
      start_track = 0;
      os_type = 0xEE;
      end_head = 0xFF;
      end_sector = 0xFF;
      end_track = 0xFF;
      lb_start = 1;
      lb_size = n;
    }

abbrev pub zero_record : PartRecord
zero_record =
    record {
      boot_indicator = 0;
      start_head = 0;
      start_sector = 0;
      start_track = 0;
      os_type = 0;
      end_head = 0;
      end_sector = 0;
      end_track = 0;
      lb_start = 0;
      lb_size = 0;
    }

-- a new protective MBR: one protective record of n blocks, all else zero
abbrev pub fresh : ℕ → ProtectiveMbr
fresh n =
    record {
      bootcode = replicate 440 0;
      disk_signature = replicate 4 0;
      unknown = 0;
      partitions = protective n ∷ zero_record ∷ zero_record ∷ zero_record ∷ [];
    }
