-- What C gets for each answer of the ported calls: document 01's number first, 0 for accepted, then the values; beside a refusal each of them is zero. Assumes nothing.
use Rattle.std.specs.Prelude.{true, List, [], ◌∷◌, ℕ, ltb, length, replicate}
use Rattle.units.specs.declared.Lba.{Lba}
use Rattle.units.specs.declared.BytePlace.{BytePlace}
use Rattle.units.specs.declared.Guid.{Guid}
use Rattle.units.specs.Answer.{Answer, accepted, refuse, pick}
use Rattle.units.specs.Guids.{nil_guid}
use Rattle.header.specs.declared.Header.{Header}
use Rattle.header.specs.declared.Written.{Written}
use Rattle.builder.specs.declared.HeaderBuilder.{HeaderBuilder}
use Rattle.builder.specs.Building.{new_builder, with_primary, with_backup_lba, with_first_usable, with_last_usable, with_num_parts, with_part_size}
use Rattle.mbr.specs.declared.PartRecord.{PartRecord}
use Rattle.mbr.specs.declared.ProtectiveMbr.{ProtectiveMbr}
use Rattle.mbr.specs.Format.{zero_record}
use Rattle.mbr.specs.declared.Changed.{Changed}
use Rattle.partition.specs.declared.Partition.{Partition}
use Rattle.partition.specs.Format.{entry_at, zero_partition}
use Rattle.answers_c.specs.Crossing.{crossed}
use Rattle.gpt_c.specs.declared.stored.GptStored.{GptStored}
use Rattle.gpt_c.specs.declared.headers.GptHeaderRead.{GptHeaderRead}
use Rattle.gpt_c.specs.declared.headers.GptHeaderWritten.{GptHeaderWritten}
use Rattle.gpt_c.specs.declared.headers.GptSum.{GptSum}
use Rattle.gpt_c.specs.declared.headers.GptBlock.{GptBlock}
use Rattle.gpt_c.specs.declared.building.GptSettings.{GptSettings}
use Rattle.gpt_c.specs.declared.entries.GptFlagBits.{GptFlagBits}
use Rattle.gpt_c.specs.declared.entries.GptLength.{GptLength}
use Rattle.gpt_c.specs.declared.entries.GptPlace.{GptPlace}
use Rattle.gpt_c.specs.declared.entries.GptEntryRead.{GptEntryRead}
use Rattle.gpt_c.specs.declared.mbrs.GptMbrRead.{GptMbrRead}
use Rattle.gpt_c.specs.declared.mbrs.GptRecordRead.{GptRecordRead}
use Rattle.gpt_c.specs.declared.mbrs.GptRecordSet.{GptRecordSet}
use Rattle.gpt_c.specs.declared.mbrs.GptBootcodeRead.{GptBootcodeRead}
use Rattle.gpt_c.specs.declared.mbrs.GptSignatureRead.{GptSignatureRead}

abbrev pub stored_to_c : Answer ℕ → GptStored
stored_to_c a = crossed (λ k n. record { number = k; bytes = n }) 0 a

-- ---- headers

abbrev pub zero_header : Header
zero_header =
    record {
      revision = record { 0 = 0; 1 = 0 };
      header_size_le = 0;
      crc32 = 0;
      reserved = 0;
      current_lba = record { 0 = 0 };
      backup_lba = record { 0 = 0 };
      first_usable = record { 0 = 0 };
      last_usable = record { 0 = 0 };
      disk_guid = nil_guid;
      part_start = record { 0 = 0 };
      num_parts = 0;
      part_size = 0;
      crc32_parts = 0;
    }

abbrev pub header_to_c : Answer Header → GptHeaderRead
header_to_c a = crossed (λ k h. record { number = k; header = h }) zero_header a

abbrev pub written_to_c : Answer Written → GptHeaderWritten
written_to_c a = crossed (λ k w. record { number = k; bytes = w.count; header = w.header }) (record { count = 0; header = zero_header }) a

abbrev pub sum_to_c : Answer ℕ → GptSum
sum_to_c a = crossed (λ k x. record { number = k; sum = x }) 0 a

abbrev pub block_to_c : Answer Lba → GptBlock
block_to_c a = crossed (λ k l. record { number = k; lba = l }) (record { 0 = 0 }) a

-- the settings of a new builder
abbrev pub new_settings : Guid → GptSettings
new_settings g =
    record {
      disk_guid = g;
      backup_lba = record { 0 = 0 };
      first_usable = record { 0 = 0 };
      last_usable = record { 0 = 0 };
      num_parts = 128;
      part_size = 128;
      primary = true;
    }

-- a new builder with every setting made by its setter
unfoldable pub builder_of : GptSettings → HeaderBuilder
builder_of s =
    let blocks : HeaderBuilder = with_last_usable (with_first_usable (with_backup_lba (new_builder s.disk_guid) s.backup_lba) s.first_usable) s.last_usable in
    with_primary (with_part_size (with_num_parts blocks s.num_parts) s.part_size) s.primary

-- ---- entries

abbrev pub bits_to_c : Answer ℕ → GptFlagBits
bits_to_c a = crossed (λ k n. record { number = k; bits = n }) 0 a

abbrev pub length_to_c : Answer ℕ → GptLength
length_to_c a = crossed (λ k n. record { number = k; length = n }) 0 a

abbrev pub place_to_c : Answer BytePlace → GptPlace
place_to_c a = crossed (λ k at. record { number = k; place = at.0 }) (record { 0 = 0 }) a

abbrev pub entry_to_c : Answer Partition → GptEntryRead
entry_to_c a = crossed (λ k p. record { number = k; partition = p }) zero_partition a

-- the record in the first 128 of some bytes: 2 for fewer
unfoldable pub entry_parsed : List ℕ → Answer Partition
entry_parsed xs = pick (ltb (length xs) 128) (refuse 2) (accepted (entry_at xs 0))

-- ---- the MBR

abbrev pub zero_mbr : ProtectiveMbr
zero_mbr =
    record {
      bootcode = replicate 440 0;
      disk_signature = replicate 4 0;
      unknown = 0;
      partitions = zero_record ∷ zero_record ∷ zero_record ∷ zero_record ∷ [];
    }

abbrev pub mbr_to_c : Answer ProtectiveMbr → GptMbrRead
mbr_to_c a = crossed (λ k m. record { number = k; mbr = m }) zero_mbr a

abbrev pub record_to_c : Answer PartRecord → GptRecordRead
record_to_c a = crossed (λ k p. record { number = k; part_record = p }) zero_record a

abbrev pub set_to_c : Answer Changed → GptRecordSet
set_to_c a = crossed (λ k c. record { number = k; old = c.old; mbr = c.mbr }) (record { old = zero_record; mbr = zero_mbr }) a

abbrev pub bootcode_made : ℕ → List ℕ → GptBootcodeRead
bootcode_made k code = record { number = k; bootcode = code }

abbrev pub bootcode_to_c : Answer (List ℕ) → GptBootcodeRead
bootcode_to_c a = crossed bootcode_made (replicate 440 0) a

abbrev pub signature_made : ℕ → List ℕ → GptSignatureRead
signature_made k sign = record { number = k; disk_signature = sign }

abbrev pub signature_to_c : Answer (List ℕ) → GptSignatureRead
signature_to_c a = crossed signature_made (replicate 4 0) a
