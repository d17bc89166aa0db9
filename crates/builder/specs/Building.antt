-- The header builder, by document 01, "Builder": what each setter gives, and the header that is built. Assumes nothing.
use Rattle.std.specs.Prelude.{Bool, true, false, not, ℕ, ◌+◌, ◌*◌, ◌-◌, ◌/◌, ◌^◌, ltb, leb}
use Rattle.units.specs.declared.Lba.{Lba}
use Rattle.units.specs.declared.Guid.{Guid}
use Rattle.units.specs.Answer.{Answer, accepted, refuse, pick}
use Rattle.units.specs.Places.{good_size}
use Rattle.header.specs.declared.Header.{Header}
use Rattle.builder.specs.declared.HeaderBuilder.{HeaderBuilder}

-- a primary header at block 1, the backup not set, 128 entries of 128 bytes
abbrev pub new_builder : Guid → HeaderBuilder
new_builder g =
    record {
      primary = true;
      disk_guid = g;
      primary_lba = record { 0 = 1 };
      backup_lba = record { 0 = 0 };
      first_usable = record { 0 = 0 };
      last_usable = record { 0 = 0 };
      num_parts = 128;
      part_size = 128;
    }

-- a header's fields, under a side and the two blocks
abbrev pub sides_of : Header → Bool → Lba → Lba → HeaderBuilder
sides_of h p first second =
    record {
      primary = p;
      disk_guid = h.disk_guid;
      primary_lba = first;
      backup_lba = second;
      first_usable = h.first_usable;
      last_usable = h.last_usable;
      num_parts = h.num_parts;
      part_size = h.part_size;
    }

-- copied from a header: primary where its own block comes before the other; the entry count is not lifted
unfoldable pub of_header : Header → HeaderBuilder
of_header h =
    pick (ltb h.current_lba.0 h.backup_lba.0)
    (sides_of h true h.current_lba h.backup_lba)
    (sides_of h false h.backup_lba h.current_lba)

module _ (s : HeaderBuilder) where
  -- the builder with every field given
  abbrev fields : Bool → Guid → Lba → Lba → Lba → ℕ → ℕ → HeaderBuilder
  fields p g backup first last count size =
      record {
        primary = p;
        disk_guid = g;
        primary_lba = s.primary_lba;
        backup_lba = backup;
        first_usable = first;
        last_usable = last;
        num_parts = count;
        part_size = size;
      }

  abbrev pub with_primary : Bool → HeaderBuilder
  with_primary p = fields p s.disk_guid s.backup_lba s.first_usable s.last_usable s.num_parts s.part_size

  abbrev pub with_disk_guid : Guid → HeaderBuilder
  with_disk_guid g = fields s.primary g s.backup_lba s.first_usable s.last_usable s.num_parts s.part_size

  abbrev pub with_backup_lba : Lba → HeaderBuilder
  with_backup_lba l = fields s.primary s.disk_guid l s.first_usable s.last_usable s.num_parts s.part_size

  abbrev pub with_first_usable : Lba → HeaderBuilder
  with_first_usable l = fields s.primary s.disk_guid s.backup_lba l s.last_usable s.num_parts s.part_size

  abbrev pub with_last_usable : Lba → HeaderBuilder
  with_last_usable l = fields s.primary s.disk_guid s.backup_lba s.first_usable l s.num_parts s.part_size

  -- the entry count is lifted to 128
  abbrev pub with_num_parts : ℕ → HeaderBuilder
  with_num_parts n =
      fields s.primary s.disk_guid s.backup_lba s.first_usable s.last_usable (pick (ltb n 128) 128 n) s.part_size

  abbrev pub with_part_size : ℕ → HeaderBuilder
  with_part_size n = fields s.primary s.disk_guid s.backup_lba s.first_usable s.last_usable s.num_parts n

-- the greater of two numbers
abbrev pub greater : ℕ → ℕ → ℕ
greater x y = pick (ltb x y) y x

-- how many blocks of b bytes n bytes take, rounded up
abbrev pub blocks_for : ℕ → ℕ → ℕ
blocks_for n b = (n + (b - 1)) / b

-- the array follows the primary header's block, or the last usable block
abbrev pub before_array : HeaderBuilder → ℕ → ℕ
before_array s last = pick s.primary s.primary_lba.0 last

-- revision 1.0, size 92, sums and reserved 0; a backup's own block is the backup block
abbrev pub header_of : HeaderBuilder → ℕ → ℕ → ℕ → Header
header_of s first last start =
    record {
      revision = record { 0 = 1; 1 = 0 };
      header_size_le = 92;
      crc32 = 0;
      reserved = 0;
      current_lba = pick s.primary s.primary_lba s.backup_lba;
      backup_lba = pick s.primary s.backup_lba s.primary_lba;
      first_usable = record { 0 = first };
      last_usable = record { 0 = last };
      disk_guid = s.disk_guid;
      part_start = record { 0 = start };
      num_parts = s.num_parts;
      part_size = s.part_size;
      crc32_parts = 0;
    }

-- with p blocks for the array: 10 if the backup comes before p + 1, 10 if no block is usable, 3 if the array's start passes 64 bits
unfoldable pub built_with : HeaderBuilder → ℕ → Answer Header
built_with s p =
    let first : ℕ = greater s.first_usable.0 (2 + p) in
    let last : ℕ = greater s.last_usable.0 (s.backup_lba.0 - p - 1) in
    pick (ltb s.backup_lba.0 (p + 1)) (refuse 10)
    (pick (ltb last first) (refuse 10)
    (pick (leb (2 ^ 64) (before_array s last + 1)) (refuse 3)
    (accepted (header_of s first last (before_array s last + 1)))))

-- 1; 9 if the backup comes before the primary; 3 if count times size passes 32 bits; the rest with the array's blocks
unfoldable pub built : HeaderBuilder → ℕ → Answer Header
built s b =
    pick (not (good_size b)) (refuse 1)
    (pick (ltb s.backup_lba.0 s.primary_lba.0) (refuse 9)
    (pick (leb (2 ^ 32) (s.num_parts * s.part_size)) (refuse 3)
    (built_with s (blocks_for (s.num_parts * s.part_size) b))))
