-- The headers of a card as lay writes them, by their fields, and the tables that they make with an array. Their bytes are those of the header's own format.
-- That these are the headers that the builder gives is shown in proofs/Builder. From document 01, "The card calls". Assumes nothing.
use Rattle.std.specs.Prelude.{Bool, ◌&&◌, List, ℕ, ◌+◌, ◌-◌, eqb}
use Rattle.units.specs.declared.Guid.{Guid}
use Rattle.units.specs.Guids.{guid_at}
use Rattle.crc32.specs.Crc.{crc}
use Rattle.header.specs.declared.Header.{Header}
use Rattle.header.specs.Writing.{with_sums, header_block}
use Rattle.tables.specs.Places.{blocks, first_usable_of, last_usable_of}
use Rattle.tables.specs.Lens.{Side, Front, Back, Copy, Tables}

-- current, backup and array start
abbrev pub own_block : ℕ → ℕ → Side → ℕ
own_block B n Front = 1
own_block B n Back = blocks B n - 1

abbrev pub other_block : ℕ → ℕ → Side → ℕ
other_block B n Front = blocks B n - 1
other_block B n Back = 1

abbrev pub array_start : ℕ → ℕ → Side → ℕ
array_start B n Front = 2
array_start B n Back = last_usable_of B n + 1

-- the header of a side, before it has its sums
abbrev pub card_header : ℕ → ℕ → Side → Guid → Header
card_header B n s g =
    record {
      revision = record { 0 = 1; 1 = 0 };
      header_size_le = 92;
      crc32 = 0;
      reserved = 0;
      current_lba = record { 0 = own_block B n s };
      backup_lba = record { 0 = other_block B n s };
      first_usable = record { 0 = first_usable_of B };
      last_usable = record { 0 = last_usable_of B n };
      disk_guid = g;
      part_start = record { 0 = array_start B n s };
      num_parts = 128;
      part_size = 128;
      crc32_parts = 0;
    }

-- the block that stores it, with the array's sum and then its own
unfoldable pub head_block : ℕ → ℕ → Side → Guid → ℕ → List ℕ
head_block B n s g parts = header_block (with_sums (card_header B n s g) parts) B

-- the tables that lay would write for a GUID's sixteen bytes and an array
unfoldable pub copy_of : ℕ → ℕ → Side → List ℕ → List ℕ → Copy
copy_of B n s g arr = record { header = head_block B n s (guid_at g 0) (crc arr); array = arr }

abbrev pub card_of : ℕ → ℕ → List ℕ → List ℕ → Tables
card_of B n g arr = record { front = copy_of B n Front g arr; back = copy_of B n Back g arr }

-- two headers are the same in all fields but the GUID and the sums
unfoldable pub alike : Header → Header → Bool
alike h k =
    eqb h.revision.1 k.revision.1
    && (eqb h.revision.0 k.revision.0
    && (eqb h.header_size_le k.header_size_le
    && (eqb h.reserved k.reserved
    && (eqb h.current_lba.0 k.current_lba.0
    && (eqb h.backup_lba.0 k.backup_lba.0
    && (eqb h.first_usable.0 k.first_usable.0
    && (eqb h.last_usable.0 k.last_usable.0
    && (eqb h.part_start.0 k.part_start.0
    && (eqb h.num_parts k.num_parts
    && eqb h.part_size k.part_size)))))))))

-- what 16 tests of a header: it is like the one that lay would write
unfoldable pub laid_fields : ℕ → ℕ → Side → Header → Bool
laid_fields B n s h = alike h (card_header B n s h.disk_guid)
