-- Repair: the other table gets the disk GUID and the array of the one that the reader takes, under lay's header for its place, by A + 2 stages of one block store: zeros
-- in its header's block, its array's blocks ascending, its header. From document 02, 6/13. Assumes nothing.
use Rattle.std.specs.Prelude.{Bool, ℕ, zero, suc, ◌*◌, eqb, ltb}
use Rattle.std.proofs.lemmas.List.Edits.{sets}
use Rattle.units.specs.Answer.{pick}
use Rattle.units.specs.Bytes.{part}
use Rattle.units.specs.Guids.{guid_at}
use Rattle.crc32.specs.Crc.{crc}
use Rattle.tables.specs.Places.{array_blocks}
use Rattle.tables.specs.Lens.{Side, Tables, side_of, other, copy_at, with_header, with_array}
use Rattle.tables.specs.Entries.{zeros}
use Rattle.tables.specs.Check.{guid_of}
use Rattle.reader.specs.Reader.{takes_back}
use Rattle.staged.specs.declared.Repair.{Repair}
use Rattle.staged.specs.Stages.{header_stage}

-- what repair's stage one fixes, where the good table is that of a side; the next stage is the second
abbrev pub repair_from : ℕ → ℕ → Tables → Bool → Repair
repair_from B n t back =
    record { next = 2; back = back; b = B; len = n; guid = guid_at (guid_of (copy_at (side_of back) t)) 0; parts = crc (copy_at (side_of back) t).array }

unfoldable pub repair_of : ℕ → ℕ → Tables → Repair
repair_of B n t = repair_from B n t (takes_back B n t)

-- the table that is written
abbrev pub mended : Repair → Side
mended r = other (side_of r.back)

-- zeros in a header's block; block j of the array, as the good one has it
unfoldable pub zero_stage : ℕ → Side → Tables → Tables
zero_stage B s t = with_header s (zeros B) t

unfoldable pub block_stage : ℕ → Side → ℕ → Tables → Tables
block_stage B s j t = with_array s (sets (copy_at s t).array (j * B) (part (copy_at (other s) t).array (j * B) B)) t

-- stage 1; stages 2 to A + 1; stage A + 2; no other number is a stage
unfoldable pub repair_stage : ℕ → ℕ → Repair → ℕ → Tables → Tables
repair_stage B n r zero t = t
repair_stage B n r (suc zero) t = zero_stage B (mended r) t
repair_stage B n r (suc (suc j)) t =
    pick (ltb j (array_blocks B)) (block_stage B (mended r) j t)
    (pick (eqb j (array_blocks B)) (header_stage B n (mended r) r.guid r.parts t) t)

unfoldable pub after_repair : ℕ → ℕ → Repair → ℕ → Tables → Tables
after_repair B n r zero t = t
after_repair B n r (suc k) t = repair_stage B n r (suc k) (after_repair B n r k t)
