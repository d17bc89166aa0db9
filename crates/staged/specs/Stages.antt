-- Put and clear in four stages, one block store each: the back array's slot, the back header, the front array's slot, the front header. What stage one fixes is an
-- Update; each later stage is made of it and of the tables as they then stand. From document 02, 6/13. Assumes nothing.
use Rattle.std.specs.Prelude.{List, ℕ, zero, suc, ◌-◌}
use Rattle.units.specs.declared.Guid.{Guid}
use Rattle.units.specs.Guids.{guid_at}
use Rattle.crc32.specs.Crc.{crc}
use Rattle.tables.specs.Lens.{Side, Front, Back, Tables, copy_at, with_array, with_header}
use Rattle.tables.specs.Entries.{set_entry}
use Rattle.tables.specs.Headers.{head_block}
use Rattle.tables.specs.Check.{guid_of}
use Rattle.staged.specs.declared.Update.{Update}

-- what stage one fixes on a card of n bytes, for slot s and its new 128 bytes e; the next stage is the second
unfoldable pub fixed : ℕ → ℕ → Tables → ℕ → List ℕ → Update
fixed B n t s e =
    record {
      next = 2;
      slot = record { 0 = s };
      b = B;
      len = n;
      entry = e;
      guid = guid_at (guid_of t.front) 0;
      parts = crc (set_entry t.front.array (s - 1) e);
    }

-- one slot of one array; one header
unfoldable pub slot_stage : Side → Update → Tables → Tables
slot_stage s u t = with_array s (set_entry (copy_at s t).array (u.slot.0 - 1) u.entry) t

unfoldable pub header_stage : ℕ → ℕ → Side → Guid → ℕ → Tables → Tables
header_stage B n s g parts t = with_header s (head_block B n s g parts) t

-- stage 1, 2, 3, 4; no other number is a stage
abbrev pub stage : ℕ → ℕ → Update → ℕ → Tables → Tables
stage B n u zero t = t
stage B n u (suc zero) t = slot_stage Back u t
stage B n u (suc (suc zero)) t = header_stage B n Back u.guid u.parts t
stage B n u (suc (suc (suc zero))) t = slot_stage Front u t
stage B n u (suc (suc (suc (suc zero)))) t = header_stage B n Front u.guid u.parts t
stage B n u (suc (suc (suc (suc (suc k))))) t = t

-- the tables after so many stages
unfoldable pub after_stages : ℕ → ℕ → Update → ℕ → Tables → Tables
after_stages B n u zero t = t
after_stages B n u (suc k) t = stage B n u (suc k) (after_stages B n u k t)
