-- What `cases` prints of a refusal and of a record.
use Rattle.std.specs.Prelude.{ℕ, Bool, List, [], ◌∷◌, ◌++◌, codes, decimal, flat_map, if◌then◌else◌}
use Rattle.console.specs.Answers.{hex_digits}
use Rattle.units.specs.declared.Refusal.{Refusal}
use Rattle.units.specs.declared.Refusal.TheVariants.{Overlap, TwinGuid}
use Rattle.units.specs.Refusals.{number}
use Rattle.partition.specs.declared.Flags.{Flags}
use Rattle.partition.specs.declared.Partition.{Partition}

-- the slot that a refusal carries
abbrev pub slot_text : Refusal → List ℕ
slot_text (Overlap slot) = codes ", slot " ++ decimal slot.0
slot_text (TwinGuid slot) = codes ", slot " ++ decimal slot.0
slot_text _ = []

-- a refusal's number, and the slot that it carries
abbrev pub refused_text : Refusal → List ℕ
refused_text w = codes "refused " ++ (decimal (number w) ++ slot_text w)

-- the name of a flag where it is set
abbrev pub flag_text : Bool → List ℕ → List ℕ
flag_text is_set name = if is_set then name else []

-- flags by their names
abbrev pub flags_text : Flags → List ℕ
flags_text f =
    flag_text f.required (codes ", required") ++ (flag_text f.no_block_io (codes ", no block I/O") ++ (flag_text f.legacy_bootable (codes ", legacy bootable")
    ++ (codes ", reserved " ++ (decimal f.reserved ++ (codes ", owner " ++ decimal f.owner)))))

-- a unit of a name, as a space and four hexadecimal digits
abbrev pub unit_text : ℕ → List ℕ
unit_text unit = 32 ∷ hex_digits 4 unit

-- a record: its blocks, its flags by their names, and the units of its name
abbrev pub record_text : Partition → List ℕ
record_text p = codes "blocks " ++ (decimal p.first_lba.0 ++ (codes " to " ++ (decimal p.last_lba.0
    ++ (flags_text p.flags ++ (codes ", name" ++ flat_map unit_text p.name)))))
