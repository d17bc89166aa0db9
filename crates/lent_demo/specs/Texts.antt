-- What the demo prints of a header that is built: the fields that a builder sets.
use Rattle.std.specs.Prelude.{ℕ, List, ◌++◌, codes, decimal}
use Rattle.header.specs.declared.Header.{Header}

abbrev pub usable_text : Header → List ℕ
usable_text h = codes "current " ++ (decimal h.current_lba.0 ++ (codes ", backup " ++ (decimal h.backup_lba.0
    ++ (codes ", usable " ++ (decimal h.first_usable.0 ++ (codes " to " ++ decimal h.last_usable.0))))))

abbrev pub array_text : Header → List ℕ
array_text h = codes ", array at " ++ (decimal h.part_start.0 ++ (codes ", entries " ++ (decimal h.num_parts
    ++ (codes " of " ++ (decimal h.part_size ++ (codes ", disk " ++ decimal h.disk_guid.time_low))))))

abbrev pub built_text : Header → List ℕ
built_text h = usable_text h ++ array_text h
