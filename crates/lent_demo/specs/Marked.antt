-- The record that stands in each place of the demo's row before it is lent: slot 99, which no array of the demo has, and the zero record. Assumes nothing.
use Rattle.std.specs.Prelude.{List, replicate}
use Rattle.partition.specs.Format.{zero_partition}
use Rattle.rows.specs.declared.Entry.{Entry}

abbrev pub marked : Entry
marked = record { slot = record { 0 = 99 }; partition = zero_partition }

unfoldable pub marked_row : List Entry
marked_row = replicate 4 marked
