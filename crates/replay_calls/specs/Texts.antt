-- What a replay prints: the calls that a kind stands for, an answer, and what stops it.
use Rattle.std.specs.Prelude.{ℕ, List, codes, take, flat_map, get_or}
use Rattle.console.specs.Answers.{hex_digits}
use Rattle.replay_calls.specs.declared.kinds.Kind.{Kind}
use Rattle.replay_calls.specs.declared.kinds.Kind.TheVariants as kind
use Rattle.replay_calls.specs.declared.told.Told.{Told}
use Rattle.replay_calls.specs.Lengths.{answer_len}

abbrev pub kind_text : Kind → List ℕ
kind_text kind.ReadPrimary = codes "read_primary_header"
kind_text kind.ReadBackup = codes "read_backup_header"
kind_text kind.FindBackup = codes "find_backup_lba"
kind_text kind.ArraySum = codes "partentry_checksum"
kind_text kind.WritePrimary = codes "write_primary"
kind_text kind.WriteBackup = codes "write_backup"
kind_text kind.Build = codes "build, new"
kind_text kind.BuildFromHeader = codes "build, from_header"
kind_text kind.ReadArray = codes "file_read_partitions"
kind_text kind.WriteEntry = codes "write_to_device"
kind_text kind.WriteZeros = codes "write_zero_entries_to_device"
kind_text kind.Lengths = codes "sectors_len, bytes_len, bytes_start"
kind_text kind.EntryBytes = codes "entry to a buffer"
kind_text kind.MbrFromBytes = codes "MBR from_bytes"
kind_text kind.MbrFromImage = codes "MBR from_image"
kind_text kind.MbrOverwrite = codes "MBR overwrite_lba0"
kind_text kind.MbrUpdate = codes "MBR update_conservative"
kind_text kind.MbrRecord = codes "MBR record from_bytes"

abbrev pub unknown_kind_text : List ℕ
unknown_kind_text = codes "a step of an unknown kind"

abbrev pub no_more_text : List ℕ
no_more_text = codes "no more of the tape could be read"

-- a byte in two hexadecimal digits
abbrev pub hex_byte : ℕ → List ℕ
hex_byte = hex_digits 2

-- an answer, as it stands on the tape, in hexadecimal digits with nothing between them
abbrev pub told_text : Told → List ℕ
told_text told = flat_map hex_byte (take (answer_len told.kind (get_or told.answer.0 0 0)) told.answer.0)
