-- How many bytes an answer has on the tape, by the table "The tape" in tests/differential/README.md.
use Rattle.std.specs.Prelude.{ℕ, ◌+◌, if◌then◌else◌, ◌==◌}
use Rattle.replay_calls.specs.declared.kinds.Kind.{Kind}
use Rattle.replay_calls.specs.declared.kinds.Kind.TheVariants as kind

-- its number, or the whole answer of a call that has no number of its own
abbrev pub first_len : Kind → ℕ
first_len kind.Lengths = 27
first_len kind.EntryBytes = 4
first_len _ = 1

-- the values of an accepted call
abbrev pub values_len : Kind → ℕ
values_len kind.ReadPrimary = 84
values_len kind.ReadBackup = 84
values_len kind.Build = 84
values_len kind.BuildFromHeader = 84
values_len kind.WritePrimary = 88
values_len kind.WriteBackup = 88
values_len kind.FindBackup = 8
values_len kind.ReadArray = 8
values_len kind.ArraySum = 4
values_len kind.MbrFromBytes = 4
values_len kind.MbrFromImage = 4
values_len kind.MbrRecord = 16
values_len _ = 0

-- the sum of the image, which follows what a call that can change the image answers
abbrev pub sum_len : Kind → ℕ
sum_len kind.WritePrimary = 4
sum_len kind.WriteBackup = 4
sum_len kind.WriteEntry = 4
sum_len kind.WriteZeros = 4
sum_len kind.MbrOverwrite = 4
sum_len kind.MbrUpdate = 4
sum_len _ = 0

-- what follows the first bytes, by the number
abbrev pub rest_len : Kind → ℕ → ℕ
rest_len of_kind number = if number == 0 then values_len of_kind + sum_len of_kind else sum_len of_kind

abbrev pub answer_len : Kind → ℕ → ℕ
answer_len of_kind number = first_len of_kind + rest_len of_kind number
