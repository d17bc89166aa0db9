-- The letters so far are written.
use Rattle.std.proofs.Common.{take, flat_map}
use Rattle.std.specs.Fmt.{HasWritten, IsPlainFormatter}
use Rattle.uefi_lister.specs.Texts.{letter_text}
use Rattle.uefi_lister.proofs.NameDisplay.fmt.Given as goal

abbrev pub invariant-loop-unit : goal.invariant-loop-unit
invariant-loop-unit g l = IsPlainFormatter l.fn.f → HasWritten g.W.Write.write_str_gives l.fn.f (flat_map letter_text (take l.unit-index l.unit-items)) l.f
