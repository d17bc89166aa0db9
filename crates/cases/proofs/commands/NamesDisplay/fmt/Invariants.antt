-- The flags so far are written.
use Rattle.std.proofs.Common.{take, flat_map}
use Rattle.std.specs.Fmt.{HasWritten, IsPlainFormatter}
use Rattle.cases.specs.Texts.{flag_text}
use Rattle.cases.proofs.commands.NamesDisplay.fmt.Given as goal

abbrev pub invariant-loop-is_set : goal.invariant-loop-is_set
invariant-loop-is_set g l =
    IsPlainFormatter l.fn.f
    → HasWritten g.W.Write.write_str_gives l.fn.f (flat_map (λ flag. flag_text flag.0 flag.1.now) (take l.is_set-index l.is_set-items)) l.f
