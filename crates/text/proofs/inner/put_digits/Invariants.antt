-- Storing the i highest digits of what is left gives what storing all of them gives.
use Rattle.std.proofs.Common.{◌≡◌}
use Rattle.std.proofs.lemmas.List.Edits.{sets}
use Rattle.text.specs.Digits.{digits}
use Rattle.text.proofs.inner.put_digits.Given as goal

abbrev pub invariant-loop-i : goal.invariant-loop-i
invariant-loop-i l = sets l.s l.at (digits l.base l.i l.v) ≡ sets l.initial.s l.at (digits l.base l.n l.x)
