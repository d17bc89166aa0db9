-- The lines that were printed, and the entries that are left, are all of them.
use Rattle.std.proofs.Common.{◌≡◌, ◌+◌, length}
use Rattle.rows.proofs.Laws.{left}
use Rattle.uefi_lister.proofs.print_entries.Given as goal

abbrev pub invariant-loop : goal.invariant-loop
invariant-loop g l = l.counter + length (left l.img l.p l.at) ≡ l.p.present
