-- `rows::inner::fill` meets its contract. The invariant: the first places hold the first listed entries, and with those that are left they are all. Assumes nothing.
use Rattle.std.proofs.Common.{◌≡◌, ◌+◌, ◌++◌, length, take}
use Rattle.rows.specs.Plans.{entries_by}
use Rattle.rows.proofs.Laws.{left}
use Rattle.rows.proofs.inner.fill.Given as goal

abbrev pub invariant-loop-entry : goal.invariant-loop-entry
invariant-loop-entry l = record {
  counted : l.entry-index + length (left l.img l.q l.at) ≡ length l.entry-items;
  stored : take l.entry-index l.entry-items ++ left l.img l.q l.at ≡ entries_by l.img l.q;
}
