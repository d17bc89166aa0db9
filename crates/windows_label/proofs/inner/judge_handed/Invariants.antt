-- `windows_label::inner::judge_handed` meets its contract. The loop's invariant: what is left of the list, held against the first slot's date, comes to what the whole list does.
-- Assumes nothing.
use Rattle.std.specs.Prelude.{None}
use mathlib.Core.Path.{◌≡◌}
use lib.ListN.{drop}
use Rattle.label.specs.Judging.{judge_from}
use Rattle.windows_label.specs.Handed.{handed_from}
use Rattle.windows_label.proofs.inner.judge_handed.Given as goal

abbrev pub invariant-loop-slot : goal.invariant-loop-slot
invariant-loop-slot l =
    judge_from l.agreed (handed_from l.b l.blocks l.head l.tail l.slots l.labels (drop l.slot-index l.slots)) ≡ judge_from None (handed_from l.b l.blocks l.head l.tail l.slots l.labels l.slots)
