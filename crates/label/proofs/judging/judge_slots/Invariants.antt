-- `label::judging::judge_slots` meets its contract. The loop's invariant: what is left of the list, held against the first slot's date, comes to what the whole list does.
-- Assumes nothing.
use Rattle.std.specs.Prelude.{None}
use mathlib.Core.Path.{◌≡◌}
use lib.ListN.{drop}
use Rattle.label.specs.Judging.{judge_from, shown_in}
use Rattle.label.proofs.judging.judge_slots.Given as goal

abbrev pub invariant-loop-slot : goal.invariant-loop-slot
invariant-loop-slot l = judge_from l.agreed (shown_in l.b l.img (drop l.slot-index l.slots)) ≡ judge_from None (shown_in l.b l.img l.slots)
