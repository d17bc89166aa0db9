-- `rows::by_type::next_used` meets its contract. The invariant: no entry that was passed is used. Assumes nothing.
use mathlib.Core.Path.{◌≡◌}
use Prim.Native.Nat.{◌-◌}
use lib.ListN.{take}
use Rattle.rows.specs.Slots.{slots_from, typed_each}
use Rattle.rows.proofs.by_type.next_used.Given as goal

abbrev pub invariant-loop-k : goal.invariant-loop-k
invariant-loop-k l = take 1 (slots_from (typed_each l.s l.each l.at.0) l.fn.after.0 (l.count - l.fn.after.0)) ≡ take 1 (slots_from (typed_each l.s l.each l.at.0) l.k (l.count - l.k))
