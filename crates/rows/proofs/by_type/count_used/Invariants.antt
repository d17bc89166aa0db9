-- `rows::by_type::count_used` meets its contract. The invariant: the used entries that were passed, and those that are left, are all. Assumes nothing.
use mathlib.Core.Path.{◌≡◌}
use Prim.Native.Nat.{◌+◌, ◌-◌, ◌≤◌}
use lib.ListN.{length}
use Rattle.rows.specs.Slots.{slots_from, typed_each}
use Rattle.rows.proofs.by_type.count_used.Given as goal

abbrev pub invariant-loop-k : goal.invariant-loop-k
invariant-loop-k l = (l.n ≤ l.k) × (l.n + length (slots_from (typed_each l.s l.each l.at.0) l.k (l.count - l.k)) ≡ length (slots_from (typed_each l.s l.each l.at.0) 0 l.count))
