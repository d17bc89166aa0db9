-- `slot_map::inner::map_of` meets its contract. The invariant: the first k flags are in the map, and no others. Assumes nothing.
use mathlib.Core.Path.{◌≡◌}
use mathlib.Core.Bool.{false}
use mathlib.Core.List.{◌++◌}
use Prim.Native.Nat.{◌-◌}
use lib.ListN.{take, replicate}
use Rattle.tables.specs.Lens.{Front, copy_in}
use Rattle.slot_map.specs.Bits.{map_of}
use Rattle.slot_map.specs.Map.{flags_from}
use Rattle.slot_map.proofs.inner.map_of.Given as goal

abbrev pub invariant-loop-k : goal.invariant-loop-k
invariant-loop-k l = map_of l.m ≡ take l.k (flags_from (copy_in l.b Front l.copy).array 0 128) ++ replicate (128 - l.k) false
