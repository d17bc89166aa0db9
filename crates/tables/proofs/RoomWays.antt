-- The ways out of the room check: what its tests told, and what the definition then gives. No contract cites this file. Assumes nothing.
use mathlib.Core.Path.{◌≡◌}
use mathlib.Core.Bool.{Bool, true, false, not}
use Prim.Native.Nat.{ℕ, ◌+◌, ◌*◌, ◌-◌, ◌/◌, ◌≤◌, ◌<◌}
use native.Mathlib.Nat.{le-div_iff_mul-le}
use borrow.Author.Tests.{lt-ltb, le-ltb}
use Rattle.units.specs.Answer.{or_else}
use Rattle.units.specs.Places.{good_size}
use Rattle.tables.specs.Check.{room_check}

module _ {r : Bool} (B n : ℕ) (e : r ≡ good_size B) where
  pub room-size : not r ≡ true → 1 ≡ (room_check B n).number
  unfolding room_check or_else
  room-size t = rw (← e, t)

  module _ (g : not r ≡ false) where
    pub room-short : n < 3 * B → 8 ≡ (room_check B n).number
    unfolding room_check or_else
    room-short h = rw (← e, g, lt-ltb _ _ h)

    module _ (l : 3 * B ≤ n) where
      pub room-early : n / B - 1 < 2 * (16384 / B) + 3 → 10 ≡ (room_check B n).number
      unfolding room_check or_else
      room-early h = rw (← e, g, le-ltb _ _ l, lt-ltb _ _ h)

      pub room-fine : 2 * (16384 / B) + 3 ≤ n / B - 1 → 0 ≡ (room_check B n).number
      unfolding room_check or_else
      room-fine h = rw (← e, g, le-ltb _ _ l, le-ltb _ _ h)

      -- the blocks are counted before it is known that there are many
      pub some-blocks : 0 < B → 3 ≤ n / B
      some-blocks p = (le-div_iff_mul-le p).1 l
