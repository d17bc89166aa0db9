-- What document 02, 1/13, says of the runs, apart from how they are defined: they are exactly the maximal runs of free blocks, ascending, each once, and their lengths
-- and the used slots' blocks add up to the usable blocks. That `runs` is such a list: proofs/Theorems. Assumes nothing.
use Rattle.std.specs.Prelude.{◌≡◌, Bool, true, false, List, [], ◌∷◌, ℕ, zero, suc, ◌+◌, ◌*◌, ◌-◌, ◌≤◌, ◌<◌, length, get_or}
use Rattle.units.specs.Answer.{pick}
use Rattle.tables.specs.Places.{blocks, array_blocks}
use Rattle.tables.specs.Entries.{entry, used, first_of, last_of}
use Rattle.ground.specs.Ground.{Run, free}

-- blocks that are all free, and no free block on either side of them
pub record Maximal (f : ℕ → Bool) (r : Run) : Type 0 where
  pub some : 0 < r.blocks
  pub each : (y : ℕ) → r.start ≤ y → y < r.start + r.blocks → f y ≡ true
  pub before : f (r.start - 1) ≡ false
  pub after : f (r.start + r.blocks) ≡ false

-- run k of a list
abbrev pub nth : List Run → ℕ → Run
nth rs k = get_or rs k (record { start = 0; blocks = 0 })

-- r is run k of a list, for some k
abbrev pub Among : List Run → Run → Type 0
Among rs r = (k : ℕ) × (k < length rs) × (nth rs k ≡ r)

-- block y lies in run r
abbrev pub In : Run → ℕ → Type 0
In r y = (r.start ≤ y) × (y < r.start + r.blocks)

-- the sum of the lengths
unfoldable pub total : List Run → ℕ
total [] = 0
total (r ∷ rs) = r.blocks + total rs

-- the blocks of the used slots among the first k, each slot counted on its own
unfoldable pub used_blocks : List ℕ → ℕ → ℕ
used_blocks arr zero = 0
used_blocks arr (suc k) = pick (used (entry arr k)) (last_of (entry arr k) + 1 - first_of (entry arr k)) 0 + used_blocks arr k

pub record Facts (B n : ℕ) (arr : List ℕ) (rs : List Run) : Type 0 where
  -- each is a maximal run
  pub maximal : (k : ℕ) → k < length rs → Maximal (free B n arr) (nth rs k)
  -- each maximal run is among them
  pub complete : (r : Run) → Maximal (free B n arr) r → Among rs r
  -- ascending, with a block between each and the next, so none stands twice
  pub ascending : (j k : ℕ) → j < k → k < length rs → (nth rs j).start + (nth rs j).blocks < (nth rs k).start
  -- each free block lies in one of them, and in no other
  pub found : (y : ℕ) → free B n arr y ≡ true → (k : ℕ) × (k < length rs) × In (nth rs k) y
  pub once : (y j k : ℕ) → j < length rs → k < length rs → In (nth rs j) y → In (nth rs k) y → j ≡ k
  -- the sum: N - 2A - 3 usable blocks
  pub sum : total rs + used_blocks arr 128 ≡ blocks B n - 2 * array_blocks B - 3
