-- A number in a range, its ends among it. Assumes nothing.
use Rattle.std.specs.Prelude.{Bool, ◌&&◌, ℕ, leb}

-- from a first number to a last
unfoldable pub between : ℕ → ℕ → ℕ → Bool
between first x last = leb first x && leb x last
