-- Entries in the order of their blocks: how far those that were passed reach, and whether the next one starts after that. The check's leaves pass an array
-- through once by these; what the check asks is in tables/specs/Entries. Assumes nothing.
use Rattle.std.specs.Prelude.{◌≡◌, Bool, true, List, ℕ, ◌≤◌, ◌<◌, ltb}
use Rattle.units.specs.Answer.{pick}
use Rattle.tables.specs.Entries.{entry, used, first_of, last_of}

-- unused, or starts after block top
unfoldable pub starts_after : List ℕ → ℕ → Bool
starts_after e top = pick (used e) (ltb top (first_of e)) true

-- the greater of top and the entry's last block, if it is used
unfoldable pub greatest_last : List ℕ → ℕ → ℕ
greatest_last e top = pick (used e) (pick (ltb top (last_of e)) (last_of e) top) top

-- no used entry before entry k ends after block top
abbrev pub Below : List ℕ → ℕ → ℕ → Type 0
Below arr k top = (j : ℕ) → j < k → used (entry arr j) ≡ true → last_of (entry arr j) ≤ top
