-- Two images that agree on the blocks of the tables. From document 02, 8/13: blocks 1 to first usable - 1, and those after last usable up to N - 1, by the number of blocks and not
-- by a header, since the images need not be cards. Block 0 and the bytes after the last whole block may differ. Assumes nothing.
use Rattle.std.specs.Prelude.{◌≡◌, ◌⊎◌, List, ℕ, ◌+◌, ◌*◌, ◌≤◌, ◌<◌, length, get_or}
use Rattle.units.specs.Answer.{Outcome}
use Rattle.tables.specs.Places.{blocks, first_usable_of, last_usable_of}

-- byte i of an image of n bytes lies in these blocks
abbrev pub Watched : ℕ → ℕ → ℕ → Type 0
Watched B n i = ((B ≤ i) × (i < first_usable_of B * B)) ⊎ (((last_usable_of B n + 1) * B ≤ i) × (i < blocks B n * B))

-- two images of n bytes have the same byte wherever W watches
pub record AgreeOn (W : ℕ → Type 0) (n : ℕ) (xs ys : List ℕ) : Type 0 where
  pub left : length xs ≡ n
  pub right : length ys ≡ n
  pub bytes : (i : ℕ) → W i → get_or xs i 0 ≡ get_or ys i 0

abbrev pub Agree : ℕ → ℕ → List ℕ → List ℕ → Type 0
Agree B n xs ys = AgreeOn (Watched B n) n xs ys

-- one answer, and images that agree
pub record SameOn {A : Type 0} (W : ℕ → Type 0) (n : ℕ) (o p : Outcome A) : Type 0 where
  pub answer : o.answer ≡ p.answer
  pub images : AgreeOn W n o.image p.image

abbrev pub Same : {A : Type 0} → ℕ → ℕ → Outcome A → Outcome A → Type 0
Same B n o p = SameOn (Watched B n) n o p
