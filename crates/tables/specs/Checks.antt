-- Tests over all array places, in which the card calls are defined. From document 01, "Card check" and "Put": each entry, the lowest slot. Assumes nothing.
use Rattle.std.specs.Prelude.{Bool, true, ◌&&◌, ℕ, zero, suc}
use Rattle.units.specs.Answer.{pick}

-- the test holds of every k below n
unfoldable pub all : ℕ → (ℕ → Bool) → Bool
all zero f = true
all (suc n) f = f n && all n f

-- the lowest k below n that passes, or n
unfoldable pub lowest : ℕ → (ℕ → Bool) → ℕ
lowest zero f = 0
lowest (suc n) f = pick (f 0) 0 (suc (lowest n (λ (k : ℕ). f (suc k))))
