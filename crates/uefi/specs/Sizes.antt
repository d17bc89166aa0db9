-- Entry sizes by UEFI (UEFI 2.10, 5.3.2, SizeOfPartitionEntry): 128 times a power of two, and by document 02, 9/13, up to 4,096. Assumes nothing.
use Rattle.std.specs.Prelude.{Bool, false, ◌||◌, ℕ, zero, suc, ◌*◌, eqb}

-- n is one of m sizes, the first of which is s and each the double of the one before it
unfoldable pub doubled : ℕ → ℕ → ℕ → Bool
doubled s zero n = false
doubled s (suc m) n = eqb n s || doubled (s * 2) m n

-- 128, 256, 512, 1,024, 2,048 and 4,096
unfoldable pub good_each : ℕ → Bool
good_each n = doubled 128 6 n
