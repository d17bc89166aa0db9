-- Where the two tables stand in an image of n bytes with blocks of B bytes, and which blocks are usable.
-- From document 01, "The card calls": A is 16,384 / B; a table is one header block and the A blocks of its array. Assumes nothing.
use Rattle.std.specs.Prelude.{ℕ, ◌+◌, ◌*◌, ◌-◌, ◌/◌}

-- N, the blocks of the image; A, the blocks of an array
abbrev pub blocks : ℕ → ℕ → ℕ
blocks B n = n / B

abbrev pub array_blocks : ℕ → ℕ
array_blocks B = 16384 / B

-- the usable blocks: after block 0 and the front table, and before the back table
unfoldable pub first_usable_of : ℕ → ℕ
first_usable_of B = 2 + array_blocks B

unfoldable pub last_usable_of : ℕ → ℕ → ℕ
last_usable_of B n = blocks B n - array_blocks B - 2

-- the byte places of the back table: its array, and then its header in the last block. The front header stands at B, its array at B + B
unfoldable pub back_array : ℕ → ℕ → ℕ
back_array B n = (blocks B n - array_blocks B - 1) * B

unfoldable pub back_header : ℕ → ℕ → ℕ
back_header B n = (blocks B n - 1) * B
