-- Worked examples of document 01, computed from the definitions: the longest partition, and the edges of a write to a device. Assumes nothing.
use Rattle.std.specs.Prelude.{◌≡◌, refl, true, false, List, [], ℕ, replicate}
use Rattle.units.specs.Answer.{accepted, refuse, gives}
use Rattle.units.specs.Places.{good_size, inside, inside_or_empty}
use Rattle.partition.specs.declared.Partition.{Partition}
use Rattle.partition.specs.Flags.{too_wide}
use Rattle.partition.specs.Lengths.{sectors_len, bytes_len}
use Rattle.partition.specs.Device.{run_place, device_sizes, device_place, entry_device, stored_at, entry_written, entry_stored, zeros_stored}

-- from block 1 on the count just fits, and its bytes do not
pub all_but_one : sectors_len 1 18446744073709551615 ≡ accepted 18446744073709551615
unfolding sectors_len
all_but_one = refl

pub all-but-one-bytes : bytes_len 1 18446744073709551615 512 ≡ refuse 3
unfolding bytes_len good_size
all-but-one-bytes = refl

-- block 2 ^ 55 - 1 is the last of 512 bytes whose end is 2 ^ 64: its entry 2 ends below that, its entry 3 at it
pub device-last : device_place 36028797018963967 2 512 128 1 ≡ accepted (record { 0 = 18446744073709551360 })
unfolding device_place device_sizes run_place good_size
device-last = refl

pub device-end : (xs : List ℕ) (p : Partition) → too_wide p.flags ≡ false → entry_stored xs p 3 36028797018963967 512 128 ≡ gives (refuse 3) xs
unfolding stored_at entry_device device_sizes run_place good_size
device-end xs p e = rw e

-- flags that cannot be joined are refused after 7 and before 3, and in a lent buffer of whatever length
pub device-flags : (xs : List ℕ) (p : Partition) → too_wide p.flags ≡ true → entry_stored xs p 0 18446744073709551615 512 128 ≡ gives (refuse 28) xs
unfolding stored_at entry_device device_sizes good_size
device-flags xs p e = rw e

pub buffer-flags : (p : Partition) → too_wide p.flags ≡ true → entry_written [] p ≡ gives (refuse 28) []
unfolding entry_written
buffer-flags p e = rw e

-- entries are of 1 to 4,096 bytes
pub device-size-none : (xs : List ℕ) (p : Partition) → entry_stored xs p 0 2 512 0 ≡ gives (refuse 7) xs
unfolding stored_at entry_device device_sizes good_size
device-size-none xs p = refl

pub device-size-most : device_place 2 0 512 4096 1 ≡ accepted (record { 0 = 1024 })
unfolding device_place device_sizes run_place good_size
device-size-most = refl

pub device-size-over : (xs : List ℕ) (p : Partition) → entry_stored xs p 0 2 512 4097 ≡ gives (refuse 7) xs
unfolding stored_at entry_device device_sizes good_size
device-size-over xs p = refl

-- zeroing no entries stores nothing and is accepted, outside the image too
pub zero-none : (xs : List ℕ) → zeros_stored xs 3 0 36028797018963967 512 128 ≡ gives (accepted 0) xs
unfolding stored_at device_place device_sizes run_place good_size inside_or_empty
zero-none xs = refl

-- but not at a place that passes 64 bits
pub zero-none-over : (xs : List ℕ) → zeros_stored xs 4 0 36028797018963967 512 128 ≡ gives (refuse 3) xs
unfolding stored_at device_place device_sizes run_place good_size
zero-none-over xs = refl

-- 2 ^ 56 entries of 128 bytes are 2 ^ 63 bytes: their end fits 64 bits, and no image of a block holds them
pub zero-too-many : zeros_stored (replicate 512 0) 0 72057594037927936 0 512 128 ≡ gives (refuse 2) (replicate 512 0)
unfolding stored_at device_place device_sizes run_place good_size inside_or_empty inside
zero-too-many = refl
