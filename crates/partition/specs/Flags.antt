-- The attributes of a partition entry (UEFI 2.10, 5.3.3, table 5.8): bit 0 required partition, bit 1 no block I/O protocol, bit 2 legacy BIOS bootable, bits 3 to 47
-- reserved, bits 48 to 63 for the owner of the type. Document 02, 7/13, gives them names. Assumes nothing.
use Rattle.std.specs.Prelude.{Bool, true, false, ℕ, ◌+◌, ◌*◌, ◌/◌, ◌%◌, ◌^◌, ◌<◌, eqb, leb}
use Rattle.units.specs.Answer.{Answer, accepted, refuse, pick}
use Rattle.partition.specs.declared.Flags.{Flags}

-- a yes/no as a bit
abbrev pub bit : Bool → ℕ
bit true = 1
bit false = 0

-- bit i of a number
abbrev pub bit_at : ℕ → ℕ → Bool
bit_at n i = eqb (n / 2 ^ i % 2) 1

-- the flags in 64 bits
unfoldable pub flags_of : ℕ → Flags
flags_of n =
    record {
      reserved = n / 2 ^ 3 % 2 ^ 45;
      owner = n / 2 ^ 48;
      required = bit_at n 0;
      no_block_io = bit_at n 1;
      legacy_bootable = bit_at n 2;
    }

-- the bits of flags, each part at its place
unfoldable pub joined : Flags → ℕ
joined f = bit f.required + 2 * bit f.no_block_io + 4 * bit f.legacy_bootable + 2 ^ 3 * f.reserved + 2 ^ 48 * f.owner

-- the reserved part needs more than 45 bits, or has its place
abbrev pub too_wide : Flags → Bool
too_wide f = leb (2 ^ 45) f.reserved

abbrev pub Joins : Flags → Type 0
Joins f = f.reserved < 2 ^ 45

-- the 64 bits, or 28
unfoldable pub bits_of : Flags → Answer ℕ
bits_of f = pick (too_wide f) (refuse 28) (accepted (joined f))

-- the flags with no reserved bit
abbrev pub unreserved : Flags → Flags
unreserved f =
    record {
      reserved = 0;
      owner = f.owner;
      required = f.required;
      no_block_io = f.no_block_io;
      legacy_bootable = f.legacy_bootable;
    }
