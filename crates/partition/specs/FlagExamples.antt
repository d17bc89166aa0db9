-- Flags written down from UEFI's table 5.8, bit by bit, and computed from the definitions. Assumes nothing.
use Rattle.std.specs.Prelude.{◌≡◌, refl, true, false}
use Rattle.units.specs.Answer.{accepted, refuse}
use Rattle.partition.specs.Flags.{flags_of, joined, bits_of}

-- bits 0 and 63: a required partition, and the highest bit of the type's owner
pub highest-and-lowest :
    flags_of 0x8000000000000001 ≡ record { reserved = 0; owner = 0x8000; required = true; no_block_io = false; legacy_bootable = false }
unfolding flags_of
highest-and-lowest = refl

-- bit 1 and bit 2, each alone
pub no-block-io : flags_of 2 ≡ record { reserved = 0; owner = 0; required = false; no_block_io = true; legacy_bootable = false }
unfolding flags_of
no-block-io = refl

pub legacy-bootable : flags_of 4 ≡ record { reserved = 0; owner = 0; required = false; no_block_io = false; legacy_bootable = true }
unfolding flags_of
legacy-bootable = refl

-- bits 3 and 47 are the first and the last of the reserved ones, bit 48 is the owner's first
pub first-reserved : flags_of 8 ≡ record { reserved = 1; owner = 0; required = false; no_block_io = false; legacy_bootable = false }
unfolding flags_of
first-reserved = refl

pub last-reserved :
    flags_of 0x0000800000000000 ≡ record { reserved = 0x100000000000; owner = 0; required = false; no_block_io = false; legacy_bootable = false }
unfolding flags_of
last-reserved = refl

pub first-of-owner : flags_of 0x0001000000000000 ≡ record { reserved = 0; owner = 1; required = false; no_block_io = false; legacy_bootable = false }
unfolding flags_of
first-of-owner = refl

-- all bits
pub every-bit : flags_of 0xFFFFFFFFFFFFFFFF ≡ record { reserved = 0x1FFFFFFFFFFF; owner = 0xFFFF; required = true; no_block_io = true; legacy_bootable = true }
unfolding flags_of
every-bit = refl

-- and joined: required, legacy bootable, reserved bit 3, and the owner's bits 48 and 60
pub some-joined : joined (record { reserved = 1; owner = 0x1001; required = true; no_block_io = false; legacy_bootable = true }) ≡ 0x100100000000000D
unfolding joined
some-joined = refl

-- a reserved part of exactly 45 bits has its place, one of 46 has none
pub widest : bits_of (record { reserved = 0x1FFFFFFFFFFF; owner = 0; required = false; no_block_io = false; legacy_bootable = false }) ≡ accepted 0x0000FFFFFFFFFFF8
unfolding bits_of joined
widest = refl

pub too_wide : bits_of (record { reserved = 0x200000000000; owner = 0; required = false; no_block_io = false; legacy_bootable = false }) ≡ refuse 28
unfolding bits_of
too_wide = refl
