-- Worked examples of the UEFI Specification and of places, computed from the definitions. Assumes nothing.
use Rattle.std.specs.Prelude.{◌≡◌, refl, List, [], ◌∷◌, false, ℕ}
use Rattle.units.specs.declared.Guid.{Guid}
use Rattle.units.specs.Answer.{accepted, refuse}
use Rattle.units.specs.Bytes.{le, num, bytes}
use Rattle.units.specs.Places.{good_size, inside, place_of}
use Rattle.units.specs.Guids.{guid_at, guid_bytes}

-- the type of the EFI System Partition, C12A7328-F81F-11D2-BA4B-00A0C93EC93B (UEFI 2.10, table 5.7), and its bytes on the card
abbrev system : Guid
system =
    record {
      time_low = 0xC12A7328;
      time_mid = 0xF81F;
      time_high = 0x11D2;
      tail = record { 0 = 0xBA; 1 = 0x4B; 2 = 0x00; 3 = 0xA0; 4 = 0xC9; 5 = 0x3E; 6 = 0xC9; 7 = 0x3B };
    }

abbrev system_bytes : List ℕ
system_bytes =
    0x28 ∷ 0x73 ∷ 0x2A ∷ 0xC1 ∷ 0x1F ∷ 0xF8 ∷ 0xD2 ∷ 0x11 ∷ 0xBA ∷ 0x4B ∷ 0x00 ∷ 0xA0 ∷ 0xC9 ∷ 0x3E ∷ 0xC9 ∷ 0x3B ∷ []

pub system-read : guid_at system_bytes 0 ≡ system
unfolding num le
system-read = refl

pub system-stored : guid_bytes system ≡ system_bytes
unfolding bytes
system-stored = refl

-- block 34 of a card with blocks of 512 bytes
pub block-34 : place_of 34 512 ≡ accepted (record { 0 = 17408 })
unfolding place_of good_size
block-34 = refl

-- block 2 ^ 55 would start past 64 bits
pub block-far : place_of 36028797018963968 512 ≡ refuse 3
unfolding place_of good_size
block-far = refl

pub block-1024 : place_of 1 1024 ≡ refuse 1
unfolding place_of good_size
block-1024 = refl

-- a range whose end would wrap to 1 in 64 bits is not inside
pub inside-wrapped : inside 100 18446744073709551615 2 ≡ false
unfolding inside
inside-wrapped = refl
