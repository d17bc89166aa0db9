-- The smallest inputs that document 01, "MBR", refuses, computed from the definitions. Assumes nothing.
use Rattle.std.specs.Prelude.{◌≡◌, refl, List, ℕ, replicate}
use Rattle.units.specs.Answer.{refuse}
use Rattle.units.specs.Bytes.{same}
use Rattle.units.specs.Places.{good_size, inside}
use Rattle.mbr.specs.declared.PartRecord.{PartRecord}
use Rattle.mbr.specs.declared.ProtectiveMbr.{ProtectiveMbr}
use Rattle.mbr.specs.Parsing.{record_parsed, mbr_parsed, image_parsed, bytes_read}
use Rattle.mbr.specs.Changing.{record_taken, record_set}

-- 1,024 is no block size, whatever the bytes are
pub size-1024-buffer : (xs : List ℕ) → mbr_parsed xs 1024 ≡ refuse 1
unfolding mbr_parsed good_size
size-1024-buffer xs = refl

pub size-1024-image : (xs : List ℕ) → image_parsed xs 1024 ≡ refuse 1
unfolding image_parsed good_size
size-1024-image xs = refl

-- one byte less than a block: 2 from an image, 12 from a buffer
pub short-image : image_parsed (replicate 511 0) 512 ≡ refuse 2
unfolding image_parsed good_size inside
short-image = refl

pub short-buffer : mbr_parsed (replicate 511 0) 512 ≡ refuse 12
unfolding mbr_parsed good_size
short-buffer = refl

-- a block of zeros ends in no 55 AA
pub zero-block : mbr_parsed (replicate 512 0) 512 ≡ refuse 13
unfolding mbr_parsed good_size same
zero-block = refl

pub short-record : record_parsed (replicate 15 0) ≡ refuse 14
unfolding record_parsed
short-record = refl

-- records stand at the places 0 to 3
pub taken-4 : (m : ProtectiveMbr) → record_taken m 4 ≡ refuse 18
unfolding record_taken
taken-4 m = refl

pub set-4 : (m : ProtectiveMbr) (p : PartRecord) → record_set m 4 p ≡ refuse 18
unfolding record_set
set-4 m p = refl

-- a disk signature of which a byte is missing
pub short-signature : bytes_read (replicate 443 0) 440 4 ≡ refuse 2
unfolding bytes_read inside
short-signature = refl
