-- Reading MBRs, by document 01, "MBR": 12, 13; from an image 2 first; a record of other than 16 bytes 14; fewer bytes than needed 2. Assumes nothing.
use Rattle.std.specs.Prelude.{not, List, ℕ, eqb, length, replicate}
use Rattle.units.specs.Answer.{Answer, accepted, refuse, pick, Beside, beside}
use Rattle.units.specs.Bytes.{part, same}
use Rattle.units.specs.Places.{good_size, inside}
use Rattle.mbr.specs.declared.PartRecord.{PartRecord}
use Rattle.mbr.specs.declared.ProtectiveMbr.{ProtectiveMbr}
use Rattle.mbr.specs.Format.{record_at, mbr_at, signature, fresh}

unfoldable pub record_parsed : List ℕ → Answer PartRecord
record_parsed xs = pick (not (eqb (length xs) 16)) (refuse 14) (accepted (record_at xs 0))

unfoldable pub mbr_parsed : List ℕ → ℕ → Answer ProtectiveMbr
mbr_parsed xs b =
    pick (not (good_size b)) (refuse 1)
    (pick (not (eqb (length xs) b)) (refuse 12)
    (pick (not (same (part xs 510 2) signature)) (refuse 13)
    (accepted (mbr_at xs 0))))

-- block 0 of an image
unfoldable pub image_parsed : List ℕ → ℕ → Answer ProtectiveMbr
image_parsed xs b =
    pick (not (good_size b)) (refuse 1)
    (pick (not (inside (length xs) 0 b)) (refuse 2)
    (mbr_parsed (part xs 0 b) b))

-- n bytes at a place
unfoldable pub bytes_read : List ℕ → ℕ → ℕ → Answer (List ℕ)
bytes_read xs at n = pick (not (inside (length xs) at n)) (refuse 2) (accepted (part xs at n))

-- beside a refusal stands the new MBR
abbrev pub parsed_of : Answer ProtectiveMbr → Beside ProtectiveMbr
parsed_of r = beside (fresh 0xFFFFFFFF) r

-- beside a refusal stand n zeros
abbrev pub bytes_of : ℕ → Answer (List ℕ) → Beside (List ℕ)
bytes_of n r = beside (replicate n 0) r
