-- Storing in an image, by document 01, "MBR": the full write changes bytes 0 to 511, the conservative one 446 to 511; boot code and signature alone; 2. Assumes nothing.
use Rattle.std.specs.Prelude.{not, List, ℕ, length}
use Rattle.std.proofs.lemmas.List.Edits.{sets}
use Rattle.units.specs.Answer.{Answer, accepted, refuse, pick, Outcome, gives}
use Rattle.units.specs.Places.{inside}
use Rattle.mbr.specs.declared.ProtectiveMbr.{ProtectiveMbr}
use Rattle.mbr.specs.Format.{mbr_bytes, tail_bytes}

-- bytes stored at a place: 2 if there is not room for them; the answer is how many
unfoldable pub bytes_stored : List ℕ → ℕ → List ℕ → Outcome (Answer ℕ)
bytes_stored xs at vs =
    pick (not (inside (length xs) at (length vs))) (gives (refuse 2) xs)
    (gives (accepted (length vs)) (sets xs at vs))

abbrev pub whole_stored : List ℕ → ProtectiveMbr → Outcome (Answer ℕ)
whole_stored xs m = bytes_stored xs 0 (mbr_bytes m)

abbrev pub tail_stored : List ℕ → ProtectiveMbr → Outcome (Answer ℕ)
tail_stored xs m = bytes_stored xs 446 (tail_bytes m.partitions)
