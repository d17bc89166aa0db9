-- A GUID in its sixteen bytes (UEFI 2.10, appendix A): TimeLow at 0 in 4 bytes, TimeMid at 4 in 2, TimeHighAndVersion at 6 in 2, little-endian;
-- then eight bytes in their order. Assumes nothing.
use Rattle.std.specs.Prelude.{Bool, not, List, [], ◌∷◌, ◌++◌, ℕ, ◌+◌, length, get_or}
use Rattle.std.proofs.lemmas.List.Edits.{sets}
use Rattle.units.specs.declared.Tail.{Tail}
use Rattle.units.specs.declared.Guid.{Guid}
use Rattle.units.specs.Answer.{Answer, accepted, refuse, pick, Outcome, gives}
use Rattle.units.specs.Bytes.{num, bytes, all_zero}
use Rattle.units.specs.Places.{inside}

-- the eight bytes from place at on
abbrev pub tail_at : List ℕ → ℕ → Tail
tail_at xs at =
    record {
      0 = get_or xs at 0;
      1 = get_or xs (at + 1) 0;
      2 = get_or xs (at + 2) 0;
      3 = get_or xs (at + 3) 0;
      4 = get_or xs (at + 4) 0;
      5 = get_or xs (at + 5) 0;
      6 = get_or xs (at + 6) 0;
      7 = get_or xs (at + 7) 0;
    }

abbrev pub tail_bytes : Tail → List ℕ
tail_bytes t = t.0 ∷ t.1 ∷ t.2 ∷ t.3 ∷ t.4 ∷ t.5 ∷ t.6 ∷ t.7 ∷ []

-- the GUID in the sixteen bytes from place at on
abbrev pub guid_at : List ℕ → ℕ → Guid
guid_at xs at =
    record {
      time_low = num xs at 4;
      time_mid = num xs (at + 4) 2;
      time_high = num xs (at + 6) 2;
      tail = tail_at xs (at + 8);
    }

-- the sixteen bytes of a GUID
abbrev pub guid_bytes : Guid → List ℕ
guid_bytes g = bytes 4 g.time_low ++ (bytes 2 g.time_mid ++ (bytes 2 g.time_high ++ tail_bytes g.tail))

abbrev pub nil_guid : Guid
nil_guid =
    record {
      time_low = 0;
      time_mid = 0;
      time_high = 0;
      tail = record { 0 = 0; 1 = 0; 2 = 0; 3 = 0; 4 = 0; 5 = 0; 6 = 0; 7 = 0 };
    }

-- all sixteen bytes are zero
unfoldable pub is_nil : Guid → Bool
is_nil g = all_zero (guid_bytes g)

-- the GUID at a place of a slice: 2
unfoldable pub guid_read : List ℕ → ℕ → Answer Guid
guid_read xs at = pick (not (inside (length xs) at 16)) (refuse 2) (accepted (guid_at xs at))

-- a GUID stored at a place of a slice: 2; the answer is the number of bytes
unfoldable pub guid_stored : List ℕ → ℕ → Guid → Outcome (Answer ℕ)
guid_stored xs at g =
    pick (not (inside (length xs) at 16)) (gives (refuse 2) xs)
    (gives (accepted 16) (sets xs at (guid_bytes g)))
