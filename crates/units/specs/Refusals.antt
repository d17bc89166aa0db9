-- The number that documents 01 and 02 give each refusal, in the table "Numbers a call can come back with" and with each request. A refusal that is added gets
-- its line here; the contract of a call that never gives it stays. Assumes nothing.
use Rattle.std.specs.Prelude.{◌≡◌, refl, List, [], ◌∷◌, ℕ, ltb, get_or}
use Rattle.std.proofs.Common.{sym, ap, ◌∙◌}
use Rattle.units.specs.declared.Slot.{Slot}
use Rattle.units.specs.declared.Refusal.{Refusal}
use Rattle.units.specs.declared.Refusal.TheVariants.{BadBlockSize, Short, Overflow, InvalidGptSignature, InvalidCRC32Checksum, PartsCrc, BadEntrySize, ToSmallForBackup, MissingBackupLba, BackupLbaToEarly, WritingToWrongLba, InvalidMBRLength, InvalidMBRSignature, InvalidPartitionLength, NoRoom, WrongLayout, Disagree, BadSlot, NilType, BadRange, OutsideUsable, Overlap, EmptySlot, PastPartition, TwinGuid, WrongStage, NoGoodCopy, ReservedFlag, BadHeaderSize, DirtyBlock, WrongPlace, WindowLength, TableFull, BadMark, UnknownVersion, BadDate, TwoDates, EmptyList}
use Rattle.units.specs.declared.Reason.{Reason}
use Rattle.units.specs.declared.why.Why.{Why}
use Rattle.units.specs.Answer.{Answer, refused, of_slot, pick}

-- the number of each refusal, and the slot that 22 and 25 carry, else 0
abbrev numbered : Refusal → ℕ × ℕ
numbered BadBlockSize = (1, 0)
numbered Short = (2, 0)
numbered Overflow = (3, 0)
numbered InvalidGptSignature = (4, 0)
numbered InvalidCRC32Checksum = (5, 0)
numbered PartsCrc = (6, 0)
numbered BadEntrySize = (7, 0)
numbered ToSmallForBackup = (8, 0)
numbered MissingBackupLba = (9, 0)
numbered BackupLbaToEarly = (10, 0)
numbered WritingToWrongLba = (11, 0)
numbered InvalidMBRLength = (12, 0)
numbered InvalidMBRSignature = (13, 0)
numbered InvalidPartitionLength = (14, 0)
numbered NoRoom = (15, 0)
numbered WrongLayout = (16, 0)
numbered Disagree = (17, 0)
numbered BadSlot = (18, 0)
numbered NilType = (19, 0)
numbered BadRange = (20, 0)
numbered OutsideUsable = (21, 0)
numbered (Overlap s) = (22, s.0)
numbered EmptySlot = (23, 0)
numbered PastPartition = (24, 0)
numbered (TwinGuid s) = (25, s.0)
numbered WrongStage = (26, 0)
numbered NoGoodCopy = (27, 0)
numbered ReservedFlag = (28, 0)
numbered BadHeaderSize = (29, 0)
numbered DirtyBlock = (30, 0)
numbered WrongPlace = (31, 0)
numbered WindowLength = (32, 0)
numbered TableFull = (33, 0)
numbered BadMark = (34, 0)
numbered UnknownVersion = (35, 0)
numbered BadDate = (36, 0)
numbered TwoDates = (37, 0)
numbered EmptyList = (38, 0)

abbrev pub number : Refusal → ℕ
number w = (numbered w).0

abbrev pub slot_in : Refusal → ℕ
slot_in w = (numbered w).1

-- a refusal as a value: its number, and the slot that it carries
abbrev pub why : Refusal → Why
why w = of_slot (number w) (slot_in w)

-- the same with the place beside it
abbrev pub why_at : Reason → Why
why_at r = record { number = number r.what; slot = record { 0 = slot_in r.what }; place = r.place }

-- the number of a refusal that document 02 brings, 0 for one of document 01's
abbrev pub later_number : Refusal → ℕ
later_number w = pick (ltb 24 (number w)) (number w) 0

-- the answer that a refusal is
abbrev pub refused_by : {A : Type 0} → Refusal → Answer A
refused_by w = refused (why w)

-- the names by their numbers, 22 and 25 with their slot. 0 and the numbers past the last name, which no call gives, have the last name
abbrev pub names : Slot → List Refusal
names s =
    EmptyList ∷ BadBlockSize ∷ Short ∷ Overflow ∷ InvalidGptSignature ∷ InvalidCRC32Checksum ∷ PartsCrc ∷ BadEntrySize ∷ ToSmallForBackup ∷ MissingBackupLba ∷ BackupLbaToEarly ∷ WritingToWrongLba ∷ InvalidMBRLength ∷ InvalidMBRSignature ∷ InvalidPartitionLength ∷ NoRoom ∷ WrongLayout ∷ Disagree ∷ BadSlot ∷ NilType ∷ BadRange ∷ OutsideUsable ∷ Overlap s ∷ EmptySlot ∷ PastPartition ∷ TwinGuid s ∷ WrongStage ∷ NoGoodCopy ∷ ReservedFlag ∷ BadHeaderSize ∷ DirtyBlock ∷ WrongPlace ∷ WindowLength ∷ TableFull ∷ BadMark ∷ UnknownVersion ∷ BadDate ∷ TwoDates ∷ []

unfoldable pub refusal_of : Why → Refusal
refusal_of w = get_or (names w.slot) w.number EmptyList

-- the refusal by its name, with its place
unfoldable pub reason_of : Why → Reason
reason_of w = record { what = refusal_of w; place = w.place }

-- the names that document 02 brings; the other numbers have the last name
abbrev pub later_refusal : Why → Refusal
later_refusal w = pick (ltb 24 w.number) (refusal_of w) EmptyList

-- each refusal is the one that its own number and slot stand for
pub back : (w : Refusal) → refusal_of (why w) ≡ w
unfolding refusal_of
back BadBlockSize = refl
back Short = refl
back Overflow = refl
back InvalidGptSignature = refl
back InvalidCRC32Checksum = refl
back PartsCrc = refl
back BadEntrySize = refl
back ToSmallForBackup = refl
back MissingBackupLba = refl
back BackupLbaToEarly = refl
back WritingToWrongLba = refl
back InvalidMBRLength = refl
back InvalidMBRSignature = refl
back InvalidPartitionLength = refl
back NoRoom = refl
back WrongLayout = refl
back Disagree = refl
back BadSlot = refl
back NilType = refl
back BadRange = refl
back OutsideUsable = refl
back (Overlap s) = refl
back EmptySlot = refl
back PastPartition = refl
back (TwinGuid s) = refl
back WrongStage = refl
back NoGoodCopy = refl
back ReservedFlag = refl
back BadHeaderSize = refl
back DirtyBlock = refl
back WrongPlace = refl
back WindowLength = refl
back TableFull = refl
back BadMark = refl
back UnknownVersion = refl
back BadDate = refl
back TwoDates = refl
back EmptyList = refl

-- two refusals with one number and one slot are the same refusal
pub one-why : (v w : Refusal) → why v ≡ why w → v ≡ w
one-why v w e = sym (back v) ∙ ap refusal_of e ∙ back w

-- the same of a reason
pub reason-back : (r : Reason) → reason_of (why_at r) ≡ r
unfolding reason_of refusal_of
reason-back r = ap (λ (w : Refusal). record { what = w; place = r.place }) (back r.what)
