-- The words of `message`: a line for each number of documents 01 and 02, for 39 and 40, which the text calls give, and for each place that the card check names; then the slot. Assumes nothing.
use Rattle.std.specs.Prelude.{List, [], ◌∷◌, ◌++◌, ℕ, ◌+◌, ◌-◌, eqb, ltb, get_or}
use Prim.Native.String.{String}
use Rattle.units.specs.Answer.{pick}
use Rattle.text.specs.Digits.{digits}
use Rattle.text.specs.Texts.{ascii}

-- the lines of 0 to 20
unfoldable pub first_texts : List String
first_texts =
    "accepted"
    ∷ "refused 1, BadBlockSize: the block size is neither 512 nor 4,096"
    ∷ "refused 2, Short: the bytes to read or write are not all inside the slice"
    ∷ "refused 3, Overflow: a product or sum passes its width"
    ∷ "refused 4, InvalidGptSignature: the header does not begin with EFI PART"
    ∷ "refused 5, InvalidCRC32Checksum: the header's check sum does not match"
    ∷ "refused 6, PartsCrc: the entry array's check sum does not match"
    ∷ "refused 7, BadEntrySize: an entry size that cannot be read or written"
    ∷ "refused 8, ToSmallForBackup: the image is shorter than three blocks"
    ∷ "refused 9, MissingBackupLba: the backup comes before the primary"
    ∷ "refused 10, BackupLbaToEarly: there is no room between the two tables"
    ∷ "refused 11, WritingToWrongLba: a primary's block is not before its backup's, or a backup's not after its primary's"
    ∷ "refused 12, InvalidMBRLength: the buffer is not one block long"
    ∷ "refused 13, InvalidMBRSignature: bytes 510 and 511 are not 55 AA"
    ∷ "refused 14, InvalidPartitionLength: the MBR record's buffer is not 16 bytes long"
    ∷ "refused 15, NoRoom: more entries or runs are there than there is room for in what was lent"
    ∷ "refused 16, WrongLayout: the table is not laid out as a card's"
    ∷ "refused 17, Disagree: the two tables differ"
    ∷ "refused 18, BadSlot: there is no such slot or record"
    ∷ "refused 19, NilType: a partition of no type"
    ∷ "refused 20, BadRange: the last block comes before the first"
    ∷ []

-- the lines of 21 to 40, and the one of every other number
unfoldable pub later_texts : List String
later_texts =
    "refused 21, OutsideUsable: a block outside the usable ones"
    ∷ "refused 22, Overlap: a block that another slot has"
    ∷ "refused 23, EmptySlot: the slot is not used"
    ∷ "refused 24, PastPartition: the bytes pass the partition's end"
    ∷ "refused 25, TwinGuid: a partition GUID that another used slot has"
    ∷ "refused 26, WrongStage: the state does not lead to this stage on an image of this length and block size"
    ∷ "refused 27, NoGoodCopy: neither table of the card can be read"
    ∷ "refused 28, ReservedFlag: a flag that UEFI keeps reserved"
    ∷ "refused 29, BadHeaderSize: the header's stated size is below 92 or above the block size"
    ∷ "refused 30, DirtyBlock: the header's block has other bytes than zero after the header"
    ∷ "refused 31, WrongPlace: the header names another block than the one it was read from"
    ∷ "refused 32, WindowLength: a window is not as long as the card asks for"
    ∷ "refused 33, TableFull: all 128 slots are used"
    ∷ "refused 34, BadMark: the map does not begin with the mark FBM"
    ∷ "refused 35, UnknownVersion: the label's version is not 1"
    ∷ "refused 36, BadDate: the label's month is not 1 to 12, or its day not 1 to 31"
    ∷ "refused 37, TwoDates: the maps have two dates or two style revisions"
    ∷ "refused 38, EmptyList: no slot was named"
    ∷ "refused 39, BadText: the text is no GUID, or no UTF-8, or has a zero in it"
    ∷ "refused 40, LongName: the name has more than 36 UTF-16 units"
    ∷ "the library has no such number"
    ∷ []

-- the lines with a place: front and back of 4, 5, 6 and 16, then the two of 17
unfoldable pub placed_texts : List String
placed_texts =
    "refused 4, InvalidGptSignature: the front table's header does not begin with EFI PART"
    ∷ "refused 4, InvalidGptSignature: the back table's header does not begin with EFI PART"
    ∷ "refused 5, InvalidCRC32Checksum: the front table's header check sum does not match"
    ∷ "refused 5, InvalidCRC32Checksum: the back table's header check sum does not match"
    ∷ "refused 6, PartsCrc: the front table's entry check sum does not match"
    ∷ "refused 6, PartsCrc: the back table's entry check sum does not match"
    ∷ "refused 16, WrongLayout: the front table is not laid out as a card's"
    ∷ "refused 16, WrongLayout: the back table is not laid out as a card's"
    ∷ "refused 17, Disagree: the two tables have different disk GUIDs"
    ∷ "refused 17, Disagree: the two tables differ, first in slot "
    ∷ []

-- the bytes of the line at a place of a list
unfoldable pub text_in : List String → ℕ → List ℕ
text_in ts k = ascii (get_or ts k "")

-- the line at a place of the three lists, one behind the other
unfoldable pub text_at : ℕ → List ℕ
text_at k = pick (ltb k 21) (text_in first_texts k) (pick (ltb k 42) (text_in later_texts (k - 21)) (text_in placed_texts (k - 42)))

-- the line of a number with a place of its own: 1 is the front table and 2 the back one
unfoldable pub placed_line : ℕ → ℕ → ℕ
placed_line number place =
    pick (eqb number 4) (41 + place) (pick (eqb number 5) (43 + place) (pick (eqb number 6) (45 + place) (pick (eqb number 16) (47 + place) number)))

-- the line of 17, which is told by the disk GUIDs, 3, or by a slot, 4
unfoldable pub disagree_line : ℕ → ℕ
disagree_line place = pick (eqb place 3) 50 (pick (eqb place 4) 51 17)

-- the line of a number and a place
unfoldable pub line_for : ℕ → ℕ → ℕ
line_for number place =
    pick (ltb 40 number) 41
    (pick (eqb number 17) (disagree_line place)
    (pick (eqb place 1) (placed_line number 1)
    (pick (eqb place 2) (placed_line number 2) number)))

-- 1 where a number has reached another
unfoldable pub reached : ℕ → ℕ → ℕ
reached p n = pick (ltb n p) 0 1

-- how many decimal digits a number below 10,000,000,000 has: one, and one more for each power of ten that it has reached
unfoldable pub digit_count : ℕ → ℕ
digit_count n =
    1 + reached 10 n + reached 100 n + reached 1000 n + reached 10000 n + reached 100000 n + reached 1000000 n + reached 10000000 n + reached 100000000 n + reached 1000000000 n

unfoldable pub decimal : ℕ → List ℕ
decimal n = digits 10 (digit_count n) n

abbrev pub bracketed : ℕ → List ℕ
bracketed slot = ascii " (slot " ++ (decimal slot ++ ascii ")")

-- the slot behind a line: the one that differs ends line 51; any other refusal has it in brackets where it names one
unfoldable pub slot_words : ℕ → ℕ → List ℕ
slot_words line slot =
    pick (eqb line 51) (decimal slot)
    (pick (eqb slot 0) []
    (pick (eqb line 0) []
    (pick (ltb 40 line) []
    (bracketed slot))))

-- the words of a number, the place and the slot that it names
unfoldable pub message_text : ℕ → ℕ → ℕ → List ℕ
message_text number place slot = text_at (line_for number place) ++ slot_words (line_for number place) slot
