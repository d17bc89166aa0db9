-- A list of calls after a lay, accepted and refused among them, and what it tells of every slot and every byte. What the card then is: `Card`.
-- From document 01, "The card calls" and "How much a contract has to say", and document 02, 3/13 and 7/13. Assumes nothing.
use Rattle.std.specs.Prelude.{◌≡◌, ◌⊎◌, Bool, true, false, ◌&&◌, List, [], ◌∷◌, ◌++◌, ℕ, zero, suc, ◌+◌, ◌*◌, ◌-◌, ◌≤◌, ◌<◌, eqb, leb, ltb, length, get_or}
use Rattle.units.specs.declared.Guid.{Guid}
use Rattle.units.specs.Guids.{guid_bytes}
use Rattle.units.specs.Answer.{Answer, accepted, refused, pick, Outcome}
use Rattle.header.specs.declared.Header.{Header}
use Rattle.header.specs.Reading.{primary_read, backup_read}
use Rattle.partition.specs.declared.Partition.{Partition}
use Rattle.partition.specs.Format.{named, entry_bytes, zero_partition}
use Rattle.partition.specs.Array.{Found, array_found, partition_read}
use Rattle.partition.specs.Held.{PartitionHeld}
use Rattle.tables.specs.Check.{check_answer}
use Rattle.tables.specs.Places.{first_usable_of, last_usable_of, back_array}
use Rattle.tables.specs.Lens.{tables_at, OutsideTables}
use Rattle.tables.specs.Headers.{card_of}
use Rattle.listing.specs.Listing.{Listed, entries_answer}
use Rattle.card.specs.Calls.{put_bytes, put_at, clear_at, payload_at}

-- ---- calls

-- a call as a value, with whatever arguments
pub data Op : Type 0 where
  put : (s : ℕ) (p : Partition) → PartitionHeld p → Op
  clear : (s : ℕ) → Op
  payload : (s p : ℕ) (ys : List ℕ) → Op

-- whether a call was accepted, and the image that it left
pub record Done : Type 0 where
  pub taken : Bool
  pub image : List ℕ

abbrev pub taken : {A : Type 0} → Answer A → Bool
taken (accepted v) = true
taken (refused w) = false

abbrev pub done : {A : Type 0} → Outcome (Answer A) → Done
done o = record { taken = taken o.answer; image = o.image }

-- in an image of n bytes
abbrev pub done_at : ℕ → ℕ → Op → List ℕ → Done
done_at B n (put s p _) xs = done (put_at B n xs s (put_bytes p) p.flags.reserved)
done_at B n (clear s) xs = done (clear_at B n xs s)
done_at B n (payload s p ys) xs = done (payload_at B n xs s p ys)

abbrev pub call : ℕ → Op → List ℕ → Done
call B o xs = done_at B (length xs) o xs

-- the image after a list of calls
unfoldable pub run : ℕ → List Op → List ℕ → List ℕ
run B [] xs = xs
run B (o ∷ os) xs = run B os (call B o xs).image

-- ---- what is told of a slot: the last accepted put or clear of it

abbrev pub empty_slot : Found
empty_slot = record { present = false; partition = zero_partition }

abbrev pub filled_slot : Partition → Found
filled_slot p = record { present = true; partition = named p }

-- what a call makes of slot k, which held x
abbrev pub after : Bool → Op → ℕ → Found → Found
after true (put s p _) k x = pick (eqb k s) (filled_slot p) x
after true (clear s) k x = pick (eqb k s) empty_slot x
after true (payload s p ys) k x = x
after false o k x = x

unfoldable pub told : ℕ → List Op → List ℕ → ℕ → Found → Found
told B [] xs k x = x
told B (o ∷ os) xs k x = told B os (call B o xs).image k (after (call B o xs).taken o k x)

-- the filled slots of n from slot k + 1 on, ascending, each with its record
unfoldable pub filled_from : (ℕ → Found) → ℕ → ℕ → List Listed
filled_from slots k zero = []
filled_from slots k (suc n) =
    pick (slots (k + 1)).present
    (record { slot = k + 1; partition = (slots (k + 1)).partition } ∷ filled_from slots (k + 1) n)
    (filled_from slots (k + 1) n)

-- ---- what is told of a byte beside the tables: the last accepted payload write over it, at its place in the partition that its slot then held

unfoldable pub covers : ℕ → ℕ → ℕ → Bool
covers at m i = leb at i && ltb i (at + m)

-- byte p of the partition that a slot holds
abbrev pub place_in : ℕ → Found → ℕ → ℕ
place_in B f p = f.partition.first_lba.0 * B + p

-- what a call makes of byte i, which was x, where the slots hold what was told of them
abbrev pub after_byte : ℕ → Bool → Op → (ℕ → Found) → ℕ → ℕ → ℕ
after_byte B true (put s p _) slots i x = x
after_byte B true (clear s) slots i x = x
after_byte B true (payload s p ys) slots i x = pick (covers (place_in B (slots s) p) (length ys) i) (get_or ys (i - place_in B (slots s) p) 0) x
after_byte B false o slots i x = x

unfoldable pub told_byte : ℕ → List Op → List ℕ → (ℕ → Found) → ℕ → ℕ → ℕ
told_byte B [] xs slots i x = x
told_byte B (o ∷ os) xs slots i x =
    told_byte B os (call B o xs).image (λ (k : ℕ). after (call B o xs).taken o k (slots k)) i (after_byte B (call B o xs).taken o slots i x)

-- ---- the bytes of the slots

-- the records of n slots from slot k + 1 on, 128 bytes each; an empty slot has zeros
unfoldable pub slot_bytes : (ℕ → Found) → ℕ → ℕ → List ℕ
slot_bytes slots k zero = []
slot_bytes slots k (suc n) = entry_bytes (slots (k + 1)).partition ++ slot_bytes slots (k + 1) n

-- the whole array
abbrev pub array_of : (ℕ → Found) → List ℕ
array_of slots = slot_bytes slots 0 128

-- ---- a card, by the readers of the format

-- a header that was read has the GUID and the usable blocks, its array is found at its own place with its check sum right, and each of 128 slots reads as told
pub record Reads (B : ℕ) (g : Guid) (slots : ℕ → Found) (xs : List ℕ) (array : ℕ) (answer : Answer Header) : Type 0 where
  pub header : Header
  pub read : answer ≡ accepted header
  pub guid : header.disk_guid ≡ g
  pub first : header.first_usable.0 ≡ first_usable_of B
  pub last : header.last_usable.0 ≡ last_usable_of B (length xs)
  pub count : header.num_parts ≡ 128
  pub found : array_found xs header B ≡ accepted (record { 0 = array })
  pub each : (s : ℕ) → 1 ≤ s → s ≤ 128 → partition_read xs header B s ≡ accepted (slots s)

-- the blocks of a record are usable ones
pub record Within (B n : ℕ) (p : Partition) : Type 0 where
  pub order : p.first_lba.0 ≤ p.last_lba.0
  pub low : first_usable_of B ≤ p.first_lba.0
  pub high : p.last_lba.0 ≤ last_usable_of B n

-- two records share no block
abbrev pub Apart : Partition → Partition → Type 0
Apart p q = (p.last_lba.0 < q.first_lba.0) ⊎ (q.last_lba.0 < p.first_lba.0)

pub record Card (B : ℕ) (g : Guid) (slots : ℕ → Found) (xs : List ℕ) : Type 0 where
  -- the check accepts, the listing gives the filled slots, and both tables read as told
  pub check : check_answer B xs ≡ accepted tt
  pub listing : entries_answer B xs ≡ accepted (filled_from slots 0 128)
  pub primary : Reads B g slots xs (B + B) (primary_read xs B)
  pub backup : Reads B g slots xs (back_array B (length xs)) (backup_read xs B)
  -- the usable blocks lie after block 0 and the front table, and before the back table
  pub ground : B + B + 16384 ≤ first_usable_of B * B
  pub roof : (last_usable_of B (length xs) + 1) * B ≤ back_array B (length xs)
  -- partitions lie in them, and no two share a block
  pub within : (s : ℕ) → 1 ≤ s → s ≤ 128 → (slots s).present ≡ true → Within B (length xs) (slots s).partition
  pub apart : (s t : ℕ) → 1 ≤ s → s ≤ 128 → 1 ≤ t → t ≤ 128 → (s ≡ t → ⊥) → (slots s).present ≡ true → (slots t).present ≡ true
      → Apart (slots s).partition (slots t).partition
  -- any two have different partition GUIDs
  pub single : (s t : ℕ) → 1 ≤ s → s ≤ 128 → 1 ≤ t → t ≤ 128 → (s ≡ t → ⊥) → (slots s).present ≡ true → (slots t).present ≡ true
      → (slots s).partition.part_guid ≡ (slots t).partition.part_guid → ⊥

-- ---- after any calls on an image that was laid with a GUID: demand 3

pub record Told (B : ℕ) (g : Guid) (os : List Op) (laid : List ℕ) : Type 0 where
  -- the image keeps its length
  pub size : length (run B os laid) ≡ length laid
  -- it is a card whose slots hold what the last accepted put or clear of each gave; a slot with none is empty
  pub card : Card B g (λ (s : ℕ). told B os laid s empty_slot) (run B os laid)
  -- both tables are, byte for byte, the headers that lay writes for the GUID, and the array of these slots
  pub tables : tables_at B (length laid) (run B os laid) ≡ card_of B (length laid) (guid_bytes g) (array_of (λ (s : ℕ). told B os laid s empty_slot))
  -- a byte in neither table is what the last accepted payload write over it gave; with none it is as it was
  pub bytes : (i : ℕ) → OutsideTables B (length laid) i → get_or (run B os laid) i 0 ≡ told_byte B os laid (λ (s : ℕ). empty_slot) i (get_or laid i 0)
