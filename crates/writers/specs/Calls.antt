-- The calls as values, each with its answer and the image that it leaves, and lists of them. From document 02, 8/13: all but lay, which makes the table, and the read of a payload, which shows the tiles. Each is the definition that
-- the call's contract cites, of a stage its answer before it is told as a struct; `listing` is the list of all entries, by which the three ways of asking one by one are known. An answer is all that a caller gets: the number with its slot and place, the state for the next stage, and what lent rows and bytes then hold. Assumes nothing.
use Rattle.std.specs.Prelude.{◌≡◌, Bool, true, false, List, [], ◌∷◌, ℕ, zero, suc, ◌/◌, length}
use Rattle.units.specs.declared.BytePlace.{BytePlace}
use Rattle.units.specs.Answer.{Answer, Outcome, gives}
use Rattle.partition.specs.declared.Partition.{Partition}
use Rattle.partition.specs.Array.{Found}
use Rattle.rows.specs.declared.Entry.{Entry}
use Rattle.rows.specs.Row.{RowOutcome, row_outcome}
use Rattle.rows.specs.RowBytes.{bytes_outcome}
use Rattle.tables.specs.Lens.{Side}
use Rattle.tables.specs.Check.{check_answer}
use Rattle.listing.specs.Listing.{Listed, count_answer, next_answer, slot_read, nth_answer, entries_answer}
use Rattle.listing.specs.LentRow.{listing_read}
use Rattle.ground.specs.Answers.{Rows, ground_outcome}
use Rattle.card.specs.Calls.{put_outcome, clear_outcome, payload_outcome, place_answer}
use Rattle.history.specs.History.{taken}
use Rattle.slot_map.specs.Map.{made_answer, marked}
use Rattle.reader.specs.Reader.{side_answer, reader_count, reader_next, reader_slot, reader_read}
use Rattle.staged.specs.declared.Update.{Update}
use Rattle.staged.specs.declared.Repair.{Repair}
use Rattle.staged.specs.Numbers as staged

pub data Call : Type 0 where
  put : (s : ℕ) (p : Partition) → Call
  clear : (s : ℕ) → Call
  payload : (s p : ℕ) (vs : List ℕ) → Call
  -- the check, and the ways of listing: the count, the next slot, a slot, entry k, all, all into a lent row, all into lent bytes
  checking : Call
  counting : Call
  following : (after : ℕ) → Call
  reading : (s : ℕ) → Call
  nth : (k : ℕ) → Call
  listing : Call
  into_row : (row : List Entry) → Call
  into_bytes : (out : List ℕ) → Call
  -- the free ground into two lent rows, the slot map, and put and clear that carry one
  free_ground : (starts lengths : List ℕ) → Call
  mapping : Call
  map_put : (s : ℕ) (p : Partition) (m : List Bool) → Call
  map_clear : (s : ℕ) (m : List Bool) → Call
  -- stage one, and a later stage with whatever state
  start_put : (s : ℕ) (p : Partition) → Call
  start_clear : (s : ℕ) → Call
  stage : (k : ℕ) (u : Update) → Call
  -- the reader: which table, the count, the next slot, a slot, all into a lent row or lent bytes
  reader_side : Call
  reader_counting : Call
  reader_following : (after : ℕ) → Call
  reader_reading : (s : ℕ) → Call
  reader_into_row : (row : List Entry) → Call
  reader_into_bytes : (out : List ℕ) → Call
  -- repair by its stages, a later one with whatever state
  start_repair : Call
  repair : (k : ℕ) (r : Repair) → Call
  -- where m bytes at place p of a slot's partition stand
  placing : (s p m : ℕ) → Call

-- an answer of whatever call
pub data Reply : Type 0 where
  verdict : Answer Unit → Reply
  number : Answer ℕ → Reply
  slots : Answer (List ℕ) → Reply
  found : Answer Found → Reply
  entries : Answer (List Listed) → Reply
  row : RowOutcome → Reply
  bytes : Outcome (Answer ℕ) → Reply
  ground : Rows (Answer ℕ) → Reply
  map : Answer (List Bool) → Reply
  carried : Answer Unit → List Bool → Reply
  update : Answer Update → Reply
  side : Answer Side → Reply
  mended : Answer Repair → Reply
  place : Answer BytePlace → Reply

-- a call that changes the image, one that reads it, and one that carries a map
abbrev pub said : {A : Type 0} → (A → Reply) → Outcome A → Outcome Reply
said f o = gives (f o.answer) o.image

abbrev pub told : {A : Type 0} → (A → Reply) → A → List ℕ → Outcome Reply
told f a xs = gives (f a) xs

abbrev pub with_map : ℕ → Bool → List Bool → Outcome (Answer Unit) → Outcome Reply
with_map s v m o = gives (carried o.answer (marked (taken o.answer) s v m)) o.image

abbrev pub call : ℕ → Call → List ℕ → Outcome Reply
call B (put s p) xs = said verdict (put_outcome B xs s p)
call B (clear s) xs = said verdict (clear_outcome B xs s)
call B (payload s p vs) xs = said number (payload_outcome B xs s p vs)
call B checking xs = told verdict (check_answer B xs) xs
call B counting xs = told number (count_answer B xs) xs
call B (following k) xs = told slots (next_answer B xs k) xs
call B (reading s) xs = told found (slot_read B xs s) xs
call B (nth k) xs = told entries (nth_answer B xs k) xs
call B listing xs = told entries (entries_answer B xs) xs
call B (into_row r) xs = told row (row_outcome (listing_read B xs (length r)) r) xs
call B (into_bytes out) xs = told bytes (bytes_outcome (listing_read B xs (length out / 136)) out) xs
call B (free_ground ss ls) xs = told ground (ground_outcome B xs ss ls) xs
call B mapping xs = told map (made_answer B xs) xs
call B (map_put s p m) xs = with_map s true m (put_outcome B xs s p)
call B (map_clear s m) xs = with_map s false m (clear_outcome B xs s)
call B (start_put s p) xs = said update (staged.start_put B xs s p)
call B (start_clear s) xs = said update (staged.start_clear B xs s)
call B (stage k u) xs = said update (staged.next_stage B xs k u)
call B reader_side xs = told side (side_answer B xs) xs
call B reader_counting xs = told number (reader_count B xs) xs
call B (reader_following k) xs = told slots (reader_next B xs k) xs
call B (reader_reading s) xs = told found (reader_slot B xs s) xs
call B (reader_into_row r) xs = told row (row_outcome (reader_read B xs (length r)) r) xs
call B (reader_into_bytes out) xs = told bytes (bytes_outcome (reader_read B xs (length out / 136)) out) xs
call B start_repair xs = said mended (staged.start_repair B xs)
call B (repair k r) xs = said mended (staged.next_repair B xs k r)
call B (placing s p m) xs = told place (place_answer B xs s p m) xs

-- the answers of a list of calls, and the image after them
unfoldable pub run : ℕ → List Call → List ℕ → Outcome (List Reply)
run B [] xs = gives [] xs
run B (c ∷ cs) xs = gives ((call B c xs).answer ∷ (run B cs (call B c xs).image).answer) (run B cs (call B c xs).image).image

-- a caller that chooses each call by the answers so far, the last one first: k calls
unfoldable pub talk : ℕ → (List Reply → Call) → ℕ → List Reply → List ℕ → Outcome (List Reply)
talk B f zero rs xs = gives rs xs
talk B f (suc k) rs xs = talk B f k ((call B (f rs) xs).answer ∷ rs) (call B (f rs) xs).image

-- two calls that are alike: the same one, or payload writes with the same slot, place and length
pub data Pair : Type 0 where
  same : Call → Pair
  tiles : (s p : ℕ) (vs ws : List ℕ) → length vs ≡ length ws → Pair

abbrev pub one : Pair → Call
one (same c) = c
one (tiles s p vs ws e) = payload s p vs

abbrev pub other : Pair → Call
other (same c) = c
other (tiles s p vs ws e) = payload s p ws
