-- 8/13: on images that agree on the tables' blocks, the same call gives the same answer and leaves these blocks equal again; so do payload writes with the same slot, place and length.
-- Any images: where there is no room for two tables, every call refuses by the room's number. No contract cites this file. Assumes nothing.
use mathlib.Core.Path.{◌≡◌, refl, sym, ap, ◌∙◌, subst}
use mathlib.Core.Logic.{◌⊎◌, inl, inr}
use mathlib.Core.Bool.{Bool, not}
use mathlib.Core.List.{List, [], ◌∷◌}
use mathlib.Core.List as lists
use Prim.Native.Nat.{ℕ, zero, suc, ◌+◌, ◌-◌, ◌/◌, ◌≤◌, ◌<◌}
use native.Mathlib.Omega.{arith}
use lib.ListN.{length, take, drop}
use lib.Seq.{sets}
use Rattle.units.specs.Answer.{Answer, Outcome, judged, Ends}
use Rattle.units.specs.Bytes.{all_zero}
use Rattle.partition.specs.Format.{entry_at}
use Rattle.partition.specs.Array.{entry_place, present_from}
use Rattle.rows.specs.declared.Entry.{Entry}
use Rattle.rows.specs.Row.{row_outcome, present_entries}
use Rattle.rows.specs.RowBytes.{bytes_outcome}
use Rattle.tables.specs.Places.{back_array}
use Rattle.tables.specs.Lens.{Tables, tables_at, with_tables_at}
use Rattle.tables.specs.Entries.{zeros, entry}
use Rattle.tables.specs.Check.{check, slot_check}
use Rattle.tables.proofs.Room.{Room}
use Rattle.tables.proofs.Good.{room-ok}
use Rattle.listing.specs.Listing.{present_slots, listed, listing_check}
use Rattle.listing.specs.LentRow.{entries_in, listing_read}
use Rattle.ground.specs.Ground.{Run}
use Rattle.ground.specs.Answers.{runs_of, ground_check, settle_rows, ground_outcome}
use Rattle.card.specs.Calls.{put_bytes, put_check, payload_check, payload_place, changed, put_at, clear_at, payload_at}
use Rattle.history.proofs.Payload.{pays}
use Rattle.history.specs.History.{taken}
use Rattle.slot_map.specs.Map.{flags_from, marked}
use Rattle.reader.specs.Reader.{reader_check, reader_slot_check, reader_row_check, taken_side, taken_array, held_in, reader_read}
use Rattle.staged.specs.declared.Update.{Update}
use Rattle.staged.specs.declared.Repair.{Repair}
use Rattle.staged.specs.Stages.{fixed}
use Rattle.staged.specs.Repairs.{repair_of}
use Rattle.staged.specs.Stores.{stage_store, repair_store}
use Rattle.staged.specs.Numbers.{onward, onward_repair, start_put_at, start_clear_at, next_check, next_at, start_repair_at, next_repair_check, next_repair_at}
use Rattle.staged.proofs.Leads.{repair-leads}
use Rattle.writers.specs.Agree.{Watched, AgreeOn, Agree, SameOn, Same}
use Rattle.writers.specs.Calls.{Call, put, clear, payload, checking, counting, following, reading, nth, listing, into_row, into_bytes, free_ground, mapping, map_put, map_clear, start_put, start_clear, stage, reader_side, reader_counting, reader_following, reader_reading, reader_into_row, reader_into_bytes, start_repair, repair, placing}
use Rattle.writers.specs.Calls.{Reply, verdict, number, slots, found, entries, row, bytes, ground, map, carried, update, side, mended, place, said, told, with_map, call, run, talk, Pair, same, tiles, one, other}
use Rattle.writers.proofs.Stores.{agree-tables, agree-with, agree-between, agree-stage, agree-repair}
use Rattle.writers.proofs.Blind.{late-check, late_slot, late-put, late-payload, late-row, late-ground, late-reader, late-reader-slot, late-reader-row, judged-blind, ground-blind, settle-answer, agree-settle, same-settle, one-check, accepted-room, one_answer, reads, stores, at-lengths}

module _ {W : ℕ → Type 0} {B n : ℕ} (sub : (i : ℕ) → Watched B n i → W i) (mid : Room B n → (i : ℕ) → W i → (i < B + B + 16384) ⊎ (back_array B n ≤ i)) {xs ys : List ℕ} (a : AgreeOn W n xs ys) where
  said_same : {A : Type 0} (f : A → Reply) {o p : Outcome A} → SameOn W n o p → SameOn W n (said f o) (said f p)
  said_same f q = record { answer = ap f q.answer; images = q.images }

  told_same : {A : Type 0} (f : A → Reply) {v w : A} → v ≡ w → SameOn W n (told f v xs) (told f w ys)
  told_same f e = record { answer = ap f e; images = a }

  map_same : (s : ℕ) (v : Bool) (m : List Bool) {o p : Outcome (Answer Unit)} → SameOn W n o p → SameOn W n (with_map s v m o) (with_map s v m p)
  map_same s v m q = record { answer = ap (λ (r : Answer Unit). carried r (marked (taken r) s v m)) q.answer; images = q.images }

  -- ---- the calls that store to the tables

  put_same : (s : ℕ) (e : List ℕ) (reserved : ℕ) → SameOn W n (put_at B (length xs) xs s e reserved) (put_at B (length ys) ys s e reserved)
  unfolding put_at
  put_same s e reserved =
      at-lengths sub a (λ (m : ℕ) (zs : List ℕ). put_at B m zs s e reserved)
      (stores sub a (λ (t : Tables). put_check B n t s e reserved) (λ (t : Tables). tt) (λ (t : Tables) (zs : List ℕ). with_tables_at B n zs (changed B n t s e))
      (late-put B n s e reserved) (λ _ t. agree-with B a (changed B n t s e)))

  clear-same : (s : ℕ) → SameOn W n (clear_at B (length xs) xs s) (clear_at B (length ys) ys s)
  unfolding clear_at
  clear-same s =
      at-lengths sub a (λ (m : ℕ) (zs : List ℕ). clear_at B m zs s)
      (stores sub a (λ (t : Tables). slot_check B n t s) (λ (t : Tables). tt) (λ (t : Tables) (zs : List ℕ). with_tables_at B n zs (changed B n t s (zeros 128)))
      (late_slot B n s) (λ _ t. agree-with B a (changed B n t s (zeros 128))))

  start-put-same : (s : ℕ) (e : List ℕ) (reserved : ℕ) → SameOn W n (start_put_at B (length xs) xs s e reserved) (start_put_at B (length ys) ys s e reserved)
  unfolding start_put_at
  start-put-same s e reserved =
      at-lengths sub a (λ (m : ℕ) (zs : List ℕ). start_put_at B m zs s e reserved)
      (stores sub a (λ (t : Tables). put_check B n t s e reserved) (λ (t : Tables). fixed B n t s e) (λ (t : Tables) (zs : List ℕ). stage_store B n (fixed B n t s e) 1 zs)
      (late-put B n s e reserved) (λ _ t. agree-stage B a (fixed B n t s e) 1))

  start-clear-same : (s : ℕ) → SameOn W n (start_clear_at B (length xs) xs s) (start_clear_at B (length ys) ys s)
  unfolding start_clear_at
  start-clear-same s =
      at-lengths sub a (λ (m : ℕ) (zs : List ℕ). start_clear_at B m zs s)
      (stores sub a (λ (t : Tables). slot_check B n t s) (λ (t : Tables). fixed B n t s (zeros 128)) (λ (t : Tables) (zs : List ℕ). stage_store B n (fixed B n t s (zeros 128)) 1 zs)
      (late_slot B n s) (λ _ t. agree-stage B a (fixed B n t s (zeros 128)) 1))

  start-repair-same : SameOn W n (start_repair_at B (length xs) xs) (start_repair_at B (length ys) ys)
  unfolding start_repair_at
  start-repair-same =
      at-lengths sub a (λ (m : ℕ) (zs : List ℕ). start_repair_at B m zs)
      (stores sub a (reader_check B n) (λ (t : Tables). repair_of B n t) (λ (t : Tables) (zs : List ℕ). repair_store B n (repair_of B n t) 1 zs)
      (late-reader B n) (λ h t. agree-repair (room-ok B n h) sub a (repair_of B n t) 1))

  stage-same : (k : ℕ) (u : Update) → SameOn W n (next_at B (length xs) xs k u) (next_at B (length ys) ys k u)
  unfolding next_at
  stage-same k u = at-lengths sub a (λ (m : ℕ) (zs : List ℕ). next_at B m zs k u) (same-settle (next_check B n k u) (onward u) a (λ _. agree-stage B a u k))

  repair-same : (k : ℕ) (r : Repair) → SameOn W n (next_repair_at B (length xs) xs k r) (next_repair_at B (length ys) ys k r)
  unfolding next_repair_at
  repair-same k r =
      at-lengths sub a (λ (m : ℕ) (zs : List ℕ). next_repair_at B m zs k r)
      (same-settle (next_repair_check B n k r) (onward_repair r) a (λ h. agree-repair (room-ok B n (repair-leads B n k r h).room) sub a r k))

  -- ---- payload writes, whose bytes may differ

  payload-at : (s p : ℕ) (vs ws : List ℕ) → length vs ≡ length ws → SameOn W n (payload_at B n xs s p vs) (payload_at B n ys s p ws)
  unfolding payload_at
  payload-at s p vs ws e =
      record {
        answer = settle-answer _ _ _ _
            ∙ one_answer sub a judged judged-blind (λ (t : Tables). payload_check B n t s p (length vs)) (λ (t : Tables). length vs) (late-payload B n s p (length vs))
            ∙ ap (λ (m : ℕ). judged (payload_check B n (tables_at B n ys) s p m) m) e
            ∙ sym (settle-answer _ _ _ _);
        images = agree-settle _ _ (length vs) (length ws) checks a stored;
      }
    where
      checks : payload_check B n (tables_at B n xs) s p (length vs) ≡ payload_check B n (tables_at B n ys) s p (length ws)
      checks =
          one-check sub a (λ (t : Tables). payload_check B n t s p (length vs)) (late-payload B n s p (length vs))
          ∙ ap (λ (m : ℕ). payload_check B n (tables_at B n ys) s p m) e

      stored : (payload_check B n (tables_at B n xs) s p (length vs)).number ≡ 0
          → AgreeOn W n (sets xs (payload_place B (tables_at B n xs) s p) vs) (sets ys (payload_place B (tables_at B n ys) s p) ws)
      stored h =
          let r = room-ok B n (accepted-room sub a (λ (t : Tables). payload_check B n t s p (length vs)) (late-payload B n s p (length vs)) (tables_at B n xs) h) in
          let x = pays B n xs a.left s p vs h in
          let y = pays B n ys a.right s p ws (sym (ap (λ w. w.number) checks) ∙ h) in
          agree-between B a _ _ vs ws (mid r) x.low x.high y.low y.high

  payload_same : (s p : ℕ) (vs ws : List ℕ) → length vs ≡ length ws → SameOn W n (payload_at B (length xs) xs s p vs) (payload_at B (length ys) ys s p ws)
  payload_same s p vs ws e =
      subst (λ (m : ℕ). SameOn W n (payload_at B m xs s p vs) (payload_at B (length ys) ys s p ws)) (sym a.left)
      (subst (λ (m : ℕ). SameOn W n (payload_at B n xs s p vs) (payload_at B m ys s p ws)) (sym a.right) (payload-at s p vs ws e))

  -- ---- the calls that read

  list_same : (m : ℕ) → listing_read B xs m ≡ listing_read B ys m
  unfolding listing_read
  list_same m = reads sub a judged judged-blind (λ (l : ℕ) (t : Tables). listing_check B l t m) (λ (l : ℕ) (t : Tables). entries_in t) (late-row B n m)

  reader-same : (m : ℕ) → reader_read B xs m ≡ reader_read B ys m
  reader-same m = reads sub a judged judged-blind (λ (l : ℕ) (t : Tables). reader_row_check B l t m) (λ (l : ℕ) (t : Tables). present_entries (taken_array B l t) 0 128) (late-reader-row B n m)

  ground-same : (ss ls : List ℕ) → ground_outcome B xs ss ls ≡ ground_outcome B ys ss ls
  unfolding ground_outcome
  ground-same ss ls =
      reads sub a (λ w (rs : List Run). settle_rows w (judged w (length rs)) rs ss ls) (ground-blind ss ls) (λ (l : ℕ) (t : Tables). ground_check B l t (length ss) (length ls)) (λ (l : ℕ) (t : Tables). runs_of B l t)
      (late-ground B n (length ss) (length ls))

  -- ---- every call

  same-call : (c : Call) → SameOn W n (call B c xs) (call B c ys)
  same-call (put s p) = said_same verdict (put_same s (put_bytes p) p.flags.reserved)
  same-call (clear s) = said_same verdict (clear-same s)
  same-call (payload s p vs) = said_same number (payload_same s p vs vs refl)
  same-call checking = told_same verdict (reads sub a judged judged-blind (check B) (λ (l : ℕ) (t : Tables). tt) (late-check B n))
  same-call counting = told_same number (reads sub a judged judged-blind (check B) (λ (l : ℕ) (t : Tables). length (present_slots t)) (late-check B n))
  same-call (following k) = told_same slots (reads sub a judged judged-blind (check B) (λ (l : ℕ) (t : Tables). take 1 (present_from t.front.array 0 k (128 - k))) (late-check B n))
  same-call (reading s) =
      told_same found
      (reads sub a judged judged-blind (λ (l : ℕ) (t : Tables). slot_check B l t s)
      (λ (l : ℕ) (t : Tables). record { present = not (all_zero (entry t.front.array (s - 1))); partition = entry_at t.front.array (entry_place 0 (s - 1)) }) (late_slot B n s))
  same-call (nth k) = told_same entries (reads sub a judged judged-blind (check B) (λ (l : ℕ) (t : Tables). lists.map (listed t) (take 1 (drop k (present_slots t)))) (late-check B n))
  same-call listing = told_same entries (reads sub a judged judged-blind (check B) (λ (l : ℕ) (t : Tables). lists.map (listed t) (present_slots t)) (late-check B n))
  same-call (into_row r) = told_same row (ap (λ (z : Answer (List Entry)). row_outcome z r) (list_same (length r)))
  same-call (into_bytes out) = told_same bytes (ap (λ (z : Answer (List Entry)). bytes_outcome z out) (list_same (length out / 136)))
  same-call (free_ground ss ls) = told_same ground (ground-same ss ls)
  same-call mapping = told_same map (reads sub a judged judged-blind (check B) (λ (l : ℕ) (t : Tables). flags_from t.front.array 0 128) (late-check B n))
  same-call (map_put s p m) = map_same s _ m (put_same s (put_bytes p) p.flags.reserved)
  same-call (map_clear s m) = map_same s _ m (clear-same s)
  same-call (start_put s p) = said_same update (start-put-same s (put_bytes p) p.flags.reserved)
  same-call (start_clear s) = said_same update (start-clear-same s)
  same-call (stage k u) = said_same update (stage-same k u)
  same-call reader_side = told_same side (reads sub a judged judged-blind (reader_check B) (taken_side B) (late-reader B n))
  same-call reader_counting = told_same number (reads sub a judged judged-blind (reader_check B) (λ (l : ℕ) (t : Tables). length (present_from (taken_array B l t) 0 0 128)) (late-reader B n))
  same-call (reader_following k) = told_same slots (reads sub a judged judged-blind (reader_check B) (λ (l : ℕ) (t : Tables). take 1 (present_from (taken_array B l t) 0 k (128 - k))) (late-reader B n))
  same-call (reader_reading s) = told_same found (reads sub a judged judged-blind (λ (l : ℕ) (t : Tables). reader_slot_check B l t s) (λ (l : ℕ) (t : Tables). held_in (taken_array B l t) s) (late-reader-slot B n s))
  same-call (reader_into_row r) = told_same row (ap (λ (z : Answer (List Entry)). row_outcome z r) (reader-same (length r)))
  same-call (reader_into_bytes out) = told_same bytes (ap (λ (z : Answer (List Entry)). bytes_outcome z out) (reader-same (length out / 136)))
  same-call start_repair = said_same mended start-repair-same
  same-call (repair k r) = said_same mended (repair-same k r)
  same-call (placing s p m) = told_same place (reads sub a judged judged-blind (λ (l : ℕ) (t : Tables). payload_check B l t s p m) (λ (l : ℕ) (t : Tables). record { 0 = payload_place B t s p }) (late-payload B n s p m))

  same-pair : (c : Pair) → SameOn W n (call B (one c) xs) (call B (other c) ys)
  same-pair (same c) = same-call c
  same-pair (tiles s p vs ws e) = said_same number (payload_same s p vs ws e)

-- none of the watched blocks lies between the tables
between : {B n : ℕ} → Room B n → (i : ℕ) → Watched B n i → (i < B + B + 16384) ⊎ (back_array B n ≤ i)
between r i (inl w) = let q = r.first in let v = w.1 in inl (omega arith)
between r i (inr w) = let q = r.last in let v = w.0 in inr (omega arith)

-- 8/13
pub writers : {B n : ℕ} {xs ys : List ℕ} → Agree B n xs ys → (c : Pair) → Same B n (call B (one c) xs) (call B (other c) ys)
writers a c = same-pair (λ i w. w) between a c

-- and so on any two lists of calls that are alike one by one
pub writers-run : {B n : ℕ} (cs : List Pair) {xs ys : List ℕ} → Agree B n xs ys → Same B n (run B (lists.map one cs) xs) (run B (lists.map other cs) ys)
unfolding run
writers-run [] a = record { answer = refl; images = a }
writers-run {B} (c ∷ cs) {xs} {ys} a =
    let q = writers a c in
    let w = writers-run cs q.images in
    record {
      answer = ap (λ (r : Reply). r ∷ (run B (lists.map one cs) (call B (one c) xs).image).answer) q.answer
          ∙ ap (λ (rs : List Reply). (call B (other c) ys).answer ∷ rs) w.answer;
      images = w.images;
    }

-- and in any two talks, each call chosen by the answers so far, as a later stage is by the state that came with the one before
pub writers-talk : {B n : ℕ} (f : List Reply → Pair) (k : ℕ) (rs : List Reply) {xs ys : List ℕ} → Agree B n xs ys
    → Same B n (talk B (λ (h : List Reply). one (f h)) k rs xs) (talk B (λ (h : List Reply). other (f h)) k rs ys)
unfolding talk
writers-talk f zero rs a = record { answer = refl; images = a }
writers-talk {B} {n} f (suc k) rs {xs} {ys} a =
    let q = writers a (f rs) in
    subst (λ (r : Reply). Same B n (talk B (λ (h : List Reply). one (f h)) k ((call B (one (f rs)) xs).answer ∷ rs) (call B (one (f rs)) xs).image)
    (talk B (λ (h : List Reply). other (f h)) k (r ∷ rs) (call B (other (f rs)) ys).image)) q.answer
    (writers-talk f k ((call B (one (f rs)) xs).answer ∷ rs) q.images)

-- two benches that write different tiles by the same plan end with the same two tables
pub benches : {B n : ℕ} (cs : List Pair) {xs ys : List ℕ} → Room B n → Agree B n xs ys
    → tables_at B n (run B (lists.map one cs) xs).image ≡ tables_at B n (run B (lists.map other cs) ys).image
benches cs r a = agree-tables r (λ i w. w) (writers-run cs a).images

-- what the contracts of the code make of it: two calls that end as these definitions say come back with one answer, and leave images that agree
pub ends_same : {A : Type 0} {B n : ℕ} {o p : Outcome A} → Same B n o p → {r s : A} {i j : List ℕ} → Ends o r i → Ends p s j → (r ≡ s) × Agree B n i j
ends_same {A} {B} {n} {o} {p} q {r} {s} {i} {j} e f =
    (e.answer ∙ q.answer ∙ sym f.answer, subst (λ (l : List ℕ). Agree B n l j) (sym e.image) (subst (λ (l : List ℕ). Agree B n o.image l) (sym f.image) q.images))
