-- 10/13: for every image of a whole number of blocks, below 2^64 bytes, and every call, the call on its head and its tail answers as the call on the image, and leaves the windows as the image's blocks are left.
-- What lies between the windows is not in it, so it does not matter. Where there is no room for two tables both refuse by the room's number. No contract cites this file. Assumes nothing.
use mathlib.Core.Path.{◌≡◌, refl, sym, ap, ◌∙◌}
use mathlib.Core.Logic.{◌⊎◌, inl, inr}
use mathlib.Core.Bool.{Bool, true, false, not}
use mathlib.Core.List.{List, [], ◌∷◌}
use mathlib.Core.List as lists
use Prim.Native.Nat.{ℕ, ◌+◌, ◌*◌, ◌-◌, ◌/◌, ◌^◌, ◌≤◌, ◌<◌}
use native.Mathlib.Omega.{arith}
use borrow.Author.Tests.{eqb-true, eqb-false, eq-eqb, lt-leb}
use lib.Dec.{eqb, leb}
use lib.ListN.{length, take, drop, get_or}
use lib.Seq.{sets}
use Rattle.units.specs.declared.BytePlace.{BytePlace}
use Rattle.units.specs.declared.Guid.{Guid}
use Rattle.units.specs.declared.why.Why.{Why}
use Rattle.units.specs.Answer.{Answer, refused, Outcome, gives, plain, when, or_else, judged, settle}
use Rattle.units.specs.Bytes.{part, all_zero}
use Rattle.units.specs.Guids.{guid_bytes}
use Rattle.units.specs.Places.{good_size}
use Rattle.units.proofs.Chains.{here, number-of, found as found_first, past, when-none, else-none, judged-some, settle-refused}
use Rattle.units.proofs.Lists.{length_part, get_d_part}
use Rattle.partition.specs.Format.{entry_at}
use Rattle.partition.specs.Array.{Found, entry_place, present_from}
use Rattle.rows.specs.declared.Entry.{Entry}
use Rattle.rows.specs.Row.{row_outcome, present_entries}
use Rattle.rows.specs.RowBytes.{bytes_outcome}
use Rattle.tables.specs.Places.{blocks, back_array}
use Rattle.tables.specs.Lens.{Tables, copies, tables, tables_at, with_tables_at}
use Rattle.tables.specs.Entries.{zeros, entry}
use Rattle.tables.specs.Headers.{card_of}
use Rattle.tables.specs.Check.{room_check, check, slot_check}
use Rattle.tables.proofs.Orders.{by-test}
use Rattle.tables.proofs.Room.{Room}
use Rattle.tables.proofs.Good.{room-ok}
use Rattle.tables.proofs.Copies.{copies-tables, part_at}
use Rattle.listing.specs.Listing.{present_slots, listed, listing_check}
use Rattle.listing.specs.LentRow.{entries_in, listing_read}
use Rattle.ground.specs.Ground.{Run}
use Rattle.ground.specs.Answers.{Rows, runs_of, ground_check, settle_rows, ground_outcome}
use Rattle.card.specs.Calls.{mbr, laid_image, put_bytes, put_check, payload_check, payload_place, changed, lay_at, lay_outcome, put_at, clear_at, payload_at}
use Rattle.slot_map.specs.Map.{flags_from}
use Rattle.reader.specs.Reader.{reader_check, reader_slot_check, reader_row_check, taken_side, taken_array, held_in, reader_read}
use Rattle.staged.specs.declared.Update.{Update}
use Rattle.staged.specs.declared.Repair.{Repair}
use Rattle.staged.specs.Stages.{fixed}
use Rattle.staged.specs.Repairs.{repair_of}
use Rattle.staged.specs.Stores.{stage_store, repair_store}
use Rattle.staged.specs.Numbers.{onward, onward_repair, start_put_at, start_clear_at, start_repair_at, next_check, next_at, next_repair_check, next_repair_at}
use Rattle.staged.proofs.Leads.{next-leads, repair-leads}
use Rattle.writers.specs.Agree.{Watched, AgreeOn, SameOn}
use Rattle.writers.specs.Calls.{Call, put, clear, payload, checking, counting, following, reading, nth, listing, into_row, into_bytes, free_ground, mapping, map_put, map_clear, start_put, start_clear, stage, reader_side, reader_counting, reader_following, reader_reading, reader_into_row, reader_into_bytes, start_repair, repair, placing}
use Rattle.writers.specs.Calls.{Reply, verdict, number, slots, found, entries, row, bytes, ground, map, update, side, mended, place, call, run, same}
use Rattle.writers.proofs.Stores.{agree-sets, agree-part, agree-with, agree-stage, agree-repair}
use Rattle.writers.proofs.Writers.{writers}
use Rattle.writers.proofs.Blind.{NoRoom, Late, late-check, late_slot, late-put, late-payload, late-row, late-ground, late-reader, late-reader-slot, late-reader-row, judged-blind, ground-blind, same-settle, reads, stores, at-lengths}
use Rattle.windows.specs.Windows.{head_long, tail_long, head_in, tail_in, whole, window_tables, length_check, window_check, window_answer, Windowed, in_windows, windowed_by, window_outcome}
use Rattle.windows.proofs.Whole.{back-ends, block-count, length_whole, head-whole, tail-whole}
use Rattle.windows.proofs.Ways.{length-fine, if-zero, if-not}
use Rattle.windows_listing.specs.Ground.{ground_in}
use Rattle.windows_staged.specs.Stages.{next_why, next_repair_why, next_windowed, next_repair_windowed}
use Rattle.windows_whole.specs.Calls.{said_in, told_in, map_in, window_call, window_run}

windowed-eq : {A : Type 0} {a b : A} {h i t u : List ℕ} → a ≡ b → h ≡ i → t ≡ u → ◌≡◌ {A = Windowed A} (record { answer = a; head = h; tail = t }) (record { answer = b; head = i; tail = u })
windowed-eq p q r = cc

module _ (B N : ℕ) (small : N * B < 2 ^ 64) (xs : List ℕ) (l : length xs ≡ N * B) where
  abbrev n : ℕ
  n = N * B

  abbrev H : List ℕ
  H = head_in B xs

  abbrev K : List ℕ
  K = tail_in B n xs

  abbrev W : Why
  W = window_check B N (length H) (length K)

  abbrev X : List ℕ
  X = whole B N H K

  -- the bytes of both windows
  abbrev Seen : ℕ → Type 0
  Seen i = (i < head_long B) ⊎ ((back_array B n ≤ i) × (i < n))

  by-room : {T : Type 0} → ((room_check B n).number ≡ 0 → T) → (NoRoom B n → T) → T
  by-room f g = by-test (eqb (room_check B n).number 0) (λ e. f (eqb-true _ _ e)) (λ e. g (eqb-false _ _ e))

  -- ---- no room: the windows' own refusal is the room's

  wrong_size : good_size B ≡ false → plain 1 ≡ room_check B n
  unfolding room_check
  wrong_size g = here _ refl (ap not g)

  no_room : NoRoom B n → W ≡ room_check B n
  unfolding window_check
  no_room d =
      by-test (good_size B)
      (λ g.
      let f : not (good_size B) ≡ false = ap not g in
      sym (past {f = when (not (good_size B)) (plain 1)} refl (when-none _ (plain 1) f) (past {f = when (leb (2 ^ 64) n) (plain 3)} refl (when-none _ (plain 3) (lt-leb (2 ^ 64) n small)) (found_first {f = room_check B n} _ refl d))))
      (λ g. sym (here _ refl (ap not g)) ∙ wrong_size g)

  -- ---- room: the windows fit, and the imagined image has the bytes of both

  module _ (h : (room_check B n).number ≡ 0) where
    room : Room B n
    room = room-ok B n h

    ends : back_array B n + tail_long B ≡ n
    ends = back-ends B N room

    head-long : length H ≡ head_long B
    head-long = length_part xs 0 (head_long B) (omega (arith, room.low, ends))

    tail-long : length K ≡ tail_long B
    tail-long = length_part xs (back_array B n) (tail_long B) (omega (arith, ends))

    long-fine : (length_check B (length H) (length K)).number ≡ 0
    long-fine = sym (length-fine B (length H) (length K) (rw (eq-eqb (length H) (head_long B) head-long, eq-eqb (length K) (tail_long B) tail-long)))

    pub fitting : W.number ≡ 0
    unfolding window_check
    fitting =
        else-none (when (not (good_size B)) (plain 1)) _ (when-none (not (good_size B)) (plain 1) (ap not room.good))
        (else-none (when (leb (2 ^ 64) n) (plain 3)) _ (when-none (leb (2 ^ 64) n) (plain 3) (lt-leb (2 ^ 64) n small))
        (else-none (room_check B n) _ h long-fine))

    byte-in : (at m i : ℕ) → part X at m ≡ part xs at m → at ≤ i → i < at + m → get_or X i 0 ≡ get_or xs i 0
    byte-in at m i e a b =
        let z : at + (i - at) ≡ i = omega arith in
        let q : i - at < m = omega arith in
        sym (ap (λ (j : ℕ). get_or X j 0) z) ∙ sym (get_d_part X at m (i - at) q) ∙ ap (λ (p : List ℕ). get_or p (i - at) 0) e ∙ get_d_part xs at m (i - at) q ∙ ap (λ (j : ℕ). get_or xs j 0) z

    agrees : AgreeOn Seen n X xs
    agrees = record { left = length_whole B N room H K head-long tail-long; right = l; bytes = bytes_of }
      where
        bytes_of : (i : ℕ) → Seen i → get_or X i 0 ≡ get_or xs i 0
        bytes_of i (inl w) = byte-in 0 (head_long B) i (head-whole B N room H K head-long tail-long) (omega arith) (omega arith)
        bytes_of i (inr w) = byte-in (back_array B n) (tail_long B) i (tail-whole B N room H K head-long tail-long) w.0 (let v = w.1 in omega (arith, ends))

    watched : (i : ℕ) → Watched B n i → Seen i
    watched i (inl w) = let f = room.first in let v = w.1 in inl (omega arith)
    watched i (inr w) = let f = room.last in let v = w.0 in let y = w.1 in let c = ap (λ (x : ℕ). x * B) (block-count B N room) in inr (omega arith, omega arith)

    -- images that agree have the same windows
    seen_same : {A : Type 0} {o p : Outcome A} → SameOn Seen n o p → in_windows B n o ≡ in_windows B n p
    seen_same {A} {o} {p} q =
        windowed-eq q.answer
        (agree-part q.images 0 (head_long B) (omega (arith, room.low, ends)) (λ i b. inl (omega arith)))
        (agree-part q.images (back_array B n) (tail_long B) (omega (arith, ends)) (λ i b. inr (omega arith, omega (arith, ends))))

  -- ---- a call that reads

  answers : {A : Type 0} (g : ℕ → Tables → Why) (v : ℕ → Tables → A) → Late B n (g n)
      → window_answer B N H K (λ ys. judged (g (length ys) (tables B ys)) (v (length ys) (tables B ys))) ≡ judged (g (length xs) (tables B xs)) (v (length xs) (tables B xs))
  unfolding window_answer
  answers g v late =
      by-room
      (λ h. if-zero W.number _ _ (fitting h) ∙ reads (watched h) (agrees h) judged judged-blind g v late)
      (λ d.
      let e : g n (tables_at B n xs) ≡ room_check B n = late d (tables_at B n xs) in
      if-not W.number _ _ (λ z. d (sym (number-of (no_room d)) ∙ z))
      ∙ ap refused (no_room d ∙ sym e)
      ∙ sym (judged-some (v n (tables_at B n xs)) (g n (tables_at B n xs)) (λ z. d (sym (number-of e) ∙ z)))
      ∙ sym (ap (λ (m : ℕ). judged (g m (tables_at B m xs)) (v m (tables_at B m xs))) l))

  -- ---- a call that stores what it makes of the tables

  keeps : {A : Type 0} (g : ℕ → Tables → Why) (v : ℕ → Tables → A) (new : ℕ → Tables → List ℕ → List ℕ) → Late B n (g n)
      → ((h : (room_check B n).number ≡ 0) (t : Tables) → AgreeOn Seen n (new n t X) (new n t xs))
      → window_outcome B N H K (λ ys. settle (g (length ys) (tables B ys)) (v (length ys) (tables B ys)) ys (new (length ys) (tables B ys) ys))
      ≡ in_windows B n (settle (g (length xs) (tables B xs)) (v (length xs) (tables B xs)) xs (new (length xs) (tables B xs) xs))
  unfolding windowed_by
  keeps {A} g v new late k =
      by-room
      (λ h.
      if-zero W.number _ _ (fitting h)
      ∙ seen_same h (at-lengths (watched h) (agrees h) (λ (m : ℕ) (zs : List ℕ). settle (g m (tables_at B m zs)) (v m (tables_at B m zs)) zs (new m (tables_at B m zs) zs))
      (stores (watched h) (agrees h) (g n) (v n) (new n) late (λ r t. k h t))))
      (λ d.
      let e : g n (tables_at B n xs) ≡ room_check B n = late d (tables_at B n xs) in
      let o : settle (g n (tables_at B n xs)) (v n (tables_at B n xs)) xs (new n (tables_at B n xs) xs) ≡ gives (refused (room_check B n)) xs =
      settle-refused (v n (tables_at B n xs)) (g n (tables_at B n xs)) xs (new n (tables_at B n xs) xs) (λ z. d (sym (number-of e) ∙ z)) ∙ ap (λ (w : Why). gives (refused w) xs) e in
      if-not W.number _ _ (λ z. d (sym (number-of (no_room d)) ∙ z))
      ∙ ap (λ (w : Why). record { answer = refused w; head = H; tail = K }) (no_room d)
      ∙ sym (ap (in_windows B n) o)
      ∙ sym (ap (λ (m : ℕ). in_windows B n (settle (g m (tables_at B m xs)) (v m (tables_at B m xs)) xs (new m (tables_at B m xs) xs))) l))

  -- ---- a later stage, which has its own test first

  stage-as : (k : ℕ) (u : Update) → next_windowed B N H K k u ≡ in_windows B n (next_at B (length xs) xs k u)
  unfolding windowed_by next_why next_at
  stage-as k u =
      by-test (eqb (next_check B n k u).number 0)
      (λ e.
      let z = eqb-true (next_check B n k u).number 0 e in
      let h = (next-leads B n k u z).room in
      if-zero (next_why B N (length H) (length K) k u).number _ _ (else-none (next_check B n k u) _ z (long-fine h))
      ∙ seen_same h (at-lengths (watched h) (agrees h) (λ (m : ℕ) (zs : List ℕ). next_at B m zs k u) (same-settle (next_check B n k u) (onward u) (agrees h) (λ _. agree-stage B (agrees h) u k))))
      (λ e.
      let d = eqb-false (next_check B n k u).number 0 e in
      let f : next_check B n k u ≡ or_else (next_check B n k u) (length_check B (length H) (length K)) = found_first {f = next_check B n k u} _ refl d in
      if-not (next_why B N (length H) (length K) k u).number _ _ (λ z. d (number-of f ∙ z))
      ∙ ap (λ (w : Why). record { answer = refused w; head = H; tail = K }) (sym f)
      ∙ sym (ap (λ (m : ℕ). in_windows B n (next_at B m xs k u)) l ∙ ap (in_windows B n) (settle-refused (onward u) (next_check B n k u) xs (stage_store B n u k xs) d)))

  repair-as : (k : ℕ) (r : Repair) → next_repair_windowed B N H K k r ≡ in_windows B n (next_repair_at B (length xs) xs k r)
  unfolding windowed_by next_repair_why next_repair_at
  repair-as k r =
      by-test (eqb (next_repair_check B n k r).number 0)
      (λ e.
      let z = eqb-true (next_repair_check B n k r).number 0 e in
      let h = (repair-leads B n k r z).room in
      if-zero (next_repair_why B N (length H) (length K) k r).number _ _ (else-none (next_repair_check B n k r) _ z (long-fine h))
      ∙ seen_same h (at-lengths (watched h) (agrees h) (λ (m : ℕ) (zs : List ℕ). next_repair_at B m zs k r) (same-settle (next_repair_check B n k r) (onward_repair r) (agrees h) (λ _. agree-repair (room h) (watched h) (agrees h) r k))))
      (λ e.
      let d = eqb-false (next_repair_check B n k r).number 0 e in
      let f : next_repair_check B n k r ≡ or_else (next_repair_check B n k r) (length_check B (length H) (length K)) = found_first {f = next_repair_check B n k r} _ refl d in
      if-not (next_repair_why B N (length H) (length K) k r).number _ _ (λ z. d (number-of f ∙ z))
      ∙ ap (λ (w : Why). record { answer = refused w; head = H; tail = K }) (sym f)
      ∙ sym (ap (λ (m : ℕ). in_windows B n (next_repair_at B m xs k r)) l ∙ ap (in_windows B n) (settle-refused (onward_repair r) (next_repair_check B n k r) xs (repair_store B n r k xs) d)))

  -- ---- the calls

  put_as : (s : ℕ) (e : List ℕ) (reserved : ℕ) → window_outcome B N H K (λ ys. put_at B (length ys) ys s e reserved) ≡ in_windows B n (put_at B (length xs) xs s e reserved)
  unfolding put_at
  put_as s e reserved =
      keeps (λ (m : ℕ) (t : Tables). put_check B m t s e reserved) (λ (m : ℕ) (t : Tables). tt) (λ (m : ℕ) (t : Tables) (zs : List ℕ). with_tables_at B m zs (changed B m t s e)) (late-put B n s e reserved)
      (λ h t. agree-with B (agrees h) (changed B n t s e))

  clear-as : (s : ℕ) → window_outcome B N H K (λ ys. clear_at B (length ys) ys s) ≡ in_windows B n (clear_at B (length xs) xs s)
  unfolding clear_at
  clear-as s =
      keeps (λ (m : ℕ) (t : Tables). slot_check B m t s) (λ (m : ℕ) (t : Tables). tt) (λ (m : ℕ) (t : Tables) (zs : List ℕ). with_tables_at B m zs (changed B m t s (zeros 128))) (late_slot B n s)
      (λ h t. agree-with B (agrees h) (changed B n t s (zeros 128)))

  payload-as : (s p : ℕ) (vs : List ℕ) → window_outcome B N H K (λ ys. payload_at B (length ys) ys s p vs) ≡ in_windows B n (payload_at B (length xs) xs s p vs)
  unfolding payload_at
  payload-as s p vs =
      keeps (λ (m : ℕ) (t : Tables). payload_check B m t s p (length vs)) (λ (m : ℕ) (t : Tables). length vs) (λ (m : ℕ) (t : Tables) (zs : List ℕ). sets zs (payload_place B t s p) vs) (late-payload B n s p (length vs))
      (λ h t. agree-sets (agrees h) (payload_place B t s p) vs)

  start-put-as : (s : ℕ) (e : List ℕ) (reserved : ℕ) → window_outcome B N H K (λ ys. start_put_at B (length ys) ys s e reserved) ≡ in_windows B n (start_put_at B (length xs) xs s e reserved)
  unfolding start_put_at
  start-put-as s e reserved =
      keeps (λ (m : ℕ) (t : Tables). put_check B m t s e reserved) (λ (m : ℕ) (t : Tables). fixed B m t s e) (λ (m : ℕ) (t : Tables) (zs : List ℕ). stage_store B m (fixed B m t s e) 1 zs) (late-put B n s e reserved)
      (λ h t. agree-stage B (agrees h) (fixed B n t s e) 1)

  start-clear-as : (s : ℕ) → window_outcome B N H K (λ ys. start_clear_at B (length ys) ys s) ≡ in_windows B n (start_clear_at B (length xs) xs s)
  unfolding start_clear_at
  start-clear-as s =
      keeps (λ (m : ℕ) (t : Tables). slot_check B m t s) (λ (m : ℕ) (t : Tables). fixed B m t s (zeros 128)) (λ (m : ℕ) (t : Tables) (zs : List ℕ). stage_store B m (fixed B m t s (zeros 128)) 1 zs) (late_slot B n s)
      (λ h t. agree-stage B (agrees h) (fixed B n t s (zeros 128)) 1)

  start-repair-as : window_outcome B N H K (λ ys. start_repair_at B (length ys) ys) ≡ in_windows B n (start_repair_at B (length xs) xs)
  unfolding start_repair_at
  start-repair-as =
      keeps (reader_check B) (repair_of B) (λ (m : ℕ) (t : Tables) (zs : List ℕ). repair_store B m (repair_of B m t) 1 zs) (late-reader B n)
      (λ h t. agree-repair (room h) (watched h) (agrees h) (repair_of B n t) 1)

  list-as : (m : ℕ) → window_answer B N H K (λ ys. listing_read B ys m) ≡ listing_read B xs m
  unfolding listing_read
  list-as m = answers (λ (i : ℕ) (t : Tables). listing_check B i t m) (λ (i : ℕ) (t : Tables). entries_in t) (late-row B n m)

  reader-as : (m : ℕ) → window_answer B N H K (λ ys. reader_read B ys m) ≡ reader_read B xs m
  reader-as m = answers (λ (i : ℕ) (t : Tables). reader_row_check B i t m) (λ (i : ℕ) (t : Tables). present_entries (taken_array B i t) 0 128) (late-reader-row B n m)

  ground-as : (ss ls : List ℕ) → ground_in B N H K ss ls ≡ ground_outcome B xs ss ls
  unfolding ground_in ground_outcome ground_check settle_rows
  ground-as ss ls =
      by-room
      (λ h.
      if-zero W.number _ _ (fitting h)
      ∙ reads (watched h) (agrees h) (λ w (rs : List Run). settle_rows w (judged w (length rs)) rs ss ls) (ground-blind ss ls) (λ (i : ℕ) (t : Tables). ground_check B i t (length ss) (length ls)) (λ (i : ℕ) (t : Tables). runs_of B i t)
      (late-ground B n (length ss) (length ls)))
      (λ d.
      let e : ground_check B n (tables_at B n xs) (length ss) (length ls) ≡ room_check B n = late-ground B n (length ss) (length ls) d (tables_at B n xs) in
      if-not W.number _ _ (λ z. d (sym (number-of (no_room d)) ∙ z))
      ∙ sym
      (ap (λ (i : ℕ). settle_rows (ground_check B i (tables_at B i xs) (length ss) (length ls)) (judged (ground_check B i (tables_at B i xs) (length ss) (length ls)) (length (runs_of B i (tables_at B i xs)))) (runs_of B i (tables_at B i xs)) ss ls) l
      ∙ ap (λ (w : Why). settle_rows w (judged w (length (runs_of B n (tables_at B n xs)))) (runs_of B n (tables_at B n xs)) ss ls) (e ∙ sym (no_room d))
      ∙ refused-rows W (runs_of B n (tables_at B n xs)) (λ z. d (sym (number-of (no_room d)) ∙ z))))
    where
      refused-rows : (w : Why) (rs : List Run) → (w.number ≡ 0 → ⊥) → settle_rows w (judged w (length rs)) rs ss ls ≡ record { answer = refused w; starts = ss; lengths = ls }
      refused-rows w rs q = rows_eq (judged-some (length rs) w q) (if-not w.number _ _ q) (if-not w.number _ _ q)
        where
          rows_eq : {a b : Answer ℕ} {c d e f : List ℕ} → a ≡ b → c ≡ d → e ≡ f
              → ◌≡◌ {A = Rows (Answer ℕ)} (record { answer = a; starts = c; lengths = e }) (record { answer = b; starts = d; lengths = f })
          rows_eq x y z = cc

  -- 10/13
  pub as-image : (c : Call) → window_call B N c H K ≡ in_windows B n (call B c xs)
  as-image (put s p) = ap (said_in verdict) (put_as s (put_bytes p) p.flags.reserved)
  as-image (clear s) = ap (said_in verdict) (clear-as s)
  as-image (payload s p vs) = ap (said_in number) (payload-as s p vs)
  as-image checking = ap (λ (a : Answer Unit). told_in verdict a H K) (answers (check B) (λ (i : ℕ) (t : Tables). tt) (late-check B n))
  as-image counting = ap (λ (a : Answer ℕ). told_in number a H K) (answers (check B) (λ (i : ℕ) (t : Tables). length (present_slots t)) (late-check B n))
  as-image (following k) = ap (λ (a : Answer (List ℕ)). told_in slots a H K) (answers (check B) (λ (i : ℕ) (t : Tables). take 1 (present_from t.front.array 0 k (128 - k))) (late-check B n))
  as-image (reading s) =
      ap (λ (a : Answer Found). told_in found a H K)
      (answers (λ (i : ℕ) (t : Tables). slot_check B i t s)
      (λ (i : ℕ) (t : Tables). record { present = not (all_zero (entry t.front.array (s - 1))); partition = entry_at t.front.array (entry_place 0 (s - 1)) }) (late_slot B n s))
  as-image (nth k) = ap (λ a. told_in entries a H K) (answers (check B) (λ (i : ℕ) (t : Tables). lists.map (listed t) (take 1 (drop k (present_slots t)))) (late-check B n))
  as-image listing = ap (λ a. told_in entries a H K) (answers (check B) (λ (i : ℕ) (t : Tables). lists.map (listed t) (present_slots t)) (late-check B n))
  as-image (into_row r) = ap (λ (z : Answer (List Entry)). told_in row (row_outcome z r) H K) (list-as (length r))
  as-image (into_bytes out) = ap (λ (z : Answer (List Entry)). told_in bytes (bytes_outcome z out) H K) (list-as (length out / 136))
  as-image (free_ground ss ls) = ap (λ (z : Rows (Answer ℕ)). told_in ground z H K) (ground-as ss ls)
  as-image mapping = ap (λ (a : Answer (List Bool)). told_in map a H K) (answers (check B) (λ (i : ℕ) (t : Tables). flags_from t.front.array 0 128) (late-check B n))
  as-image (map_put s p m) = ap (map_in s true m) (put_as s (put_bytes p) p.flags.reserved)
  as-image (map_clear s m) = ap (map_in s false m) (clear-as s)
  as-image (start_put s p) = ap (said_in update) (start-put-as s (put_bytes p) p.flags.reserved)
  as-image (start_clear s) = ap (said_in update) (start-clear-as s)
  as-image (stage k u) = ap (said_in update) (stage-as k u)
  as-image reader_side = ap (λ a. told_in side a H K) (answers (reader_check B) (taken_side B) (late-reader B n))
  as-image reader_counting = ap (λ (a : Answer ℕ). told_in number a H K) (answers (reader_check B) (λ (i : ℕ) (t : Tables). length (present_from (taken_array B i t) 0 0 128)) (late-reader B n))
  as-image (reader_following k) = ap (λ (a : Answer (List ℕ)). told_in slots a H K) (answers (reader_check B) (λ (i : ℕ) (t : Tables). take 1 (present_from (taken_array B i t) 0 k (128 - k))) (late-reader B n))
  as-image (reader_reading s) = ap (λ (a : Answer Found). told_in found a H K) (answers (λ (i : ℕ) (t : Tables). reader_slot_check B i t s) (λ (i : ℕ) (t : Tables). held_in (taken_array B i t) s) (late-reader-slot B n s))
  as-image (reader_into_row r) = ap (λ (z : Answer (List Entry)). told_in row (row_outcome z r) H K) (reader-as (length r))
  as-image (reader_into_bytes out) = ap (λ (z : Answer (List Entry)). told_in bytes (bytes_outcome z out) H K) (reader-as (length out / 136))
  as-image start_repair = ap (said_in mended) start-repair-as
  as-image (repair k r) = ap (said_in mended) (repair-as k r)
  as-image (placing s p m) =
      ap (λ (a : Answer BytePlace). told_in place a H K) (answers (λ (i : ℕ) (t : Tables). payload_check B i t s p m) (λ (i : ℕ) (t : Tables). record { 0 = payload_place B t s p }) (late-payload B n s p m))

  -- and lay, which makes the table
  pub lay-as-image : (g : Guid) → window_outcome B N H K (λ ys. lay_outcome B ys g) ≡ in_windows B n (lay_outcome B xs g)
  unfolding lay_at
  lay-as-image g =
      keeps (λ (m : ℕ) (t : Tables). room_check B m) (λ (m : ℕ) (t : Tables). tt) (λ (m : ℕ) (t : Tables) (zs : List ℕ). laid_image B m zs (guid_bytes g)) (λ q t. refl)
      (λ h t. agree-with B (agree-sets (agrees h) 0 (mbr (blocks B n - 1))) (card_of B n (guid_bytes g) (zeros 16384)))

-- an image is as long after any call
stays-long : (B n : ℕ) (c : Call) (xs : List ℕ) → length xs ≡ n → length (call B c xs).image ≡ n
stays-long B n c xs l = (writers {B = B} {n = n} {xs = xs} {ys = xs} (record { left = l; right = l; bytes = λ i w. refl }) (same c)).images.left

-- and so for any list of calls: what a history on the image gives, the same history on the windows gives
pub as-image-run : (B N : ℕ) → N * B < 2 ^ 64 → (cs : List Call) (xs : List ℕ) → length xs ≡ N * B → window_run B N cs (head_in B xs) (tail_in B (N * B) xs) ≡ in_windows B (N * B) (run B cs xs)
unfolding window_run run
as-image-run B N small [] xs l = refl
as-image-run B N small (c ∷ cs) xs l =
    let e = as-image B N small xs l c in
    let o = call B c xs in
    let q = as-image-run B N small cs o.image (stays-long B (N * B) c xs l) in
    ap (λ (w : Windowed Reply). step w (window_run B N cs w.head w.tail)) e ∙ ap (step (in_windows B (N * B) (call B c xs))) q
  where
    step : Windowed Reply → Windowed (List Reply) → Windowed (List Reply)
    step w r = record { answer = w.answer ∷ r.answer; head = r.head; tail = r.tail }

-- the tables of an image are those of its windows, so what demand 3 and the pulled card say of the one they say of the other
pub windows-tables : (B N : ℕ) → Room B (N * B) → (xs : List ℕ) → window_tables B (head_in B xs) (tail_in B (N * B) xs) ≡ tables_at B (N * B) xs
windows-tables B N r xs =
    ap (λ (l : List ℕ). copies B l (tail_in B (N * B) xs)) (part_at xs 0 (head_long B) B (B + 16384) B (omega arith) (omega arith)) ∙ copies-tables B (N * B) xs r
