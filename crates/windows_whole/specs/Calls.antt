-- The calls on two windows, each by the definition that its contract cites, with the answers of `writers/specs/Calls`. From document 02, 10/13. A payload write, a list into a row in one call and the calls that
-- carry a map have no form on windows; their lines say what it would be. Assumes nothing.
use Rattle.std.specs.Prelude.{Bool, true, false, List, [], ◌∷◌, ℕ, ◌/◌, length}
use Rattle.units.specs.Answer.{Answer}
use Rattle.rows.specs.Row.{row_outcome}
use Rattle.rows.specs.RowBytes.{bytes_outcome}
use Rattle.tables.specs.Check.{check_answer}
use Rattle.listing.specs.Listing.{count_answer, next_answer, slot_read, nth_answer, entries_answer}
use Rattle.listing.specs.LentRow.{listing_read}
use Rattle.card.specs.Calls.{put_outcome, clear_outcome, payload_outcome, place_answer}
use Rattle.history.specs.History.{taken}
use Rattle.slot_map.specs.Map.{made_answer, marked}
use Rattle.reader.specs.Reader.{side_answer, reader_count, reader_next, reader_slot, reader_read}
use Rattle.staged.specs.Numbers as staged
use Rattle.writers.specs.Calls.{Call, put, clear, payload, checking, counting, following, reading, nth, listing, into_row, into_bytes, free_ground, mapping, map_put, map_clear, start_put, start_clear, stage, reader_side, reader_counting, reader_following, reader_reading, reader_into_row, reader_into_bytes, start_repair, repair, placing}
use Rattle.writers.specs.Calls.{Reply, verdict, number, slots, found, entries, row, bytes, ground, map, carried, update, side, mended, place}
use Rattle.windows.specs.Windows.{window_answer, Windowed, window_outcome}
use Rattle.windows_listing.specs.Ground.{ground_in}
use Rattle.windows_staged.specs.Stages.{next_windowed, next_repair_windowed}

-- a call that stores, one that reads, and one that carries a map
abbrev pub said_in : {A : Type 0} → (A → Reply) → Windowed A → Windowed Reply
said_in f o = record { answer = f o.answer; head = o.head; tail = o.tail }

abbrev pub told_in : {A : Type 0} → (A → Reply) → A → List ℕ → List ℕ → Windowed Reply
told_in f a head tail = record { answer = f a; head = head; tail = tail }

abbrev pub map_in : ℕ → Bool → List Bool → Windowed (Answer Unit) → Windowed Reply
map_in s v m o = record { answer = carried o.answer (marked (taken o.answer) s v m); head = o.head; tail = o.tail }

abbrev pub window_call : ℕ → ℕ → Call → List ℕ → List ℕ → Windowed Reply
window_call B N (put s p) h t = said_in verdict (window_outcome B N h t (λ (xs : List ℕ). put_outcome B xs s p))
window_call B N (clear s) h t = said_in verdict (window_outcome B N h t (λ (xs : List ℕ). clear_outcome B xs s))
window_call B N (payload s p vs) h t = said_in number (window_outcome B N h t (λ (xs : List ℕ). payload_outcome B xs s p vs))
window_call B N checking h t = told_in verdict (window_answer B N h t (check_answer B)) h t
window_call B N counting h t = told_in number (window_answer B N h t (count_answer B)) h t
window_call B N (following k) h t = told_in slots (window_answer B N h t (λ (xs : List ℕ). next_answer B xs k)) h t
window_call B N (reading s) h t = told_in found (window_answer B N h t (λ (xs : List ℕ). slot_read B xs s)) h t
window_call B N (nth k) h t = told_in entries (window_answer B N h t (λ (xs : List ℕ). nth_answer B xs k)) h t
window_call B N listing h t = told_in entries (window_answer B N h t (entries_answer B)) h t
window_call B N (into_row r) h t = told_in row (row_outcome (window_answer B N h t (λ (xs : List ℕ). listing_read B xs (length r))) r) h t
window_call B N (into_bytes out) h t = told_in bytes (bytes_outcome (window_answer B N h t (λ (xs : List ℕ). listing_read B xs (length out / 136))) out) h t
window_call B N (free_ground ss ls) h t = told_in ground (ground_in B N h t ss ls) h t
window_call B N mapping h t = told_in map (window_answer B N h t (made_answer B)) h t
window_call B N (map_put s p m) h t = map_in s true m (window_outcome B N h t (λ (xs : List ℕ). put_outcome B xs s p))
window_call B N (map_clear s m) h t = map_in s false m (window_outcome B N h t (λ (xs : List ℕ). clear_outcome B xs s))
window_call B N (start_put s p) h t = said_in update (window_outcome B N h t (λ (xs : List ℕ). staged.start_put B xs s p))
window_call B N (start_clear s) h t = said_in update (window_outcome B N h t (λ (xs : List ℕ). staged.start_clear B xs s))
window_call B N (stage k u) h t = said_in update (next_windowed B N h t k u)
window_call B N reader_side h t = told_in side (window_answer B N h t (side_answer B)) h t
window_call B N reader_counting h t = told_in number (window_answer B N h t (reader_count B)) h t
window_call B N (reader_following k) h t = told_in slots (window_answer B N h t (λ (xs : List ℕ). reader_next B xs k)) h t
window_call B N (reader_reading s) h t = told_in found (window_answer B N h t (λ (xs : List ℕ). reader_slot B xs s)) h t
window_call B N (reader_into_row r) h t = told_in row (row_outcome (window_answer B N h t (λ (xs : List ℕ). reader_read B xs (length r))) r) h t
window_call B N (reader_into_bytes out) h t = told_in bytes (bytes_outcome (window_answer B N h t (λ (xs : List ℕ). reader_read B xs (length out / 136))) out) h t
window_call B N start_repair h t = said_in mended (window_outcome B N h t (λ (xs : List ℕ). staged.start_repair B xs))
window_call B N (repair k r) h t = said_in mended (next_repair_windowed B N h t k r)
window_call B N (placing s p m) h t = told_in place (window_answer B N h t (λ (xs : List ℕ). place_answer B xs s p m)) h t

-- the answers of a list of calls, and the windows after them
unfoldable pub window_run : ℕ → ℕ → List Call → List ℕ → List ℕ → Windowed (List Reply)
window_run B N [] h t = record { answer = []; head = h; tail = t }
window_run B N (c ∷ cs) h t =
    let o : Windowed Reply = window_call B N c h t in
    let r : Windowed (List Reply) = window_run B N cs o.head o.tail in
    record { answer = o.answer ∷ r.answer; head = r.head; tail = r.tail }
