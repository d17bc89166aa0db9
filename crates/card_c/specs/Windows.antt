-- What C gets for the calls on two windows: the answers of the calls on an image, and both windows as the call leaves them. Assumes nothing.
use Rattle.std.specs.Prelude.{List, ℕ, ◌/◌, length}
use Rattle.units.specs.Answer.{Answer, Outcome}
use Rattle.rows.specs.RowBytes.{bytes_outcome}
use Rattle.listing.specs.LentRow.{listing_read}
use Rattle.reader.specs.Reader.{reader_read}
use Rattle.ground.specs.Answers.{Rows}
use Rattle.windows.specs.Windows.{Windowed, window_answer, window_outcome}
use Rattle.card_c.specs.declared.answers.CardCount.{CardCount}
use Rattle.card_c.specs.CardExports.{rows_to_c, card_count_to_c}

-- an outcome with its answer told in another way
abbrev pub window_to_c : {A C : Type 0} → (A → C) → Windowed A → Windowed C
window_to_c f o = record { answer = f o.answer; head = o.head; tail = o.tail }

-- a call that stores, so told
abbrev pub window_told : {A C : Type 0} → (Answer A → C) → ℕ → ℕ → List ℕ → List ℕ → (List ℕ → Outcome (Answer A)) → Windowed C
window_told f B N head tail g = window_to_c f (window_outcome B N head tail g)

-- the listing, and the reader's, into lent bytes: 136 a row
abbrev pub window_list : ℕ → ℕ → List ℕ → List ℕ → List ℕ → Outcome (Answer ℕ)
window_list B N head tail out = bytes_outcome (window_answer B N head tail (λ (xs : List ℕ). listing_read B xs (length out / 136))) out

abbrev pub window_reader_list : ℕ → ℕ → List ℕ → List ℕ → List ℕ → Outcome (Answer ℕ)
window_reader_list B N head tail out = bytes_outcome (window_answer B N head tail (λ (xs : List ℕ). reader_read B xs (length out / 136))) out

-- the free runs, as `card_free_runs` tells them
abbrev pub runs_to_c : Rows (Answer ℕ) → Rows CardCount
runs_to_c o = rows_to_c card_count_to_c o
