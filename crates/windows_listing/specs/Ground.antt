-- The free ground of a card by two windows: as on the whole image, after the windows' own numbers. Beyond document 02, 10/13, which leaves it out. Assumes nothing.
use Rattle.std.specs.Prelude.{List, ℕ, length}
use Rattle.units.specs.declared.why.Why.{Why}
use Rattle.units.specs.Answer.{Answer, refused, if_zero}
use Rattle.ground.specs.Answers.{Rows, RowsEnd, ground_outcome}
use Rattle.windows.specs.Windows.{whole, window_check}

-- a refusal by a number of the windows' own changes neither row
unfoldable pub ground_in : ℕ → ℕ → List ℕ → List ℕ → List ℕ → List ℕ → Rows (Answer ℕ)
ground_in B N head tail ss ls =
    let w : Why = window_check B N (length head) (length tail) in
    if_zero w.number (ground_outcome B (whole B N head tail) ss ls) (record { answer = refused w; starts = ss; lengths = ls })

-- so the call ends: its answer, and what both rows hold
abbrev pub GroundEnds : ℕ → ℕ → List ℕ → List ℕ → List ℕ → List ℕ → Answer ℕ → List ℕ → List ℕ → Type 0
GroundEnds B N head tail ss ls r starts lengths = RowsEnd (ground_in B N head tail ss ls) r starts lengths
