-- What `free_runs` answers, and what the two rows then hold. From document 02, 1/13: the card check's numbers, then 15 exactly if either row is shorter than the count; the runs stand
-- in the first places, and the places after the count stay. A refusal of the check says its place (5/13); 15 has none. Assumes nothing.
use Rattle.std.specs.Prelude.{◌≡◌, ◌||◌, Result, Ok, Err, List, map, ℕ, ltb, length}
use Rattle.std.proofs.Common.{sym, ◌∙◌}
use Rattle.std.proofs.lemmas.List.Edits.{sets}
use Rattle.units.specs.declared.Reason.{Reason}
use Rattle.units.specs.declared.why.Why.{Why}
use Rattle.units.specs.Answer.{Answer, plain, when, if_zero, or_else, judged}
use Rattle.units.specs.Refusals.{reason_of}
use Rattle.tables.specs.Lens.{Tables, tables}
use Rattle.tables.specs.Check.{check}
use Rattle.ground.specs.Ground.{Run, runs}

-- ---- the answer

-- the answer that a refusal as a value stands for, or else a count
unfoldable pub run_count_of : Why → ℕ → Result ℕ Reason
run_count_of w n = if_zero w.number (Ok n) (Err (reason_of w))

-- ---- the tests

-- 15 for rows of p and q places, where there are m runs
unfoldable pub rows_check : ℕ → ℕ → ℕ → Why
rows_check p q m = when (ltb p m || ltb q m) (plain 15)

-- the runs of a card, by its tables
abbrev pub runs_of : ℕ → ℕ → Tables → List Run
runs_of B n t = runs B n t.front.array

-- the whole chain
unfoldable pub ground_check : ℕ → ℕ → Tables → ℕ → ℕ → Why
ground_check B n t p q = or_else (check B n t) (rows_check p q (length (runs_of B n t)))

-- ---- the rows

-- an answer and two rows
pub record Rows (A : Type 0) : Type 0 where
  pub answer : A
  pub starts : List ℕ
  pub lengths : List ℕ

-- where nothing refuses, the runs in the first places of both rows; a refusal changes neither
unfoldable pub settle_rows : {A : Type 0} → Why → A → List Run → List ℕ → List ℕ → Rows A
settle_rows w a rs ss ls =
    record {
      answer = a;
      starts = if_zero w.number (sets ss 0 (map (λ (r : Run). r.start) rs)) ss;
      lengths = if_zero w.number (sets ls 0 (map (λ (r : Run). r.blocks) rs)) ls;
    }

-- a call ends in an outcome
pub record RowsEnd {A : Type 0} (o : Rows A) (r : A) (ss ls : List ℕ) : Type 0 where
  pub answer : r ≡ o.answer
  pub starts : ss ≡ o.starts
  pub lengths : ls ≡ o.lengths

-- such a promise allows one answer and one content of each row
pub rows-unique : {A : Type 0} {o : Rows A} {r s : A} {a b c d : List ℕ} → RowsEnd o r a b → RowsEnd o s c d → (r ≡ s) × (a ≡ c) × (b ≡ d)
rows-unique p q = (p.answer ∙ sym q.answer, p.starts ∙ sym q.starts, p.lengths ∙ sym q.lengths)

-- of a card that was checked, with the runs rs
unfoldable pub rows_outcome : List Run → List ℕ → List ℕ → Rows (Answer ℕ)
rows_outcome rs ss ls = settle_rows (rows_check (length ss) (length ls) (length rs)) (judged (rows_check (length ss) (length ls) (length rs)) (length rs)) rs ss ls

-- of an image
abbrev pub image_check : ℕ → List ℕ → List ℕ → List ℕ → Why
image_check B xs ss ls = ground_check B (length xs) (tables B xs) (length ss) (length ls)

unfoldable pub ground_outcome : ℕ → List ℕ → List ℕ → List ℕ → Rows (Answer ℕ)
ground_outcome B xs ss ls =
    settle_rows (image_check B xs ss ls) (judged (image_check B xs ss ls) (length (runs_of B (length xs) (tables B xs)))) (runs_of B (length xs) (tables B xs)) ss ls
