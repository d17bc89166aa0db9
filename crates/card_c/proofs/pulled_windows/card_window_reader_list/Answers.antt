-- A plan carried out, and its count, are what is asked for. Assumes nothing.
use Rattle.std.proofs.Common.{ap, ◌∙◌, List, ℕ, ◌/◌, length}
use Rattle.rows.specs.Plans.{planned}
use Rattle.reader.specs.Reader.{reader_entries, reader_read}
use Rattle.reader.proofs.LentRow.{read-within}
use Rattle.answers_c.specs.Crossing.{count_to_c}
use Rattle.answers_c.proofs.Laws.{rows_told, count-plainly}
use Rattle.card_c.proofs.Laws.{window-within}
use Rattle.card_c.proofs.pulled_windows.card_window_reader_list.Goals as goal

pub returns : goal.returns
returns c =
    let a = c.args in
    let m = length a.out.now / 136 in
    rows_told count_to_c _ a.out.now c.plan_in-p.result (ap (λ (l : List ℕ). planned l c.plan_in-p.result) c.good_part-part.ensures.result_value ∙ c.plan_in-p.ensures.1)
    (window-within a.b a.blocks a.head.now a.tail.now m (reader_entries a.b) (λ (xs : List ℕ). reader_read a.b xs m) (λ xs. read-within a.b xs m))
    c.fill_bytes-q.ensures (c.into.ensures ∙ ap count_to_c c.answer.ensures ∙ count-plainly _)
