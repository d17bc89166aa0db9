-- A plan carried out, and its count, are what is asked for. Assumes nothing.
use Rattle.std.proofs.Common.{ap, ◌∙◌}
use Rattle.reader.proofs.LentRow.{read-within}
use Rattle.answers_c.specs.Crossing.{count_to_c}
use Rattle.answers_c.proofs.Laws.{rows_told, count-plainly}
use Rattle.card_c.proofs.pulled.card_reader_list.Goals as goal

pub returns : goal.returns
returns c =
    rows_told count_to_c c.args.img.now c.args.out.now c.plan_of-p.result c.plan_of-p.ensures.1 (read-within c.args.b c.args.img.now _) c.fill_bytes-q.ensures (c.into.ensures ∙ ap count_to_c c.answer.ensures ∙ count-plainly _)
