-- A plan carried out, and its count, are what is asked for. Assumes nothing.
use Rattle.std.proofs.Common.{ap, ◌∙◌}
use Rattle.rows.proofs.Laws.{found_within}
use Rattle.answers_c.specs.Crossing.{count_to_c}
use Rattle.answers_c.proofs.Laws.{rows_told, count-plainly}
use Rattle.gpt_c.proofs.entries.gpt_file_read_partitions.Goals as goal

pub returns : goal.returns
returns c =
    rows_told count_to_c c.args.img.now c.args.out.now c.plan_for-p.result c.plan_for-p.ensures.1 (found_within c.args.img.now c.args.h c.args.b _) c.fill_bytes-q.ensures (c.into.ensures ∙ ap count_to_c c.answer.ensures ∙ count-plainly _)
