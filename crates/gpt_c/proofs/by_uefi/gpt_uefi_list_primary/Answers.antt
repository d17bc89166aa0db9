-- A plan carried out, and its count, are what is asked for. Assumes nothing.
use Rattle.std.proofs.Common.{refl, ap, ◌∙◌}
use Rattle.answers_c.specs.Crossing.{count_to_c}
use Rattle.answers_c.proofs.Laws.{rows_told, count-plainly}
use Rattle.gpt_c.proofs.by_uefi.gpt_uefi_list_primary.Goals as goal

pub returns : goal.returns
returns c =
    rows_told count_to_c c.args.img.now c.args.out.now c.plan_primary-p.result c.plan_primary-p.ensures.1 refl c.fill_bytes-q.ensures (c.into.ensures ∙ ap count_to_c c.answer.ensures ∙ count-plainly _)
