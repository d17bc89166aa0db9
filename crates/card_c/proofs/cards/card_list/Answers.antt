-- A plan carried out, and its count, are what is asked for. Assumes nothing.
use Rattle.std.proofs.Common.{ap, ◌∙◌}
use Rattle.listing.proofs.LentRow.{listed-within}
use Rattle.answers_c.proofs.Laws.{rows_told}
use Rattle.card_c.specs.CardExports.{card_count_to_c}
use Rattle.card_c.proofs.cards.card_list.Goals as goal

pub returns : goal.returns
returns c =
    rows_told card_count_to_c c.args.img.now c.args.out.now c.plan_of-p.result c.plan_of-p.ensures.1 (listed-within c.args.b c.args.img.now _) c.fill_bytes-q.ensures (c.into.ensures ∙ ap card_count_to_c c.count_by.ensures)
