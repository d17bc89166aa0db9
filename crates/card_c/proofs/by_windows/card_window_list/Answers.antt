-- A plan carried out, and its count, are what is asked for. Assumes nothing.
use Rattle.std.proofs.Common.{ap, ◌∙◌, List, ℕ, ◌/◌, length}
use Rattle.listing.specs.LentRow.{card_entries, listing_read}
use Rattle.listing.proofs.LentRow.{listed-within}
use Rattle.answers_c.proofs.Laws.{rows_told}
use Rattle.card_c.specs.CardExports.{card_count_to_c}
use Rattle.card_c.proofs.Laws.{window-within}
use Rattle.card_c.proofs.by_windows.card_window_list.Goals as goal

pub returns : goal.returns
returns c =
    let a = c.args in
    let m = length a.out.now / 136 in
    rows_told card_count_to_c a.head.now a.out.now c.plan_in-p.result c.plan_in-p.ensures.1
    (window-within a.b a.blocks a.head.now a.tail.now m (card_entries a.b) (λ (xs : List ℕ). listing_read a.b xs m) (λ xs. listed-within a.b xs m))
    c.fill_bytes-q.ensures (c.into.ensures ∙ ap card_count_to_c c.count_by.ensures)
