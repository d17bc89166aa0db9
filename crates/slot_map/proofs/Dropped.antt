-- A reader who drops the place sees the old answer of the making too (document 02, 5/13): document 01's check decides it. Put and clear with a map answer as the card's do, of which
-- `card/proofs/Dropped` has the same. No contract cites this file. Assumes nothing.
use mathlib.Core.Path.{◌≡◌, ap, ◌∙◌}
use mathlib.Core.List.{List}
use Prim.Native.Nat.{ℕ}
use lib.ListN.{length}
use Rattle.units.specs.declared.why.Why.{Why}
use Rattle.units.specs.Answer.{judged}
use Rattle.rows.specs.Plans.{plainly}
use Rattle.tables.specs.Lens.{tables}
use Rattle.tables.specs.Check.{check, plain_check}
use Rattle.tables.proofs.Dropped.{drop-check}
use Rattle.card.proofs.Dropped.{dropped-judged}
use Rattle.slot_map.specs.Map.{flags_in, made_answer}

pub drop-made : (B : ℕ) (xs : List ℕ) → plainly (made_answer B xs) ≡ judged (plain_check B (length xs) (tables B xs)) (flags_in B xs)
drop-made B xs =
    dropped-judged (check B (length xs) (tables B xs)) (flags_in B xs)
    ∙ ap (λ (w : Why). judged w (flags_in B xs)) (drop-check B (length xs) (tables B xs))
