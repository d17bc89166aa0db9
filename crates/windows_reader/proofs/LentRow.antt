-- The laws of the list of a part in a lent row: 2 first, 15 last, and no refusal names a place. No contract cites this file. Assumes nothing.
use mathlib.Core.Path.{◌≡◌}
use mathlib.Core.List.{List}
use Prim.Native.Nat.{ℕ, ◌≤◌, ◌<◌}
use borrow.Author.Tests.{lt-ltb, le-ltb}
use lib.Dec.{ltb}
use lib.ListN.{length}
use Rattle.units.specs.declared.Refusal.TheVariants.{Short}
use Rattle.units.specs.Answer.{plain, when, judged, accepted}
use Rattle.units.proofs.Chains.{bare-when, bare-else}
use Rattle.rows.specs.declared.Entry.{Entry}
use Rattle.rows.specs.declared.inner.Plan.{Plan}
use Rattle.rows.specs.Row.{present_entries, row_outcome}
use Rattle.rows.specs.Plans.{Made, planned, no_plan, nowhere, roomed, plainly}
use Rattle.rows.proofs.Laws.{made_none, planned-none}
use Rattle.reader.proofs.LentRow.{row_last, row-plainly}
use Rattle.windows_reader.specs.Parts.{part_entries, part_check, part_read}

pub part-short : (xs : List ℕ) {p : Plan} → length xs < 16384 → p ≡ no_plan (nowhere Short) → Made xs p × (planned xs p ≡ part_entries xs)
unfolding judged
part-short xs h g = rw (g, lt-ltb (length xs) 16384 h) (made_none xs (nowhere Short), planned-none xs (nowhere Short))

pub part-listed : (xs : List ℕ) {p : Plan} → 16384 ≤ length xs → Made xs p × (planned xs p ≡ accepted (present_entries xs 0 128)) → Made xs p × (planned xs p ≡ part_entries xs)
unfolding judged
part-listed xs h m = rw (le-ltb (length xs) 16384 h) m

pub part-within : (xs : List ℕ) (m : ℕ) → roomed m (part_entries xs) ≡ part_read xs m
unfolding part_check
part-within xs m = row_last m (present_entries xs 0 128) (when (ltb (length xs) 16384) (plain 2))

pub part-plainly : (xs : List ℕ) (m : ℕ) (row : List Entry) → plainly (row_outcome (part_read xs m) row).answer ≡ (row_outcome (part_read xs m) row).answer
unfolding part_check
part-plainly xs m row =
    row-plainly _ (present_entries xs 0 128) row
    (bare-else (when (ltb (length xs) 16384) (plain 2)) _ (bare-when (ltb (length xs) 16384) 2) (bare-when (ltb m (length (present_entries xs 0 128))) 15))
