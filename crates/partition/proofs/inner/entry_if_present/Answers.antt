-- `partition::inner::entry_if_present` meets its contract: an absent entry has the zero record. Assumes nothing.
use Rattle.std.proofs.Common.{◌≡◌, sym, ◌∙◌, Bool, not, false}
use borrow.Author.Tests.{not-false}
use Rattle.units.specs.Bytes.{part, all_zero}
use Rattle.partition.proofs.Laws.{absent-is-zero}
use Rattle.partition.proofs.inner.entry_if_present.Goals as goal

pub returns-else-is_present : goal.returns-else-is_present
returns-else-is_present c =
    let a = c.args in
    let z : Bool = all_zero (part a.s.now a.at 128) in
    let f : not z ≡ false = sym c.is_present.ensures ∙ c.if-is_present.false in
    rw (f, absent-is-zero a.s.now a.at c.requires (not-false z f))
