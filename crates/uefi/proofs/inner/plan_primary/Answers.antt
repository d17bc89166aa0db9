-- `uefi::inner::plan_primary` meets its contract. Assumes nothing.
use mathlib.Core.Path.{ap, ◌∙◌}
use Rattle.units.specs.Answer.{Answer, and_then}
use Rattle.header.specs.declared.Header.{Header}
use Rattle.uefi.specs.Array.{entries_by_uefi, primary_entries}
use Rattle.uefi.proofs.inner.plan_primary.Goals as goal

pub returns : goal.returns
unfolding primary_entries
returns c =
    let a = c.args in
    let p = c.plan_read.ensures in
    (p.0, p.1 ∙ ap (λ (r : Answer Header). and_then r (λ h. entries_by_uefi a.img.now h a.b)) c.primary-r.ensures)
