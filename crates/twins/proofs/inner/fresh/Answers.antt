-- `twins::inner::fresh` meets its contract: one law for each way out. Assumes nothing.
use native.Mathlib.Omega.{arith}
use Rattle.units.specs.Bytes.{part}
use Rattle.tables.specs.Entries.{part_guid_of}
use Rattle.twins.proofs.Laws.{fresh-unused, fresh-used, mark-low}
use Rattle.twins.proofs.inner.fresh.Goals as goal

pub returns-then-nil_type_at : goal.returns-then-nil_type_at
returns-then-nil_type_at c =
    let a = c.args in
    let p = fresh-unused a.copy.now a.own.0 c.nil_type_at.ensures a.m.now c.if-nil_type_at.true in
    record { value = p.0; m_after = p.1 }

pub enter-requires : goal.enter-requires
enter-requires c =
    let s = c in
    let a = s.args in
    (s.requires.0, omega (arith, c.mark-h.ensures, mark-low (part_guid_of (part a.copy.now a.own.0 128))))

pub returns : goal.returns
returns c =
    let a = c.args in
    let p = fresh-used a.copy.now a.own.0 c.nil_type_at.ensures a.m.now c.enter.new.m c.if-nil_type_at.false c.mark-h.ensures c.enter.ensures.0 c.enter.ensures.1 in
    record { value = p.0; m_after = p.1 }
