-- `header::inner::read_header` meets its contract: the tests are those of the definition, in its order. Assumes nothing.
use native.Mathlib.Omega.{arith}
use Rattle.units.proofs.Laws.{inside-yes}
use Rattle.header.specs.Reading.{header_read}
use Rattle.header.proofs.Ways.{read-other, read-good}
use Rattle.std.proofs.Common.{ap}
use Rattle.std.specs.Prelude.{not}
use Rattle.header.proofs.inner.read_header.Goals as goal

pub returns-then-not-is_inside : goal.returns-then-not-is_inside
unfolding header_read
returns-then-not-is_inside c = rw (← c.is_inside.ensures, (ap not c.if-not-is_inside.true))

pub same_at-requires : goal.same_at-requires
same_at-requires c = let p = inside-yes _ _ _ c.is_inside.ensures (ap not c.if-not-is_inside.false) in omega arith

pub returns-then-not-same_at : goal.returns-then-not-same_at
unfolding header_read
returns-then-not-same_at c = rw (← c.is_inside.ensures, (ap not c.if-not-is_inside.false), ← c.same_at.ensures, (ap not c.if-not-same_at.true))

pub header_at-h-requires : goal.header_at-h-requires
header_at-h-requires c = inside-yes _ _ _ c.is_inside.ensures (ap not c.if-not-is_inside.false)

pub header_sum_at-requires : goal.header_sum_at-requires
header_sum_at-requires c = inside-yes _ _ _ c.is_inside.ensures (ap not c.if-not-is_inside.false)

pub returns-then-header_sum_at-h : goal.returns-then-header_sum_at-h
returns-then-header_sum_at-h c =
    let signed = c in
    let inside = signed in
    read-other _ _ inside.is_inside.ensures (ap not inside.if-not-is_inside.false) signed.same_at.ensures (ap not signed.if-not-same_at.false)
    c.header_at-h.ensures c.header_sum_at.ensures c.if-header_sum_at-h.true

pub returns : goal.returns
returns c =
    let signed = c in
    let inside = signed in
    read-good _ _ inside.is_inside.ensures (ap not inside.if-not-is_inside.false) signed.same_at.ensures (ap not signed.if-not-same_at.false)
    c.header_at-h.ensures c.header_sum_at.ensures c.if-header_sum_at-h.false
