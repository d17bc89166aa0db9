-- `checking::inner::copy_check` meets its contract: one law for each way out. Assumes nothing.
use mathlib.Core.Path.{◌∙◌}
use native.Mathlib.Omega.{arith}
use Rattle.units.proofs.Chains.{number-of}
use Rattle.tables.specs.Lens.{side_of}
use Rattle.tables.proofs.Good.{room-ok}
use Rattle.checking.proofs.CheckWays.{copy-unsigned, copy-other, copy-wrong, copy-array, copy-right}
use Rattle.tables.proofs.Copies.{copy-by}
use Rattle.std.proofs.Common.{ap}
use Rattle.std.specs.Prelude.{not}
use Rattle.checking.proofs.inner.copy_check.Goals as goal

pub same_at-requires : goal.same_at-requires
same_at-requires c = let s = c in let r = room-ok _ _ s.requires.len_value.0 in omega (arith, r.least, c.header_in-at.ensures.1, s.requires.len_value.1)

pub returns-then-not-same_at : goal.returns-then-not-same_at
returns-then-not-same_at c =
    copy-unsigned _ _ _ c.args.copy.now c.header_in-at.result.0 _ c.same_at.ensures (ap not c.if-not-same_at.true) ∙ number-of (copy-by c.args.b c.args.len (side_of c.args.back) c.args.copy.now c.header_in-at.ensures.0 (let r = room-ok _ _ c.requires.len_value.0 in omega (arith, r.least)))

pub header_at-h-requires : goal.header_at-h-requires
header_at-h-requires c = let s = c in let r = room-ok _ _ s.requires.len_value.0 in omega (arith, r.least, c.header_in-at.ensures.1, s.requires.len_value.1)

pub header_sum_at-requires : goal.header_sum_at-requires
header_sum_at-requires c = let s = c in let r = room-ok _ _ s.requires.len_value.0 in omega (arith, r.least, c.header_in-at.ensures.1, s.requires.len_value.1)

pub returns-then-header_sum_at-h : goal.returns-then-header_sum_at-h
returns-then-header_sum_at-h c =
    copy-other _ _ _ _ _ _ c.same_at.ensures (ap not c.if-not-same_at.false) c.header_at-h.ensures c.header_sum_at.ensures c.if-header_sum_at-h.true
    ∙ number-of (copy-by c.args.b c.args.len (side_of c.args.back) c.args.copy.now c.header_in-at.ensures.0 (let r = room-ok _ _ c.requires.len_value.0 in omega (arith, r.least)))

pub returns-then-not-laid_fields : goal.returns-then-not-laid_fields
returns-then-not-laid_fields c =
    copy-wrong _ _ _ _ _ _ c.same_at.ensures (ap not c.if-not-same_at.false) c.header_at-h.ensures c.header_sum_at.ensures c.if-header_sum_at-h.false
    c.laid_fields.ensures (ap not c.if-not-laid_fields.true)
    ∙ number-of (copy-by c.args.b c.args.len (side_of c.args.back) c.args.copy.now c.header_in-at.ensures.0 (let r = room-ok _ _ c.requires.len_value.0 in omega (arith, r.least)))

pub returns-then-sum-h : goal.returns-then-sum-h
returns-then-sum-h c =
    copy-array _ _ _ _ _ _ c.same_at.ensures (ap not c.if-not-same_at.false) c.header_at-h.ensures c.header_sum_at.ensures c.if-header_sum_at-h.false
    c.laid_fields.ensures (ap not c.if-not-laid_fields.false) c.requires.sum_value c.if-sum-h.true
    ∙ number-of (copy-by c.args.b c.args.len (side_of c.args.back) c.args.copy.now c.header_in-at.ensures.0 (let r = room-ok _ _ c.requires.len_value.0 in omega (arith, r.least)))

pub returns : goal.returns
returns c =
    copy-right _ _ _ _ _ _ c.same_at.ensures (ap not c.if-not-same_at.false) c.header_at-h.ensures c.header_sum_at.ensures c.if-header_sum_at-h.false
    c.laid_fields.ensures (ap not c.if-not-laid_fields.false) c.requires.sum_value c.if-sum-h.false
    ∙ number-of (copy-by c.args.b c.args.len (side_of c.args.back) c.args.copy.now c.header_in-at.ensures.0 (let r = room-ok _ _ c.requires.len_value.0 in omega (arith, r.least)))
