-- `uefi::inner::header_in` meets its contract: the tests are those of the definition, in its order. Assumes nothing.
use native.Mathlib.Omega.{arith}
use Rattle.std.proofs.lemmas.Bool.{ne_eqb, eq-eqb}
use Rattle.units.proofs.Laws.{inside-yes}
use Rattle.uefi.proofs.Ways.{in-short, in-signed, in_size, in_sum, in-dirty, in_place, in-good, stated-yes}
use Rattle.std.proofs.Common.{ap}
use Rattle.std.specs.Prelude.{not}
use Rattle.uefi.proofs.inner.header_in.Goals as goal

pub returns-then-not-is_inside : goal.returns-then-not-is_inside
returns-then-not-is_inside c = in-short _ _ _ _ c.is_inside.ensures (ap not c.if-not-is_inside.true)

pub same_at-requires : goal.same_at-requires
same_at-requires c =
    let inside = c in
    omega (arith, inside-yes _ _ _ inside.is_inside.ensures (ap not inside.if-not-is_inside.false), inside.requires)

pub returns-then-not-same_at : goal.returns-then-not-same_at
returns-then-not-same_at c =
    let inside = c in
    in-signed _ _ _ _ inside.is_inside.ensures (ap not inside.if-not-is_inside.false) c.same_at.ensures (ap not c.if-not-same_at.true)

pub header_at-h-requires : goal.header_at-h-requires
header_at-h-requires c =
    let inside = c in
    omega (arith, inside-yes _ _ _ inside.is_inside.ensures (ap not inside.if-not-is_inside.false), inside.requires)

pub returns-then-bad_stated : goal.returns-then-bad_stated
returns-then-bad_stated c =
    let signed = c in
    let inside = signed in
    in_size _ _ _ _ inside.is_inside.ensures (ap not inside.if-not-is_inside.false) signed.same_at.ensures (ap not signed.if-not-same_at.false)
    c.header_at-h.ensures c.bad_stated.ensures c.if-bad_stated.true

pub sized_sum_at-requires : goal.sized_sum_at-requires
sized_sum_at-requires c =
    let inside = c in
    let p = inside-yes _ _ _ inside.is_inside.ensures (ap not inside.if-not-is_inside.false) in
    let s = stated-yes _ _ c.bad_stated.ensures c.if-bad_stated.false in
    (omega (arith, s.0), omega (arith, s.1, p))

pub returns-then-sized_sum_at-h : goal.returns-then-sized_sum_at-h
returns-then-sized_sum_at-h c =
    let sized = c in
    let signed = sized in
    let inside = signed in
    in_sum _ _ _ _ inside.is_inside.ensures (ap not inside.if-not-is_inside.false) signed.same_at.ensures (ap not signed.if-not-same_at.false)
    sized.header_at-h.ensures sized.bad_stated.ensures sized.if-bad_stated.false
    c.sized_sum_at.ensures c.if-sized_sum_at-h.true

pub overflow_add-at : goal.overflow_add-at
overflow_add-at c =
    let sized = c in
    let inside = sized in
    let p = inside-yes _ _ _ inside.is_inside.ensures (ap not inside.if-not-is_inside.false) in
    let s = stated-yes _ _ sized.bad_stated.ensures sized.if-bad_stated.false in
    omega (arith, s.1, p)

pub overflow_sub-size : goal.overflow_sub-size
overflow_sub-size c =
    let sized = c in
    let s = stated-yes _ _ sized.bad_stated.ensures sized.if-bad_stated.false in
    omega (arith, s.1)

pub all_zero-clean-requires : goal.all_zero-clean-requires
all_zero-clean-requires c =
    let sized = c in
    let inside = sized in
    let p = inside-yes _ _ _ inside.is_inside.ensures (ap not inside.if-not-is_inside.false) in
    let s = stated-yes _ _ sized.bad_stated.ensures sized.if-bad_stated.false in
    omega (arith, s.1, p)

pub returns-then-not-clean : goal.returns-then-not-clean
returns-then-not-clean c =
    let clean = c in
    let summed = clean in
    let sized = summed in
    let signed = sized in
    let inside = signed in
    in-dirty _ _ _ _ inside.is_inside.ensures (ap not inside.if-not-is_inside.false) signed.same_at.ensures (ap not signed.if-not-same_at.false)
    sized.header_at-h.ensures sized.bad_stated.ensures sized.if-bad_stated.false
    summed.sized_sum_at.ensures summed.if-sized_sum_at-h.false clean.all_zero-clean.ensures (ap not c.if-not-clean.true)

pub returns-then-not-here : goal.returns-then-not-here
returns-then-not-here c =
    let clean = c in
    let summed = clean in
    let sized = summed in
    let signed = sized in
    let inside = signed in
    in_place _ _ _ _ inside.is_inside.ensures (ap not inside.if-not-is_inside.false) signed.same_at.ensures (ap not signed.if-not-same_at.false)
    sized.header_at-h.ensures sized.bad_stated.ensures sized.if-bad_stated.false
    summed.sized_sum_at.ensures summed.if-sized_sum_at-h.false clean.all_zero-clean.ensures (ap not clean.if-not-clean.false) (ap not (ne_eqb _ _ c.if-not-here.true))

pub returns : goal.returns
returns c =
    let clean = c in
    let summed = clean in
    let sized = summed in
    let signed = sized in
    let inside = signed in
    in-good _ _ _ _ inside.is_inside.ensures (ap not inside.if-not-is_inside.false) signed.same_at.ensures (ap not signed.if-not-same_at.false)
    sized.header_at-h.ensures sized.bad_stated.ensures sized.if-bad_stated.false
    summed.sized_sum_at.ensures summed.if-sized_sum_at-h.false clean.all_zero-clean.ensures (ap not clean.if-not-clean.false) (ap not (eq-eqb _ _ c.if-not-here.false))
