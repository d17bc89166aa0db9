-- `checking::inner::copies_check` meets its contract: one law for each way out. Assumes nothing.
use mathlib.Core.Path.{◌≡◌, sym, ap, ◌∙◌}
use Rattle.units.specs.Bytes.{same}
use Rattle.units.proofs.Laws.{same_true}
use Rattle.crc32.specs.Crc.{crc}
use Rattle.tables.specs.Lens.{Front, Back, copy_in, copies}
use Rattle.tables.proofs.Copies.{array_of}
use Rattle.checking.proofs.CheckWays.{check-front, check-back, check-pair}
use Rattle.checking.proofs.inner.copies_check.Goals as goal

pub array_sum-sum-requires : goal.array_sum-sum-requires
array_sum-sum-requires c = let s = c in s.requires.1

pub copy_check-front_found-requires : goal.copy_check-front_found-requires
copy_check-front_found-requires c = let s = c in record { len_value = (s.requires.0, s.requires.1); sum_value = c.array_sum-sum.ensures }

pub returns-then-front_found-ne0 : goal.returns-then-front_found-ne0
returns-then-front_found-ne0 c = let s = c in check-front s.args.b s.args.len (copies s.args.b s.args.front.now s.args.back.now) s.requires.0 c.copy_check-front_found.ensures c.if-front_found-ne0.true

pub back_sum-other_sum-requires : goal.back_sum-other_sum-requires
back_sum-other_sum-requires c =
    let a : c.same_in-agree.result ≡ same (copy_in c.args.b Front c.args.front.now).array (copy_in c.args.b Back c.args.back.now).array =
    c.same_in-agree.ensures ∙ rw (array_of c.args.b Front c.args.front.now c.array_in-array.ensures.0, array_of c.args.b Back c.args.back.now c.array_in-other.ensures.0) in
    let s = c in
    record { copy_len = s.requires.2; sum_value = λ t. c.array_sum-sum.ensures ∙ ap crc (same_true _ _ (sym a ∙ t)) }

pub copy_check-back_found-requires : goal.copy_check-back_found-requires
copy_check-back_found-requires c = let s = c in record { len_value = (s.requires.0, s.requires.2); sum_value = c.back_sum-other_sum.ensures }

pub returns-then-back_found-ne0 : goal.returns-then-back_found-ne0
returns-then-back_found-ne0 c =
    let f = c in
    let s = f in
    check-back s.args.b s.args.len (copies s.args.b s.args.front.now s.args.back.now) s.requires.0 f.copy_check-front_found.ensures f.if-front_found-ne0.false c.copy_check-back_found.ensures c.if-back_found-ne0.true

pub pair_check-requires : goal.pair_check-requires
pair_check-requires c =
    let a : c.same_in-agree.result ≡ same (copy_in c.args.b Front c.args.front.now).array (copy_in c.args.b Back c.args.back.now).array =
    c.same_in-agree.ensures ∙ rw (array_of c.args.b Front c.args.front.now c.array_in-array.ensures.0, array_of c.args.b Back c.args.back.now c.array_in-other.ensures.0) in
    let s = c in record { len_value = s.requires; agree_value = a }

pub returns : goal.returns
returns c =
    let k = c in
    let f = k in
    let s = f in
    check-pair s.args.b s.args.len (copies s.args.b s.args.front.now s.args.back.now) s.requires.0 f.copy_check-front_found.ensures f.if-front_found-ne0.false k.copy_check-back_found.ensures k.if-back_found-ne0.false c.pair_check.ensures
