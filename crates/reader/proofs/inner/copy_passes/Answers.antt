-- `reader::inner::copy_passes` meets its contract. Assumes nothing.
use Rattle.reader.proofs.Ways.{passes-not, passes-by}
use Rattle.reader.proofs.inner.copy_passes.Goals as goal

pub array_sum-sum-requires : goal.array_sum-sum-requires
array_sum-sum-requires c = c.requires.1

pub copy_check-found-requires : goal.copy_check-found-requires
copy_check-found-requires c = record { len_value = c.requires; sum_value = c.array_sum-sum.ensures }

pub returns-then-found-ne0 : goal.returns-then-found-ne0
returns-then-found-ne0 c = passes-not _ _ _ _ c.copy_check-found.ensures c.if-found-ne0.true

pub entries_ok-requires : goal.entries_ok-requires
entries_ok-requires c = c.requires

pub returns : goal.returns
returns c = passes-by _ _ _ _ c.copy_check-found.ensures c.if-found-ne0.false c.entries_ok.ensures
