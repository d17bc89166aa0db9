-- `reader::inner::choose_copy` meets its contract: one law for each way out. Assumes nothing.
use Rattle.tables.specs.Lens.{copies}
use Rattle.reader.proofs.Ways.{takes_front, takes-back, takes_none}
use Rattle.reader.proofs.inner.choose_copy.Goals as goal

pub returns-then-copy_passes : goal.returns-then-copy_passes
returns-then-copy_passes c =
    let both = takes_front c.args.b c.args.len (copies c.args.b c.args.front.now c.args.back.now) c.copy_passes.ensures c.if-copy_passes.true in
    record { number_value = both.0; back_value = both.1 }

pub returns-then-copy_passes-2 : goal.returns-then-copy_passes-2
returns-then-copy_passes-2 c =
    let both = takes-back c.args.b c.args.len (copies c.args.b c.args.front.now c.args.back.now) c.copy_passes.ensures c.copy_passes-2.ensures c.if-copy_passes.false c.if-copy_passes-2.true in
    record { number_value = both.0; back_value = both.1 }

pub returns : goal.returns
returns c =
    let both = takes_none c.args.b c.args.len (copies c.args.b c.args.front.now c.args.back.now) c.copy_passes.ensures c.copy_passes-2.ensures c.if-copy_passes.false c.if-copy_passes-2.false in
    record { number_value = both.0; back_value = both.1 }
