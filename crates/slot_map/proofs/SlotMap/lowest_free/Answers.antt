-- `slot_map::SlotMap::lowest_free` meets its contract. Assumes nothing.
use Rattle.slot_map.proofs.Ways.{free-low, free-high, free-full}
use Rattle.slot_map.proofs.SlotMap.lowest_free.Goals as goal

pub returns-then-a-lt64 : goal.returns-then-a-lt64
returns-then-a-lt64 c =
    let m = c.args.self in
    free-low m.low m.high c.word_free-a.ensures c.if-a-lt64.true c.slot_at.ensures

pub returns-then-b-lt64 : goal.returns-then-b-lt64
returns-then-b-lt64 c =
    let m = c.args.self in
    free-high m.low m.high c.word_free-a.ensures c.if-a-lt64.false c.word_free-b.ensures c.if-b-lt64.true c.slot_at-then-b-lt64.ensures

pub returns : goal.returns
returns c =
    let m = c.args.self in
    free-full m.low m.high c.word_free-a.ensures c.if-a-lt64.false c.word_free-b.ensures c.if-b-lt64.false
