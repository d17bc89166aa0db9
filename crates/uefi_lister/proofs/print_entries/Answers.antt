use Rattle.std.proofs.Common.{◌<◌, length, ap, arith}
use Rattle.rows.proofs.Laws.{left, left-all}
use Rattle.rows.proofs.ByteRows.{next-left}
use Rattle.uefi_lister.proofs.print_entries.Goals as goal

pub loop-init : goal.loop-init
loop-init g c = omega (arith, ap length (left-all c.args.img.now c.args.p), c.requires.counted)

pub entry_in-e-requires : goal.entry_in-e-requires
entry_in-e-requires g c =
    let h : 0 < length (left c.args.img.now c.args.p c.loop.at) = omega arith in
    (c.requires.lies, (next-left c.args.img.now c.args.p c.loop.at h c.next_slot-at.ensures).0)

pub loop-preserved : goal.loop-preserved
loop-preserved g c =
    let h : 0 < length (left c.args.img.now c.args.p c.loop.at) = omega arith in
    omega (arith, ap length (next-left c.args.img.now c.args.p c.loop.at h c.next_slot-at.ensures).1)
