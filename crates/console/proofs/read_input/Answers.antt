use Rattle.std.proofs.Common.{length, ◌-◌, rules, subst, sym}
use Rattle.std.specs.Io.KnownBytes.{Consumes}
use Rattle.std.proofs.KnownBytes.{Consumes-trans}
use Rattle.console.proofs.Streams.{filled-more}
use Rattle.console.proofs.read_input.Goals as goal

pub loop-done-preserved : goal.loop-done-preserved
loop-done-preserved g c =
    let from = c.loop-done.done in
    let room = length c.loop-done.buf - from in
    let inv = c.loop-done.invariant in
    let n = c.in_ok-n.n in
    let read = c.in_ok-n.ensures in
    let filled = filled-more from room n c.loop-done.buf c.read_piece.new.buf inv.1 read.bound.0 in
    (search rules, search rules, subst (Consumes _ _) (sym filled) (Consumes-trans _ _ _ _ _ inv.2 read.bytes.0))
