use Rattle.std.proofs.Common.{sym, subst, arith, take-add, length-drop}
use Rattle.std.specs.Io.KnownBytes.{Appends}
use Rattle.std.proofs.KnownBytes.{Appends-kept, Appends-trans}
use Rattle.console.proofs.Streams.{slice-end}
use Rattle.console.proofs.write_all.Goals as goal
use Rattle.console.proofs.write_all.Goals.{in-Ok, in-Err+else-not-is_interrupted}

pub writes-preserved : goal.writes-preserved
writes-preserved g c =
    let inv = c.writes.invariant in
    let all = c.args.s.now in
    let done = c.writes.done in
    elim c.match-write.branch [
      | in-Ok w ↦
          let more = rw (slice-end all done) at w.in-Ok.ensures.bytes in
          let bound = rw (slice-end all done) at w.in-Ok.ensures.bound in
          let joined = subst (Appends _ _) (sym (take-add done w.in-Ok.n all)) (Appends-trans _ _ _ _ _ inv.1 more) in
          rw w.done-is (omega (arith, inv.0, bound, length-drop done all), joined)
      | in-Err+else-not-is_interrupted w ↦ rw w.done-is (inv.0, Appends-kept _ _ _ _ inv.1 w.in-Err.ensures.bytes)
    ]
