use Rattle.std.proofs.Common.{◌++◌, ◌∙◌, sym, ap, take, rules, arith, refl, [], length-append}
use Rattle.std.proofs.KnownBytes.{Consumes-nil, Consumes-trans}
use Rattle.crc32.specs.Crc.{crc_from}
use Rattle.crc32.specs.Register.{crc-from-empty, crc-from-append}
use Rattle.sums.proofs.sum_input.Goals as goal

pub loop-length-init : goal.loop-length-init
loop-length-init g c = (refl, ([], Consumes-nil _, sym (crc-from-empty 0), refl))

pub loop-length-preserved : goal.loop-length-preserved
loop-length-preserved g c =
    let (bs, taken, sum, count) = c.loop-length.invariant.1 in
    let piece = take c.in_ok-n.n c.read_piece.new.buf in (
      search rules,
      (
        bs ++ piece,
        Consumes-trans _ _ _ _ _ taken c.in_ok-n.ensures.bytes.0,
        c.crc32_next-sum.ensures ∙ ap (λ r. crc_from r piece) sum ∙ sym (crc-from-append 0 bs piece),
        omega (arith, count, length-append bs piece, c.in_ok-n.ensures.bound.1),
      ),
    )
