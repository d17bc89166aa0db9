-- `run` meets its contract. The invariant: the register at i, fed with what is left, is what the whole slice feeds. Assumes nothing.
use mathlib.Core.Path.{refl, sym, ap, ◌∙◌}
use Prim.Native.Nat.{ℕ, ◌+◌, ◌*◌}
use native.Mathlib.Omega.{arith}
use lib.ListN.{drop, replicate}
use Rattle.crc32.specs.Crc.{feed}
use Rattle.crc32.proofs.Laws.{feed-done}
use Rattle.crc32.proofs.Zeros.{over}
use Rattle.crc32.proofs.sparse.run.Goals as goal

pub loop-i-init : goal.loop-i-init
loop-i-init c = (omega arith, refl)

pub loop-i-preserved : goal.loop-i-preserved
loop-i-preserved c =
    let z = c in
    let l = z.loop-i in
    let a = z.args in
    let e = z.used_end-e in
    let n = z.zero_chunks-n in (
      n.ensures.1,
      ap (λ (y : ℕ). feed y (drop (e.result + 128 * n.result) a.s.now)) (c.past-x.ensures ∙ ap (λ (y : ℕ). feed y (replicate (128 * n.result) 0)) c.run.ensures)
          ∙ over a.s.now l.i e.result n.result l.x (omega (arith, e.ensures.0)) n.ensures.1 n.ensures.2 ∙ l.invariant.1,
    )

pub returns : goal.returns
returns c =
    let l = c.loop-i in
    sym (feed-done c.args.s.now l.i l.x (omega (arith, c.loop-i-test.false))) ∙ l.invariant.1
