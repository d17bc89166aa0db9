-- `carry::carried` meets its contract. The invariant: what is gathered, with the bits that are left, is the product. Assumes nothing.
use mathlib.Core.Path.{refl, sym, ◌∙◌}
use native.Mathlib.Omega.{arith}
use Rattle.crc32.proofs.Product.{product-more, product-all, product-steps}
use Rattle.crc32.proofs.carry.carried.Goals as goal

pub loop-bits-init : goal.loop-bits-init
loop-bits-init c = (omega arith, refl)

pub loop-bits-preserved : goal.loop-bits-preserved
loop-bits-preserved c =
    let l = c.loop-bits in
    let a = c.args in
    (omega arith, rw (c.one_bit.ensures, c.lowest_times.ensures) (product-more l.bits l.x l.rest a.r (omega arith) ∙ l.invariant.1))

pub returns : goal.returns
returns c = λ n e.
    let l = c.loop-bits in
    sym (product-all l.bits l.x l.rest c.args.r (omega arith)) ∙ l.invariant.1 ∙ product-steps n c.args.a c.args.r e (omega arith)
