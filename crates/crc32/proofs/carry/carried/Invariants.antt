-- `carry::carried` meets its contract. The invariant: what is gathered, with the bits that are left, is the product. Assumes nothing.
use mathlib.Core.Path.{◌≡◌}
use Prim.Native.Nat.{◌≤◌, ◌-◌}
use Rattle.crc32.proofs.Product.{product}
use Rattle.crc32.proofs.carry.carried.Given as goal

abbrev pub invariant-loop-bits : goal.invariant-loop-bits
invariant-loop-bits l = (l.bits ≤ 32) × (product (32 - l.bits) l.x l.rest l.r ≡ product 32 0 l.a l.r)

abbrev pub decreases-loop-bits : goal.decreases-loop-bits
decreases-loop-bits l = 32 - l.bits
