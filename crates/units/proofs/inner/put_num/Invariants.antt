-- `units::inner::put_num` meets its contract. The invariant: the bytes that are stored, and those of what is left of v, are the bytes of x. Assumes nothing.
use Rattle.std.proofs.Common.{◌≡◌, ◌-◌, ◌++◌, length, take}
use Rattle.units.specs.Bytes.{bytes}
use Rattle.units.proofs.inner.put_num.Given as goal

abbrev pub invariant-loop-byte : goal.invariant-loop-byte
invariant-loop-byte l = (length l.byte-items ≡ l.n) × (take l.byte-index l.byte-items ++ bytes (l.n - l.byte-index) l.v ≡ bytes l.n l.x)
