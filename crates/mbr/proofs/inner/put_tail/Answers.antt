-- `mbr::inner::put_tail` meets its contract: two stores, the second where the first ends, are one store. Assumes nothing.
use mathlib.Core.Path.{◌≡◌}
use Prim.Native.Nat.{◌+◌}
use native.Mathlib.Omega.{arith}
use lib.ListN.{length}
use Rattle.units.proofs.Lists.{and_then}
use Rattle.mbr.specs.Format.{records_bytes, signature}
use Rattle.mbr.proofs.Laws.{length-records}
use borrow.Author.Rules.{rules}
use Rattle.mbr.proofs.inner.put_tail.Goals as goal

pub returns : goal.returns
returns c =
    let a = c.args in
    let n : length a.records ≡ 4 = search rules in
    and_then a.s.now a.at (records_bytes a.records) (a.at + 64) signature (omega (arith, length-records a.records)) c.put_records.ensures c.put_bytes.ensures
