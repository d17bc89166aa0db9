-- `tables::inner::put_slot` meets its contract. Assumes nothing.
use mathlib.Core.Path.{ap, ◌∙◌}
use Prim.Native.Nat.{ℕ}
use native.Mathlib.Omega.{arith}
use lib.Seq.{sets}
use Rattle.tables.proofs.inner.put_slot.Goals as goal

pub put_bytes-requires : goal.put_bytes-requires
put_bytes-requires c = let p = c.requires in omega (arith, c.slot_in-at.ensures.1, p.copy_len.0, p.copy_len.1)

pub returns : goal.returns
returns c =
    let put = c in
    let place = put in
    let a = place.args in
    put.put_bytes.ensures ∙ ap (λ (i : ℕ). sets a.copy.now i a.e.now) place.slot_in-at.ensures.0
