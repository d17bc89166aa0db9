-- `twins::inner::mark` meets its contract: the definition's number, from the GUID's two words in the copy. Assumes nothing.
use mathlib.Core.Path.{ap₂, ◌∙◌}
use Prim.Native.Nat.{ℕ}
use lib.Bits.{bit_xor}
use Rattle.twins.specs.Marks.{folded}
use Rattle.twins.proofs.Laws.{mark-at}
use Rattle.twins.proofs.inner.mark.Goals as goal

pub returns : goal.returns
unfolding folded
returns c =
    let a = c.args in
    ap₂ (λ (x y : ℕ). folded (bit_xor x y)) c.get.ensures c.get-2.ensures ∙ mark-at a.copy.now a.own.0 c.guid_place-guid.ensures
