-- `guid_text::inner::first_wrong` meets its contract. Assumes nothing.
use mathlib.Core.Path.{◌≡◌}
use Prim.Native.Nat.{◌-◌, ◌≤◌}
use Rattle.guid_text.specs.GuidTexts.{wrong_from}
use Rattle.guid_text.proofs.inner.first_wrong.Given as goal

abbrev pub invariant-loop-i : goal.invariant-loop-i
invariant-loop-i l = (l.i ≤ 36) × (wrong_from l.text l.i (36 - l.i) ≡ wrong_from l.text 0 36)

abbrev pub decreases-loop-i : goal.decreases-loop-i
decreases-loop-i l = 36 - l.i
