-- `twins::inner::bears` meets its contract: one law for each way out. Assumes nothing.
use mathlib.Core.Path.{◌≡◌, ap, ◌∙◌}
use Prim.Native.Nat.{ℕ}
use mathlib.Core.Bool.{Bool}
use mathlib.Core.List.{List}
use lib.ListN.{length}
use Rattle.units.specs.Bytes.{part, same}
use Rattle.twins.proofs.Laws.{bears-not, bears-same}
use Rattle.std.specs.Prelude.{not}
use Rattle.twins.proofs.inner.bears.Goals as goal

-- whether the sixteen bytes are the same, as the code finds it
compared : {r : Bool} (xs : List ℕ) (p : ℕ) (g : List ℕ) → length g ≡ 16 → r ≡ same (part xs p (length g)) g → r ≡ same (part xs p 16) g
compared xs p g l e = e ∙ ap (λ (n : ℕ). same (part xs p n) g) l

pub returns-then-not-same_at : goal.returns-then-not-same_at
returns-then-not-same_at c =
    let a = c.args in
    bears-not a.copy.now a.own.0 a.g.now c.guid_place-guid.ensures (compared a.copy.now _ a.g.now c.requires.1 c.same_at.ensures) (ap not c.if-not-same_at.true)

pub returns : goal.returns
returns c =
    let a = c.args in
    bears-same a.copy.now a.own.0 a.g.now c.guid_place-guid.ensures (compared a.copy.now _ a.g.now c.requires.1 c.same_at.ensures) (ap not c.if-not-same_at.false) c.nil_type_at.ensures
