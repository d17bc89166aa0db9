-- `tables::inner::other_block` meets its contract: what is its own to one side is the other's to the other. Assumes nothing.
use mathlib.Core.Path.{◌≡◌, refl, ap, ◌∙◌}
use mathlib.Core.Bool.{Bool, true, false, not}
use Prim.Native.Nat.{ℕ}
use Rattle.units.specs.declared.Lba.{Lba}
use Rattle.tables.specs.Lens.{side_of}
use Rattle.tables.specs.Headers.{own_block, other_block}
use Rattle.tables.proofs.inner.other_block.Goals as goal

other : (B n : ℕ) (back : Bool) → own_block B n (side_of (not back)) ≡ other_block B n (side_of back)
other B n true = refl
other B n false = refl

abbrev lba : ℕ → Lba
lba k = record { 0 = k }

pub returns : goal.returns
returns c = let a = c.args in c.own_block.ensures ∙ ap lba (other a.b a.len a.back)
