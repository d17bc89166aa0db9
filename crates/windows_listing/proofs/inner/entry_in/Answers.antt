-- `windows_listing::inner::entry_in` meets its contract. Assumes nothing.
use mathlib.Core.Path.{ap, ◌∙◌}
use Prim.Native.Nat.{ℕ}
use native.Mathlib.Omega.{arith}
use Rattle.partition.specs.Format.{entry_at}
use Rattle.reader.proofs.Ways.{slot-place}
use Rattle.windows_listing.proofs.inner.entry_in.Goals as goal

pub entry_at-requires : goal.entry_at-requires
entry_at-requires c = omega (arith, (slot-place c.args.slot.0 c.requires.1 c.array_place-k.ensures c.entry_place-at.ensures).0, c.requires.0)

pub returns : goal.returns
returns c =
    c.entry_at.ensures ∙ ap (λ (i : ℕ). entry_at c.args.array.now i) (slot-place c.args.slot.0 c.requires.1 c.array_place-k.ensures c.entry_place-at.ensures).1
