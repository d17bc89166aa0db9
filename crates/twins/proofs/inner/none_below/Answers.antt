-- `twins::inner::none_below` meets its contract. The invariant: none of the entries that were passed has the GUID. Assumes nothing.
use mathlib.Core.Path.{◌≡◌, sym, ap, ◌∙◌}
use mathlib.Core.Bool.{Bool, not}
use mathlib.Core.List.{List}
use Prim.Native.Nat.{ℕ, ◌+◌, ◌*◌, ◌<◌}
use native.Mathlib.Omega.{arith}
use Rattle.units.specs.Bytes.{part}
use Rattle.tables.specs.Entries.{entry, bears}
use Rattle.tables.proofs.Orders.{all-fails, all_start, all_more, all_end}
use Rattle.tables.proofs.EntryLaws.{entry_at}
use Rattle.twins.proofs.inner.none_below.Goals as goal

pub loop-j-init : goal.loop-j-init
loop-j-init c = all_start _

pub bears-requires : goal.bears-requires
bears-requires c = (omega (arith, c.entry_place.ensures), c.requires.2)

-- whether entry j has it, as the code finds it
found : {r : Bool} (xs : List ℕ) (at j : ℕ) (g : List ℕ) {p : ℕ} → j < 128 → p ≡ at + 128 * j → r ≡ bears g (part xs p 128) → r ≡ bears g (entry (part xs at 16384) j)
found xs at j g h p e = e ∙ ap (bears g) (sym (entry_at xs at j h p))

pub returns-then-bears : goal.returns-then-bears
returns-then-bears c =
    let j = c.loop-j.j in
    sym (all-fails _ _ j (omega arith) (ap not (sym (found c.args.copy.now c.args.at.0 c.loop-j.j c.args.g.now (omega arith) c.entry_place.ensures c.bears.ensures) ∙ c.if-bears.true)))

pub loop-j-preserved : goal.loop-j-preserved
loop-j-preserved c =
    let l = c.loop-j in
    all_more l.j _ l.invariant (ap not (sym (found c.args.copy.now c.args.at.0 c.loop-j.j c.args.g.now (omega arith) c.entry_place.ensures c.bears.ensures) ∙ c.if-bears.false))

pub returns : goal.returns
returns c = all_end c.loop-j.j _ _ (omega arith) (omega arith) c.loop-j.invariant
