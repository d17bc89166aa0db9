-- `card::laying::lay_copy` meets its contract. Assumes nothing.
use mathlib.Core.Path.{◌≡◌, ap, ◌∙◌}
use Prim.Native.Nat.{ℕ}
use native.Mathlib.Omega.{arith}
use lib.Seq.{sets}
use Rattle.tables.specs.Lens.{side_of, array_in}
use Rattle.tables.specs.Entries.{zeros}
use Rattle.tables.proofs.Good.{room-ok}
use Rattle.card.proofs.CopyLaws.{copy-laid}
use Rattle.card.proofs.laying.lay_copy.Goals as goal

pub put_zeros-requires : goal.put_zeros-requires
put_zeros-requires c = omega (arith, c.array_in-array.ensures.1, c.requires.1)

pub array_sum-parts-requires : goal.array_sum-parts-requires
array_sum-parts-requires c = omega arith

pub put_header-requires : goal.put_header-requires
put_header-requires c = (c.requires.0, omega arith)

pub returns : goal.returns
unfolding zeros
returns c =
    let zeroed : let a = c.args in c.put_zeros.new.s ≡ sets a.copy.now (array_in a.b (side_of a.back)) (zeros 16384) = let a = c.args in c.put_zeros.ensures ∙ ap (λ (i : ℕ). sets a.copy.now i (zeros 16384)) c.array_in-array.ensures.0 in
    let a = c.args in
    let r = room-ok _ _ c.requires.0 in
    copy-laid a.b a.len (side_of a.back) a.copy.now c.put_zeros.new.s a.guid c.array_sum-parts.result (omega (arith, r.least)) c.requires.1 zeroed c.array_sum-parts.ensures c.put_header.ensures
