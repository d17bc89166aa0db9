-- `listing::inner::nth_in` meets its contract. The invariant: i present slots are passed, and those after the last of them are left. Assumes nothing.
use mathlib.Core.Path.{◌≡◌, refl, sym, ap, ◌∙◌}
use Prim.Native.Nat.{ℕ}
use native.Mathlib.Omega.{arith}
use lib.ListN.{drop, take}
use Rattle.partition.specs.Array.{present_from}
use Rattle.partition.specs.Meanings.{slots_of}
use Rattle.listing.proofs.Ways.{filled, passed-one, none_left}
use Rattle.listing.proofs.inner.nth_in.Goals as goal

pub loop-i-init : goal.loop-i-init
loop-i-init c = refl

pub next_present-requires : goal.next_present-requires
next_present-requires c = filled _ c.requires

pub returns-in_err-after : goal.returns-in_err-after
returns-in_err-after c =
    let a = c.args in
    let l = c.loop-i in
    ap slots_of c.from_residual.ensures ∙ none_left a.array.now l.after.0 (present_from a.array.now 0 0 128) l._i a.k (omega arith) c.in_err-after.ensures l.invariant

pub loop-i-preserved : goal.loop-i-preserved
loop-i-preserved c =
    let a = c.args in
    let l = c.loop-i in
    passed-one a.array.now l.after.0 (present_from a.array.now 0 0 128) l._i c.in_ok-after.ensures l.invariant

pub next_present-requires-2 : goal.next_present-requires-2
next_present-requires-2 c = filled _ c.requires

pub returns : goal.returns
returns c =
    let a = c.args in
    let l = c.loop-i in
    let e : l._i ≡ a.k = omega arith in
    c.next_present-2.ensures ∙ ap (take 1) (sym l.invariant) ∙ ap (λ (i : ℕ). take 1 (drop i (present_from a.array.now 0 0 128))) e
