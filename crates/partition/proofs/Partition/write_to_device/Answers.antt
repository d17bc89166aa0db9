-- `partition::Partition::write_to_device` meets its contract: one law for each way out. What comes back in place of the lent part is a store. Assumes nothing.
use mathlib.Core.Path.{sym, ap, ◌∙◌}
use mathlib.Core.List.{List, ◌++◌}
use Prim.Native.Nat.{ℕ, ◌+◌, ◌-◌, ◌≤◌}
use native.Mathlib.Omega.{arith}
use lib.ListN.{length, take, drop}
use Rattle.units.proofs.Results.{ends-handed}
use Rattle.units.specs.Answer.{ends}
use Rattle.units.specs.Meanings.{means}
use Rattle.units.proofs.Lists.{length-lent, lent_back}
use Rattle.units.proofs.Laws.{inside-yes}
use Rattle.partition.specs.Format.{entry_bytes, fitted}
use Rattle.partition.proofs.Laws.{length-fitted}
use Rattle.partition.proofs.Ways.{device-tells, entry-tells, stored_refused, stored-outside, stored-inside}
use Rattle.std.specs.Prelude.{not}
use Rattle.partition.proofs.Partition.write_to_device.Goals as goal

pub returns-then-not-is_inside : goal.returns-then-not-is_inside
returns-then-not-is_inside c =
    let e = sym c.in_ok-at.ensures in
    ends (stored-outside _ _ e _ (device-tells _ _ _ _ _ _ (entry-tells _ _ _ _ _ _ e).1).filled c.is_inside.ensures (ap not c.if-not-is_inside.true))

pub overflow_add-a : goal.overflow_add-a
overflow_add-a c = let p = inside-yes _ _ _ c.is_inside.ensures (ap not c.if-not-is_inside.false) in omega arith

pub slice_bounds-put_fitted-end : goal.slice_bounds-put_fitted-end
slice_bounds-put_fitted-end c = let p = inside-yes _ _ _ c.is_inside.ensures (ap not c.if-not-is_inside.false) in omega arith

pub put_fitted-requires : goal.put_fitted-requires
put_fitted-requires c = (entry-tells _ _ _ _ _ _ (sym c.in_ok-at.ensures)).0

pub returns-in_err-at : goal.returns-in_err-at
returns-in_err-at c = ends-handed _ _ c.from_residual.ensures.1 (stored_refused _ _ _ (sym c.in_err-at.ensures))

pub returns : goal.returns
returns c =
    let a = c.args in
    let xs : List ℕ = a.img.now in
    let n : ℕ = a.entry_size in
    let at : ℕ = c.in_ok-at.at.0 in
    let vs : List ℕ = fitted n (entry_bytes a.self) in
    let e = sym c.in_ok-at.ensures in
    let h : at + n ≤ length xs = inside-yes _ _ _ c.is_inside.ensures (ap not c.if-not-is_inside.false) in
    let y = c.put_fitted.ensures ∙ ap (λ (k : ℕ). fitted k (entry_bytes a.self)) (length-lent xs at n h) in
    ends
    (stored-inside _ _ e _ (device-tells _ _ _ _ _ _ (entry-tells _ _ _ _ _ _ e).1).filled c.is_inside.ensures (ap not c.if-not-is_inside.false)
    (ap (λ (ys : List ℕ). take at xs ++ (ys ++ drop (at + n - at) (drop at xs))) y ∙ lent_back xs vs at n h (length-fitted n (entry_bytes a.self))))
