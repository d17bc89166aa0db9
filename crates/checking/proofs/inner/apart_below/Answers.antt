-- `checking::inner::apart_below` meets its contract. The invariant: entry k shares no block with those that were passed. Assumes nothing.
use mathlib.Core.Path.{◌≡◌, sym, ap, ◌∙◌}
use mathlib.Core.Bool.{Bool, true, false, not}
use mathlib.Core.List.{List}
use Prim.Native.Nat.{ℕ, ◌+◌, ◌*◌, ◌<◌}
use native.Mathlib.Omega.{arith}
use Rattle.units.specs.Bytes.{part, num, all_zero}
use Rattle.tables.specs.Entries.{entry, used, first_of, last_of, overlaps}
use Rattle.tables.proofs.Orders.{all_of, all-fails, all_more, all_end, all_start}
use Rattle.tables.proofs.EntryLaws.{entry_at, own-used}
use Rattle.checking.proofs.CheckWays.{overlaps-unused, own_first, own-last}
use Rattle.checking.proofs.inner.apart_below.Goals as goal

pub returns-then-nil_type_at : goal.returns-then-nil_type_at
returns-then-nil_type_at c =
    let a = c.args in
    let z = c.nil_type_at.ensures ∙ ap (λ (o : ℕ). all_zero (part a.img.now o 16)) c.entry_place-own.ensures in
    sym (all_of a.k _ (λ j h. ap not (overlaps-unused _ _ (own-used a.img.now a.at.0 a.k (omega arith) z ∙ ap not c.if-nil_type_at.true))))

pub loop-j-init : goal.loop-j-init
loop-j-init c = all_start _

-- whether entry j shares a block with entry k, as the code finds it
found : {r z : Bool} (xs : List ℕ) (at k j : ℕ) {o p f l : ℕ} → k < 128 → j < 128 → o ≡ at + 128 * k → p ≡ at + 128 * j
    → z ≡ all_zero (part xs o 16) → z ≡ false → f ≡ num xs (o + 32) 8 → l ≡ num xs (o + 40) 8
    → ((e : List ℕ) → used e ≡ true → f ≡ first_of e → l ≡ last_of e → r ≡ overlaps e (part xs p 128))
    → r ≡ overlaps (entry (part xs at 16384) k) (entry (part xs at 16384) j)
found xs at k j h i q d z n f l t =
    t (entry (part xs at 16384) k) (own-used xs at k h (z ∙ ap (λ (o : ℕ). all_zero (part xs o 16)) q) ∙ ap not n)
    (own_first xs at k h (f ∙ ap (λ (o : ℕ). num xs (o + 32) 8) q))
    (own-last xs at k h (l ∙ ap (λ (o : ℕ). num xs (o + 40) 8) q))
    ∙ ap (overlaps (entry (part xs at 16384) k)) (sym (entry_at xs at j i d))

pub returns-then-overlaps : goal.returns-then-overlaps
returns-then-overlaps c =
    let j = c.loop-j.j in
    sym (all-fails _ _ j (omega arith) (ap not (sym (found c.args.img.now c.args.at.0 c.args.k c.loop-j.j (omega arith) (omega arith) c.entry_place-own.ensures c.entry_place.ensures c.nil_type_at.ensures c.if-nil_type_at.false c.first_at-first.ensures c.last_at-last.ensures c.overlaps.ensures) ∙ c.if-overlaps.true)))

pub loop-j-preserved : goal.loop-j-preserved
loop-j-preserved c =
    let l = c.loop-j in
    all_more l.j _ l.invariant (ap not (sym (found c.args.img.now c.args.at.0 c.args.k c.loop-j.j (omega arith) (omega arith) c.entry_place-own.ensures c.entry_place.ensures c.nil_type_at.ensures c.if-nil_type_at.false c.first_at-first.ensures c.last_at-last.ensures c.overlaps.ensures) ∙ c.if-overlaps.false))

pub returns : goal.returns
returns c = all_end c.loop-j.j _ _ (omega arith) (omega arith) c.loop-j.invariant
