-- `checking::inner::first_differing` meets its contract. The invariant: the slots that were passed do not differ. Assumes nothing.
use mathlib.Core.Path.{◌≡◌, sym, ap, ◌∙◌}
use mathlib.Core.Bool.{Bool}
use mathlib.Core.List.{List}
use Prim.Native.Nat.{ℕ, ◌+◌, ◌*◌, ◌<◌}
use native.Mathlib.Omega.{arith}
use borrow.Author.Tests.{not-true, not-false}
use Rattle.units.specs.Bytes.{part, same}
use Rattle.tables.specs.Lens.{Front, Back, copy_in}
use Rattle.tables.specs.Entries.{entry}
use Rattle.tables.proofs.EntryLaws.{entry_at}
use Rattle.tables.proofs.Copies.{array_of}
use Rattle.tables.proofs.Differ.{differ-more, differ-first, differ-none}
use Rattle.std.specs.Prelude.{not}
use Rattle.checking.proofs.inner.first_differing.Goals as goal

pub loop-k-init : goal.loop-k-init
loop-k-init c i h = absurd (omega arith)

pub same_in-requires : goal.same_in-requires
same_in-requires c =
    let s = c in
    let p = s.requires in
    (omega (arith, c.entry_place-one.ensures, s.array_in-array.ensures.1, p.1), omega (arith, c.entry_place-two.ensures, s.array_in-other.ensures.1, p.2))

-- whether slot k differs, as the code finds it
told : {r : Bool} (b k : ℕ) (f g : List ℕ) (at to : ℕ) {p q : ℕ} → k < 128 → part f at 16384 ≡ (copy_in b Front f).array → part g to 16384 ≡ (copy_in b Back g).array
    → p ≡ at + 128 * k → q ≡ to + 128 * k → r ≡ same (part f p 128) (part g q 128)
    → r ≡ same (entry (copy_in b Front f).array k) (entry (copy_in b Back g).array k)
told b k f g at to h u v d e t =
    let one = ap (λ (l : List ℕ). entry l k) (sym u) ∙ entry_at f at k h d in
    let two = ap (λ (l : List ℕ). entry l k) (sym v) ∙ entry_at g to k h e in
    rw (one, two) t

pub returns-then-not-same_in : goal.returns-then-not-same_in
returns-then-not-same_in c =
    let a = c.args in
    let x : List ℕ = (copy_in a.b Front a.front.now).array in
    let y : List ℕ = (copy_in a.b Back a.back.now).array in
    c.slot_at.ensures ∙ ap (λ (k : ℕ). record { 0 = k + 1 }) (differ-first x y c.loop-k.k (omega arith) c.loop-k.invariant (sym (told a.b c.loop-k.k a.front.now a.back.now c.array_in-array.result.0 c.array_in-other.result.0 (omega arith) (array_of a.b Front a.front.now c.array_in-array.ensures.0) (array_of a.b Back a.back.now c.array_in-other.ensures.0) c.entry_place-one.ensures c.entry_place-two.ensures c.same_in.ensures) ∙ not-true _ (ap not c.if-not-same_in.true)))

pub loop-k-preserved : goal.loop-k-preserved
loop-k-preserved c =
    let a = c.args in
    let x : List ℕ = (copy_in a.b Front a.front.now).array in
    let y : List ℕ = (copy_in a.b Back a.back.now).array in
    differ-more x y c.loop-k.k c.loop-k.invariant (sym (told a.b c.loop-k.k a.front.now a.back.now c.array_in-array.result.0 c.array_in-other.result.0 (omega arith) (array_of a.b Front a.front.now c.array_in-array.ensures.0) (array_of a.b Back a.back.now c.array_in-other.ensures.0) c.entry_place-one.ensures c.entry_place-two.ensures c.same_in.ensures) ∙ not-false _ (ap not c.if-not-same_in.false))

pub returns : goal.returns
returns c =
    let a = c.args in
    let x : List ℕ = (copy_in a.b Front a.front.now).array in
    let y : List ℕ = (copy_in a.b Back a.back.now).array in
    c.slot_at-2.ensures ∙ ap (λ (k : ℕ). record { 0 = k + 1 }) (differ-none x y c.loop-k.k (omega arith) c.loop-k.invariant)
