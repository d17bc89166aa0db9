-- `card::payload::place_in` meets its contract: one law for each way out. Assumes nothing.
use mathlib.Core.Path.{◌≡◌, sym, ap, ◌∙◌}
use mathlib.Core.Bool.{true, false, not}
use Prim.Native.Nat.{ℕ, ◌+◌, ◌*◌, ◌-◌, ◌≤◌}
use native.Mathlib.Omega.{arith}
use borrow.Author.Tests.{le-leb, not-true}
use Rattle.units.specs.declared.BytePlace.{BytePlace}
use Rattle.units.specs.Places.{inside}
use Rattle.card.proofs.PayWays.{Spanned, span-bytes, span-order, span_last, past_end, before-end}
use Rattle.card.proofs.payload.place_in.Goals as goal

pub place-start-requires : goal.place-start-requires
place-start-requires c =
    let spanned : let a = c.args in Spanned a.b a.len a.span.first.0 a.span.last.0 = record { order = c.requires.1; end = c.requires.2 } in
    let ends_of : let a = c.args in
    ((a.span.last.0 + 1 - a.span.first.0) * a.b ≡ (a.span.last.0 + 1) * a.b - a.span.first.0 * a.b) × (a.span.first.0 * a.b ≤ (a.span.last.0 + 1) * a.b) × ((a.span.last.0 + 1) * a.b ≤ a.len) = let a = c.args in (span-bytes a.b a.len _ _ (spanned), span-order a.b a.len _ _ (spanned), c.requires.2) in
    let e = ends_of in omega (arith, e.1, e.2)

pub overflow_add-last : goal.overflow_add-last
overflow_add-last c =
    let spanned : let a = c.args in Spanned a.b a.len a.span.first.0 a.span.last.0 = record { order = c.requires.1; end = c.requires.2 } in
    let a = c.args in omega (arith, span_last a.b a.len a.span.first.0 a.span.last.0 c.requires.0 spanned)

pub place-end-requires : goal.place-end-requires
place-end-requires c =
    let spanned : let a = c.args in Spanned a.b a.len a.span.first.0 a.span.last.0 = record { order = c.requires.1; end = c.requires.2 } in
    let ends_of : let a = c.args in
    ((a.span.last.0 + 1 - a.span.first.0) * a.b ≡ (a.span.last.0 + 1) * a.b - a.span.first.0 * a.b) × (a.span.first.0 * a.b ≤ (a.span.last.0 + 1) * a.b) × ((a.span.last.0 + 1) * a.b ≤ a.len) = let a = c.args in (span-bytes a.b a.len _ _ (spanned), span-order a.b a.len _ _ (spanned), c.requires.2) in
    omega (arith, ends_of.2)

pub overflow_sub-room : goal.overflow_sub-room
overflow_sub-room c =
    let spanned : let a = c.args in Spanned a.b a.len a.span.first.0 a.span.last.0 = record { order = c.requires.1; end = c.requires.2 } in
    let end_is : let a = c.args in c.place-end.result.0 ≡ (a.span.last.0 + 1) * a.b = ap (λ (p : BytePlace). p.0) c.place-end.ensures in
    let start_is : let a = c.args in c.place-start.result.0 ≡ a.span.first.0 * a.b = ap (λ (p : BytePlace). p.0) c.place-start.ensures in
    let ends_of : let a = c.args in
    ((a.span.last.0 + 1 - a.span.first.0) * a.b ≡ (a.span.last.0 + 1) * a.b - a.span.first.0 * a.b) × (a.span.first.0 * a.b ≤ (a.span.last.0 + 1) * a.b) × ((a.span.last.0 + 1) * a.b ≤ a.len) = let a = c.args in (span-bytes a.b a.len _ _ (spanned), span-order a.b a.len _ _ (spanned), c.requires.2) in
    omega (arith, start_is, end_is, ends_of.1)

pub returns-then-room-n : goal.returns-then-room-n
returns-then-room-n c =
    let spanned : let a = c.args in Spanned a.b a.len a.span.first.0 a.span.last.0 = record { order = c.requires.1; end = c.requires.2 } in
    let end_is : let a = c.args in c.place-end.result.0 ≡ (a.span.last.0 + 1) * a.b = ap (λ (p : BytePlace). p.0) c.place-end.ensures in
    let start_is : let a = c.args in c.place-start.result.0 ≡ a.span.first.0 * a.b = ap (λ (p : BytePlace). p.0) c.place-start.ensures in
    let ends_of : let a = c.args in
    ((a.span.last.0 + 1 - a.span.first.0) * a.b ≡ (a.span.last.0 + 1) * a.b - a.span.first.0 * a.b) × (a.span.first.0 * a.b ≤ (a.span.last.0 + 1) * a.b) × ((a.span.last.0 + 1) * a.b ≤ a.len) = let a = c.args in (span-bytes a.b a.len _ _ (spanned), span-order a.b a.len _ _ (spanned), c.requires.2) in
    let a = c.args in
    let e = ends_of in
    past_end ((a.span.last.0 + 1 - a.span.first.0) * a.b) a.place.0 a.n _ (omega (arith, start_is, end_is, e.0, e.1, c.if-room-n.true))

pub returns-then-room-n-2 : goal.returns-then-room-n-2
returns-then-room-n-2 c =
    let spanned : let a = c.args in Spanned a.b a.len a.span.first.0 a.span.last.0 = record { order = c.requires.1; end = c.requires.2 } in
    let end_is : let a = c.args in c.place-end.result.0 ≡ (a.span.last.0 + 1) * a.b = ap (λ (p : BytePlace). p.0) c.place-end.ensures in
    let start_is : let a = c.args in c.place-start.result.0 ≡ a.span.first.0 * a.b = ap (λ (p : BytePlace). p.0) c.place-start.ensures in
    let ends_of : let a = c.args in
    ((a.span.last.0 + 1 - a.span.first.0) * a.b ≡ (a.span.last.0 + 1) * a.b - a.span.first.0 * a.b) × (a.span.first.0 * a.b ≤ (a.span.last.0 + 1) * a.b) × ((a.span.last.0 + 1) * a.b ≤ a.len) = let a = c.args in (span-bytes a.b a.len _ _ (spanned), span-order a.b a.len _ _ (spanned), c.requires.2) in
    let a = c.args in
    let e = ends_of in
    past_end ((a.span.last.0 + 1 - a.span.first.0) * a.b) a.place.0 a.n _ (omega (arith, start_is, end_is, e.0, e.1, c.if-room-n.false, c.if-room-n-2.true))

pub overflow_add-at : goal.overflow_add-at
overflow_add-at c =
    let spanned : let a = c.args in Spanned a.b a.len a.span.first.0 a.span.last.0 = record { order = c.requires.1; end = c.requires.2 } in
    let end_is : let a = c.args in c.place-end.result.0 ≡ (a.span.last.0 + 1) * a.b = ap (λ (p : BytePlace). p.0) c.place-end.ensures in
    let start_is : let a = c.args in c.place-start.result.0 ≡ a.span.first.0 * a.b = ap (λ (p : BytePlace). p.0) c.place-start.ensures in
    let ends_of : let a = c.args in
    ((a.span.last.0 + 1 - a.span.first.0) * a.b ≡ (a.span.last.0 + 1) * a.b - a.span.first.0 * a.b) × (a.span.first.0 * a.b ≤ (a.span.last.0 + 1) * a.b) × ((a.span.last.0 + 1) * a.b ≤ a.len) = let a = c.args in (span-bytes a.b a.len _ _ (spanned), span-order a.b a.len _ _ (spanned), c.requires.2) in
    let e = ends_of in omega (arith, start_is, end_is, e.1, e.2, c.if-room-n.false, c.if-room-n-2.false)

pub returns-then-not-is_inside : goal.returns-then-not-is_inside
unfolding inside
returns-then-not-is_inside c =
    let spanned : let a = c.args in Spanned a.b a.len a.span.first.0 a.span.last.0 = record { order = c.requires.1; end = c.requires.2 } in
    let end_is : let a = c.args in c.place-end.result.0 ≡ (a.span.last.0 + 1) * a.b = ap (λ (p : BytePlace). p.0) c.place-end.ensures in
    let start_is : let a = c.args in c.place-start.result.0 ≡ a.span.first.0 * a.b = ap (λ (p : BytePlace). p.0) c.place-start.ensures in
    let ends_of : let a = c.args in
    ((a.span.last.0 + 1 - a.span.first.0) * a.b ≡ (a.span.last.0 + 1) * a.b - a.span.first.0 * a.b) × (a.span.first.0 * a.b ≤ (a.span.last.0 + 1) * a.b) × ((a.span.last.0 + 1) * a.b ≤ a.len) = let a = c.args in (span-bytes a.b a.len _ _ (spanned), span-order a.b a.len _ _ (spanned), c.requires.2) in
    let before : let a = c.args in (a.place.0 + a.n ≤ (a.span.last.0 + 1 - a.span.first.0) * a.b) × (c.place-start.result.0 + a.place.0 + a.n ≤ a.len) = let e = ends_of in
    (omega (arith, start_is, end_is, e.0, e.1, c.if-room-n.false, c.if-room-n-2.false), omega (arith, start_is, end_is, e.1, e.2, c.if-room-n.false, c.if-room-n-2.false)) in
    let a = c.args in
    absurd (unlike (sym (not-true _ (ap not c.if-not-is_inside.true)) ∙ c.is_inside.ensures ∙ le-leb (c.place-start.result.0 + a.place.0 + a.n) a.len before.1))
  where
    unlike : false ≡ true → ⊥
    unlike e = let z : ◌≡◌ {A = ℕ} 0 1 = cc in omega arith

pub returns : goal.returns
returns c =
    let spanned : let a = c.args in Spanned a.b a.len a.span.first.0 a.span.last.0 = record { order = c.requires.1; end = c.requires.2 } in
    let end_is : let a = c.args in c.place-end.result.0 ≡ (a.span.last.0 + 1) * a.b = ap (λ (p : BytePlace). p.0) c.place-end.ensures in
    let start_is : let a = c.args in c.place-start.result.0 ≡ a.span.first.0 * a.b = ap (λ (p : BytePlace). p.0) c.place-start.ensures in
    let ends_of : let a = c.args in
    ((a.span.last.0 + 1 - a.span.first.0) * a.b ≡ (a.span.last.0 + 1) * a.b - a.span.first.0 * a.b) × (a.span.first.0 * a.b ≤ (a.span.last.0 + 1) * a.b) × ((a.span.last.0 + 1) * a.b ≤ a.len) = let a = c.args in (span-bytes a.b a.len _ _ (spanned), span-order a.b a.len _ _ (spanned), c.requires.2) in
    let before : let a = c.args in (a.place.0 + a.n ≤ (a.span.last.0 + 1 - a.span.first.0) * a.b) × (c.place-start.result.0 + a.place.0 + a.n ≤ a.len) = let e = ends_of in
    (omega (arith, start_is, end_is, e.0, e.1, c.if-room-n.false, c.if-room-n-2.false), omega (arith, start_is, end_is, e.1, e.2, c.if-room-n.false, c.if-room-n-2.false)) in
    let a = c.args in
    before-end ((a.span.last.0 + 1 - a.span.first.0) * a.b) a.place.0 a.n _ before.0 (ap (λ (i : ℕ). record { 0 = i + a.place.0 }) start_is)
