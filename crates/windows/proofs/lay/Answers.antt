-- `windows::lay` meets its contract: refused as it was, else laid. Assumes nothing.
use mathlib.Core.Path.{◌≡◌, refl, sym, ◌∙◌}
use mathlib.Core.List.{List}
use Prim.Native.Nat.{ℕ, ◌*◌}
use native.Mathlib.Omega.{arith}
use lib.ListN.{length}
use Rattle.units.specs.declared.why.Why.{Why}
use Rattle.units.specs.Guids.{guid_bytes}
use Rattle.units.proofs.Chains.{found-bare, else-none, number-of}
use Rattle.units.proofs.Results.{card-handed}
use Rattle.tables.specs.Lens.{Tables}
use Rattle.tables.specs.Check.{room_check}
use Rattle.checking.proofs.CheckWays.{named-room}
use Rattle.card.specs.Calls.{lay_at, laid_image}
use Rattle.windows.specs.Windows.{window_check}
use Rattle.windows.proofs.Whole.{fits_by, laid-whole, head-laid, tail-laid}
use Rattle.windows.proofs.Ways.{bare-window, named-why, told-reason, verdict-passed, verdict-wrong, verdict-reason, stores-nothing, stores_both}
use Rattle.windows.proofs.lay.Goals as goal

abbrev room : ℕ → ℕ → Tables → Why
room B n t = room_check B n

pub returns-in_err-verdict : goal.returns-in_err-verdict
unfolding lay_at
returns-in_err-verdict c =
    let a = c.args in
    let e = c.by_number-refusal.ensures in
    let wrong = verdict-wrong _ c.in_err-verdict.ensures in
    let d : c.window_check-wrong.result ≡ 0 → ⊥ = λ z. wrong (number-of e ∙ z) in
    let w = found-bare (window_check a.b a.blocks (length a.head.now) (length a.tail.now)) _ (bare-window a.b a.blocks (length a.head.now) (length a.tail.now)) c.window_check-wrong.ensures d in
    let n = named-why a.b a.blocks a.head.now a.tail.now (room a.b) (λ (m : ℕ) (t : Tables). named-room a.b m) in
    rw (card-handed _ _ c.from_residual.ensures.1, told-reason _ n (e ∙ w) wrong (verdict-reason _ c.in_err-verdict.ensures), e)
    (stores-nothing a.b a.blocks a.head.now a.tail.now (room a.b) (λ (m : ℕ) (t : Tables). tt) (λ (xs : List ℕ). laid_image a.b (length xs) xs (guid_bytes a.guid)) w d)

pub overflow_mul-blocks : goal.overflow_mul-blocks
overflow_mul-blocks c = omega (arith, (let a = c.args in fits_by a.b a.blocks a.head.now a.tail.now (sym c.window_check-wrong.ensures ∙ sym (number-of c.by_number-refusal.ensures) ∙ verdict-passed _ c.in_ok-verdict.ensures)).width)

pub lay_in-requires : goal.lay_in-requires
lay_in-requires c = let q = (let a = c.args in fits_by a.b a.blocks a.head.now a.tail.now (sym c.window_check-wrong.ensures ∙ sym (number-of c.by_number-refusal.ensures) ∙ verdict-passed _ c.in_ok-verdict.ensures)) in (q.roomy, q.head-long, q.tail-long)

pub returns : goal.returns
unfolding lay_at
returns c =
    let a = c.args in
    let q = (let a = c.args in fits_by a.b a.blocks a.head.now a.tail.now (sym c.window_check-wrong.ensures ∙ sym (number-of c.by_number-refusal.ensures) ∙ verdict-passed _ c.in_ok-verdict.ensures)) in
    let g : List ℕ = guid_bytes a.guid in
    let e = c.lay_in.ensures in
    let z = else-none (window_check a.b a.blocks (length a.head.now) (length a.tail.now)) (room_check a.b (a.blocks * a.b)) (sym c.window_check-wrong.ensures ∙ sym (number-of c.by_number-refusal.ensures) ∙ verdict-passed _ c.in_ok-verdict.ensures) q.roomy in
    rw (e.head_after, e.tail_after)
    (stores_both a.b a.blocks a.head.now a.tail.now (room a.b) (λ (m : ℕ) (t : Tables). tt) (λ (xs : List ℕ). laid_image a.b (length xs) xs g) refl z
    (laid-whole a.b a.blocks a.head.now a.tail.now q g) (head-laid a.b a.blocks a.head.now a.tail.now q g) (tail-laid a.b a.blocks a.head.now a.tail.now q g))
