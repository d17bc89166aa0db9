-- `windows::clear` meets its contract: refused as it was, else changed. Assumes nothing.
use mathlib.Core.Path.{refl}
use mathlib.Core.List.{List}
use Prim.Native.Nat.{ℕ, ◌*◌}
use native.Mathlib.Omega.{arith}
use lib.ListN.{length}
use Rattle.units.specs.declared.why.Why.{Why}
use Rattle.units.proofs.Results.{card-handed}
use Rattle.tables.specs.Lens.{Tables, tables, with_tables}
use Rattle.tables.specs.Entries.{zeros}
use Rattle.tables.specs.Check.{slot_check}
use Rattle.checking.proofs.CheckWays.{slot-good, named-slot}
use Rattle.card.specs.Calls.{clear_at, changed}
use Rattle.windows.specs.Windows.{window_tables}
use Rattle.windows.proofs.Whole.{changed-whole, head-changed, tail-changed}
use Rattle.windows.proofs.Ways.{named-why, told-reason, verdict-passed, verdict-wrong, verdict-reason, why-fits, why-zero, stores-nothing, stores_both}
use Rattle.windows.proofs.clear.Goals as goal

abbrev tests : ℕ → ℕ → ℕ → Tables → Why
tests B s n t = slot_check B n t s

pub returns-in_err-verdict : goal.returns-in_err-verdict
unfolding clear_at
returns-in_err-verdict c =
    let a = c.args in
    let d = verdict-wrong _ c.in_err-verdict.ensures in
    rw (card-handed _ _ c.from_residual.ensures.1, told-reason _ (named-why a.b a.blocks a.head.now a.tail.now (tests a.b a.slot.0) (λ (n : ℕ) (t : Tables). named-slot a.b n t a.slot.0)) c.slot_check_in-found.ensures d (verdict-reason _ c.in_err-verdict.ensures))
    (stores-nothing a.b a.blocks a.head.now a.tail.now (tests a.b a.slot.0) (λ (n : ℕ) (t : Tables). tt) (λ (xs : List ℕ). with_tables a.b xs (changed a.b (length xs) (tables a.b xs) a.slot.0 (zeros 128))) c.slot_check_in-found.ensures d)

pub overflow_mul-blocks : goal.overflow_mul-blocks
overflow_mul-blocks c = omega (arith, (let a = c.args in why-fits a.b a.blocks a.head.now a.tail.now (tests a.b a.slot.0) c.slot_check_in-found.ensures (verdict-passed _ c.in_ok-verdict.ensures)).width)

pub change-requires : goal.change-requires
change-requires c =
    let a = c.args in
    let q = (let a = c.args in why-fits a.b a.blocks a.head.now a.tail.now (tests a.b a.slot.0) c.slot_check_in-found.ensures (verdict-passed _ c.in_ok-verdict.ensures)) in
    let k = slot-good a.b (a.blocks * a.b) (window_tables a.b a.head.now a.tail.now) a.slot.0 (let a = c.args in why-zero a.b a.blocks a.head.now a.tail.now (tests a.b a.slot.0) c.slot_check_in-found.ensures (verdict-passed _ c.in_ok-verdict.ensures)) in
    record { head_len = (q.head-long, q.tail-long, k.0); slot_value = (k.1, refl) }

pub returns : goal.returns
unfolding clear_at zeros
returns c =
    let a = c.args in
    let q = (let a = c.args in why-fits a.b a.blocks a.head.now a.tail.now (tests a.b a.slot.0) c.slot_check_in-found.ensures (verdict-passed _ c.in_ok-verdict.ensures)) in
    let k = slot-good a.b (a.blocks * a.b) (window_tables a.b a.head.now a.tail.now) a.slot.0 (let a = c.args in why-zero a.b a.blocks a.head.now a.tail.now (tests a.b a.slot.0) c.slot_check_in-found.ensures (verdict-passed _ c.in_ok-verdict.ensures)) in
    let s = c.change.ensures in
    rw (s.head_after, s.tail_after)
    (stores_both a.b a.blocks a.head.now a.tail.now (tests a.b a.slot.0) (λ (n : ℕ) (t : Tables). tt) (λ (xs : List ℕ). with_tables a.b xs (changed a.b (length xs) (tables a.b xs) a.slot.0 (zeros 128))) c.slot_check_in-found.ensures (verdict-passed _ c.in_ok-verdict.ensures)
    (changed-whole a.b a.blocks a.head.now a.tail.now q a.slot.0 (zeros 128) k.1 refl) (head-changed a.b a.blocks a.head.now a.tail.now q a.slot.0 (zeros 128) k.1 refl) (tail-changed a.b a.blocks a.head.now a.tail.now q a.slot.0 (zeros 128) k.1 refl))
