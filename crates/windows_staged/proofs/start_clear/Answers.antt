-- `windows_staged::start_clear` meets its contract: refused as clear is, else stage one. Assumes nothing.
use mathlib.Core.Path.{◌≡◌, refl}
use mathlib.Core.List.{List}
use Prim.Native.Nat.{ℕ, ◌*◌}
use native.Mathlib.Omega.{arith}
use lib.ListN.{length}
use Rattle.units.specs.declared.why.Why.{Why}
use Rattle.units.proofs.Results.{card-handed}
use Rattle.tables.specs.Lens.{Tables, tables}
use Rattle.tables.specs.Entries.{zeros}
use Rattle.tables.specs.Check.{slot_check}
use Rattle.checking.proofs.CheckWays.{slot-good, named-slot}
use Rattle.staged.specs.Stages.{fixed}
use Rattle.staged.specs.Stores.{stage_store}
use Rattle.staged.specs.Numbers.{start_clear_at}
use Rattle.windows.specs.Windows.{window_tables}
use Rattle.windows.proofs.Whole.{Fits}
use Rattle.windows.proofs.Ways.{named-why, told-reason, verdict-passed, verdict-wrong, verdict-reason, why-fits, why-zero, stores-nothing, stores_both}
use Rattle.windows_staged.proofs.Ways.{begun-whole, begun-long}
use Rattle.windows_staged.proofs.start_clear.Goals as goal

abbrev tests : ℕ → ℕ → ℕ → Tables → Why
tests B s n t = slot_check B n t s

pub returns-in_err-verdict : goal.returns-in_err-verdict
unfolding start_clear_at
returns-in_err-verdict c =
    let a = c.args in
    let d = verdict-wrong _ c.in_err-verdict.ensures in
    rw (card-handed _ _ c.from_residual.ensures.1, told-reason _ (named-why a.b a.blocks a.head.now a.tail.now (tests a.b a.slot.0) (λ (n : ℕ) (t : Tables). named-slot a.b n t a.slot.0)) c.slot_check_in-found.ensures d (verdict-reason _ c.in_err-verdict.ensures))
    (stores-nothing a.b a.blocks a.head.now a.tail.now (tests a.b a.slot.0) (λ (n : ℕ) (t : Tables). fixed a.b n t a.slot.0 (zeros 128)) (λ (xs : List ℕ). stage_store a.b (length xs) (fixed a.b (length xs) (tables a.b xs) a.slot.0 (zeros 128)) 1 xs) c.slot_check_in-found.ensures d)

pub overflow_mul-blocks : goal.overflow_mul-blocks
overflow_mul-blocks c =
    let fits : let a = c.args in Fits a.b a.blocks a.head.now a.tail.now = let a = c.args in why-fits a.b a.blocks a.head.now a.tail.now (tests a.b a.slot.0) c.slot_check_in-found.ensures (verdict-passed _ c.in_ok-verdict.ensures) in
    omega (arith, fits.width)

pub begin-requires : goal.begin-requires
begin-requires c =
    let passed : let a = c.args in (slot_check a.b (a.blocks * a.b) (window_tables a.b a.head.now a.tail.now) a.slot.0).number ≡ 0 = let a = c.args in why-zero a.b a.blocks a.head.now a.tail.now (tests a.b a.slot.0) c.slot_check_in-found.ensures (verdict-passed _ c.in_ok-verdict.ensures) in
    let fits : let a = c.args in Fits a.b a.blocks a.head.now a.tail.now = let a = c.args in why-fits a.b a.blocks a.head.now a.tail.now (tests a.b a.slot.0) c.slot_check_in-found.ensures (verdict-passed _ c.in_ok-verdict.ensures) in
    let a = c.args in
    let q = fits in
    let k = slot-good a.b (a.blocks * a.b) (window_tables a.b a.head.now a.tail.now) a.slot.0 passed in
    (q.head-long, q.tail-long, k.0, k.1)

pub returns : goal.returns
unfolding start_clear_at zeros
returns c =
    let passed : let a = c.args in (slot_check a.b (a.blocks * a.b) (window_tables a.b a.head.now a.tail.now) a.slot.0).number ≡ 0 = let a = c.args in why-zero a.b a.blocks a.head.now a.tail.now (tests a.b a.slot.0) c.slot_check_in-found.ensures (verdict-passed _ c.in_ok-verdict.ensures) in
    let fits : let a = c.args in Fits a.b a.blocks a.head.now a.tail.now = let a = c.args in why-fits a.b a.blocks a.head.now a.tail.now (tests a.b a.slot.0) c.slot_check_in-found.ensures (verdict-passed _ c.in_ok-verdict.ensures) in
    let a = c.args in
    let q = fits in
    let k = slot-good a.b (a.blocks * a.b) (window_tables a.b a.head.now a.tail.now) a.slot.0 passed in
    let s = c.begin.ensures in
    let l = begun-long a.b a.blocks a.head.now a.tail.now q a.slot.0 (zeros 128) k.1 refl s.value s.stage_stored in
    rw (s.value)
    (stores_both a.b a.blocks a.head.now a.tail.now (tests a.b a.slot.0) (λ (n : ℕ) (t : Tables). fixed a.b n t a.slot.0 (zeros 128)) (λ (xs : List ℕ). stage_store a.b (length xs) (fixed a.b (length xs) (tables a.b xs) a.slot.0 (zeros 128)) 1 xs) c.slot_check_in-found.ensures (verdict-passed _ c.in_ok-verdict.ensures)
    (begun-whole a.b a.blocks a.head.now a.tail.now q a.slot.0 (zeros 128) k.1 refl s.value s.stage_stored) l.0 l.1)
