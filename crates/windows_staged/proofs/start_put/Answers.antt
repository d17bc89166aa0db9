-- `windows_staged::start_put` meets its contract: refused as put is, else stage one. Assumes nothing.
use mathlib.Core.Path.{◌≡◌}
use mathlib.Core.List.{List}
use Prim.Native.Nat.{ℕ, ◌*◌}
use native.Mathlib.Omega.{arith}
use lib.ListN.{length}
use Rattle.units.specs.declared.why.Why.{Why}
use Rattle.units.proofs.Results.{card-handed}
use Rattle.tables.specs.Lens.{Tables, tables}
use Rattle.card.specs.Calls.{put_check}
use Rattle.card.proofs.ChangeWays.{put-good, named_put}
use Rattle.staged.specs.Stages.{fixed}
use Rattle.staged.specs.Stores.{stage_store}
use Rattle.staged.specs.Numbers.{start_put_at}
use Rattle.windows.specs.Windows.{window_tables}
use Rattle.windows.proofs.Whole.{Fits}
use Rattle.windows.proofs.Ways.{named-why, told-reason, verdict-passed, verdict-wrong, verdict-reason, why-fits, why-zero, stores-nothing, stores_both}
use Rattle.windows_staged.proofs.Ways.{begun-whole, begun-long}
use Rattle.windows_staged.proofs.start_put.Goals as goal

abbrev tests : ℕ → ℕ → List ℕ → ℕ → ℕ → Tables → Why
tests B s e reserved n t = put_check B n t s e reserved

pub put_check_in-found-requires : goal.put_check_in-found-requires
put_check_in-found-requires c = c.tidied_bytes-e.ensures.1

pub returns-in_err-verdict : goal.returns-in_err-verdict
unfolding start_put_at
returns-in_err-verdict c =
    let a = c.args in
    let e = c.tidied_bytes-e in
    let d = verdict-wrong _ c.in_err-verdict.ensures in
    rw (card-handed _ _ c.from_residual.ensures.1, ← e.ensures.0, told-reason _ (named-why a.b a.blocks a.head.now a.tail.now (tests a.b a.slot.0 e.result a.p.flags.reserved) (λ (n : ℕ) (t : Tables). named_put a.b n t a.slot.0 e.result a.p.flags.reserved)) c.put_check_in-found.ensures d (verdict-reason _ c.in_err-verdict.ensures))
    (stores-nothing a.b a.blocks a.head.now a.tail.now (tests a.b a.slot.0 e.result a.p.flags.reserved) (λ (n : ℕ) (t : Tables). fixed a.b n t a.slot.0 e.result) (λ (xs : List ℕ). stage_store a.b (length xs) (fixed a.b (length xs) (tables a.b xs) a.slot.0 e.result) 1 xs) c.put_check_in-found.ensures d)

pub overflow_mul-blocks : goal.overflow_mul-blocks
overflow_mul-blocks c =
    let fits : let a = c.args in Fits a.b a.blocks a.head.now a.tail.now = let a = c.args in
    let e = c.tidied_bytes-e in
    why-fits a.b a.blocks a.head.now a.tail.now (tests a.b a.slot.0 e.result a.p.flags.reserved) c.put_check_in-found.ensures (verdict-passed _ c.in_ok-verdict.ensures) in
    omega (arith, fits.width)

pub begin-requires : goal.begin-requires
begin-requires c =
    let passed : let a = c.args in (put_check a.b (a.blocks * a.b) (window_tables a.b a.head.now a.tail.now) a.slot.0 c.tidied_bytes-e.result a.p.flags.reserved).number ≡ 0 = let a = c.args in
    let e = c.tidied_bytes-e in
    why-zero a.b a.blocks a.head.now a.tail.now (tests a.b a.slot.0 e.result a.p.flags.reserved) c.put_check_in-found.ensures (verdict-passed _ c.in_ok-verdict.ensures) in
    let fits : let a = c.args in Fits a.b a.blocks a.head.now a.tail.now = let a = c.args in
    let e = c.tidied_bytes-e in
    why-fits a.b a.blocks a.head.now a.tail.now (tests a.b a.slot.0 e.result a.p.flags.reserved) c.put_check_in-found.ensures (verdict-passed _ c.in_ok-verdict.ensures) in
    let a = c.args in
    let e = c.tidied_bytes-e in
    let q = fits in
    let k = put-good a.b (a.blocks * a.b) (window_tables a.b a.head.now a.tail.now) a.slot.0 e.result a.p.flags.reserved passed in
    (q.head-long, q.tail-long, k.0, k.1)

pub returns : goal.returns
unfolding start_put_at
returns c =
    let passed : let a = c.args in (put_check a.b (a.blocks * a.b) (window_tables a.b a.head.now a.tail.now) a.slot.0 c.tidied_bytes-e.result a.p.flags.reserved).number ≡ 0 = let a = c.args in
    let e = c.tidied_bytes-e in
    why-zero a.b a.blocks a.head.now a.tail.now (tests a.b a.slot.0 e.result a.p.flags.reserved) c.put_check_in-found.ensures (verdict-passed _ c.in_ok-verdict.ensures) in
    let fits : let a = c.args in Fits a.b a.blocks a.head.now a.tail.now = let a = c.args in
    let e = c.tidied_bytes-e in
    why-fits a.b a.blocks a.head.now a.tail.now (tests a.b a.slot.0 e.result a.p.flags.reserved) c.put_check_in-found.ensures (verdict-passed _ c.in_ok-verdict.ensures) in
    let a = c.args in
    let e = c.tidied_bytes-e in
    let q = fits in
    let k = put-good a.b (a.blocks * a.b) (window_tables a.b a.head.now a.tail.now) a.slot.0 e.result a.p.flags.reserved passed in
    let s = c.begin.ensures in
    let l = begun-long a.b a.blocks a.head.now a.tail.now q a.slot.0 e.result k.1 e.ensures.1 s.value s.stage_stored in
    rw (s.value, ← e.ensures.0)
    (stores_both a.b a.blocks a.head.now a.tail.now (tests a.b a.slot.0 e.result a.p.flags.reserved) (λ (n : ℕ) (t : Tables). fixed a.b n t a.slot.0 e.result) (λ (xs : List ℕ). stage_store a.b (length xs) (fixed a.b (length xs) (tables a.b xs) a.slot.0 e.result) 1 xs) c.put_check_in-found.ensures (verdict-passed _ c.in_ok-verdict.ensures)
    (begun-whole a.b a.blocks a.head.now a.tail.now q a.slot.0 e.result k.1 e.ensures.1 s.value s.stage_stored) l.0 l.1)
