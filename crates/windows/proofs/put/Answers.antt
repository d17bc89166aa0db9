-- `windows::put` meets its contract: refused as it was, else changed. Assumes nothing.
use mathlib.Core.List.{List}
use Prim.Native.Nat.{ℕ, ◌*◌}
use native.Mathlib.Omega.{arith}
use lib.ListN.{length}
use Rattle.units.specs.declared.why.Why.{Why}
use Rattle.units.proofs.Results.{card-handed}
use Rattle.tables.specs.Lens.{Tables, tables, with_tables}
use Rattle.card.specs.Calls.{put_check, put_at, changed}
use Rattle.card.proofs.ChangeWays.{put-good, named_put}
use Rattle.windows.specs.Windows.{window_tables}
use Rattle.windows.proofs.Whole.{changed-whole, head-changed, tail-changed}
use Rattle.windows.proofs.Ways.{named-why, told-reason, verdict-passed, verdict-wrong, verdict-reason, why-fits, why-zero, stores-nothing, stores_both}
use Rattle.windows.proofs.put.Goals as goal

abbrev tests : ℕ → ℕ → List ℕ → ℕ → ℕ → Tables → Why
tests B s e reserved n t = put_check B n t s e reserved

pub put_check_in-found-requires : goal.put_check_in-found-requires
put_check_in-found-requires c = c.tidied_bytes-e.ensures.1

pub returns-in_err-verdict : goal.returns-in_err-verdict
unfolding put_at
returns-in_err-verdict c =
    let a = c.args in
    let e = c.tidied_bytes-e in
    let d = verdict-wrong _ c.in_err-verdict.ensures in
    rw (card-handed _ _ c.from_residual.ensures.1, ← e.ensures.0, told-reason _ (named-why a.b a.blocks a.head.now a.tail.now (tests a.b a.slot.0 e.result a.p.flags.reserved) (λ (n : ℕ) (t : Tables). named_put a.b n t a.slot.0 e.result a.p.flags.reserved)) c.put_check_in-found.ensures d (verdict-reason _ c.in_err-verdict.ensures))
    (stores-nothing a.b a.blocks a.head.now a.tail.now (tests a.b a.slot.0 e.result a.p.flags.reserved) (λ (n : ℕ) (t : Tables). tt) (λ (xs : List ℕ). with_tables a.b xs (changed a.b (length xs) (tables a.b xs) a.slot.0 e.result)) c.put_check_in-found.ensures d)

pub overflow_mul-blocks : goal.overflow_mul-blocks
overflow_mul-blocks c = omega (arith, (let a = c.args in let e = c.tidied_bytes-e in why-fits a.b a.blocks a.head.now a.tail.now (tests a.b a.slot.0 e.result a.p.flags.reserved) c.put_check_in-found.ensures (verdict-passed _ c.in_ok-verdict.ensures)).width)

pub change-requires : goal.change-requires
change-requires c =
    let a = c.args in
    let e = c.tidied_bytes-e in
    let q = (let a = c.args in let e = c.tidied_bytes-e in why-fits a.b a.blocks a.head.now a.tail.now (tests a.b a.slot.0 e.result a.p.flags.reserved) c.put_check_in-found.ensures (verdict-passed _ c.in_ok-verdict.ensures)) in
    let k = put-good a.b (a.blocks * a.b) (window_tables a.b a.head.now a.tail.now) a.slot.0 e.result a.p.flags.reserved (let a = c.args in let e = c.tidied_bytes-e in why-zero a.b a.blocks a.head.now a.tail.now (tests a.b a.slot.0 e.result a.p.flags.reserved) c.put_check_in-found.ensures (verdict-passed _ c.in_ok-verdict.ensures)) in
    record { head_len = (q.head-long, q.tail-long, k.0); slot_value = (k.1, e.ensures.1) }

pub returns : goal.returns
unfolding put_at
returns c =
    let a = c.args in
    let e = c.tidied_bytes-e in
    let q = (let a = c.args in let e = c.tidied_bytes-e in why-fits a.b a.blocks a.head.now a.tail.now (tests a.b a.slot.0 e.result a.p.flags.reserved) c.put_check_in-found.ensures (verdict-passed _ c.in_ok-verdict.ensures)) in
    let k = put-good a.b (a.blocks * a.b) (window_tables a.b a.head.now a.tail.now) a.slot.0 e.result a.p.flags.reserved (let a = c.args in let e = c.tidied_bytes-e in why-zero a.b a.blocks a.head.now a.tail.now (tests a.b a.slot.0 e.result a.p.flags.reserved) c.put_check_in-found.ensures (verdict-passed _ c.in_ok-verdict.ensures)) in
    let s = c.change.ensures in
    rw (← e.ensures.0, s.head_after, s.tail_after)
    (stores_both a.b a.blocks a.head.now a.tail.now (tests a.b a.slot.0 e.result a.p.flags.reserved) (λ (n : ℕ) (t : Tables). tt) (λ (xs : List ℕ). with_tables a.b xs (changed a.b (length xs) (tables a.b xs) a.slot.0 e.result)) c.put_check_in-found.ensures (verdict-passed _ c.in_ok-verdict.ensures)
    (changed-whole a.b a.blocks a.head.now a.tail.now q a.slot.0 e.result k.1 e.ensures.1) (head-changed a.b a.blocks a.head.now a.tail.now q a.slot.0 e.result k.1 e.ensures.1) (tail-changed a.b a.blocks a.head.now a.tail.now q a.slot.0 e.result k.1 e.ensures.1))
