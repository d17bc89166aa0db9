-- `windows_staged::start_repair` meets its contract: refused as the reader is, else the state and the zeros. Assumes nothing.
use mathlib.Core.Path.{◌≡◌, refl, sym, ◌∙◌}
use mathlib.Core.List.{List}
use Prim.Native.Nat.{ℕ, ◌*◌}
use native.Mathlib.Omega.{arith}
use lib.ListN.{length}
use Rattle.units.proofs.Chains.{number-of}
use Rattle.units.proofs.Results.{card-handed}
use Rattle.tables.specs.Lens.{tables}
use Rattle.reader.specs.Reader.{reader_check}
use Rattle.reader.proofs.Ways.{named-reader}
use Rattle.staged.specs.Repairs.{repair_of}
use Rattle.staged.specs.Stores.{repair_store}
use Rattle.staged.specs.Numbers.{start_repair_at}
use Rattle.staged.proofs.Ways.{taken-good, repair-is}
use Rattle.windows.specs.Windows.{window_tables}
use Rattle.windows.proofs.Whole.{Fits}
use Rattle.windows.proofs.Ways.{named-why, verdict-passed, why-fits, why-zero, stores-nothing, stores_both}
use Rattle.windows_reader.specs.Parts.{reader_why}
use Rattle.windows_reader.proofs.Ways.{bare-why}
use Rattle.windows_staged.proofs.Ways.{later-refused, zeroed-whole, zeroed-long}
use Rattle.windows_staged.proofs.start_repair.Goals as goal

abbrev new : ℕ → List ℕ → List ℕ
new B xs = repair_store B (length xs) (repair_of B (length xs) (tables B xs)) 1 xs

pub returns-in_err-verdict : goal.returns-in_err-verdict
unfolding start_repair_at
returns-in_err-verdict c =
    let a = c.args in
    let l = later-refused (reader_why a.b a.blocks a.head.now a.tail.now) c.choose_in-found.ensures.0 c.by_number.ensures (bare-why a.b a.blocks a.head.now a.tail.now) (named-why a.b a.blocks a.head.now a.tail.now (reader_check a.b) (named-reader a.b)) c.in_err-verdict.ensures in
    rw (card-handed _ _ c.from_residual.ensures.1, l.1) (stores-nothing a.b a.blocks a.head.now a.tail.now (reader_check a.b) (repair_of a.b) (new a.b) refl l.0)

pub overflow_mul-blocks : goal.overflow_mul-blocks
overflow_mul-blocks c =
    let fits : let a = c.args in Fits a.b a.blocks a.head.now a.tail.now = let a = c.args in why-fits a.b a.blocks a.head.now a.tail.now (reader_check a.b) refl (sym c.choose_in-found.ensures.0 ∙ (sym (number-of c.by_number.ensures) ∙ verdict-passed _ c.in_ok-verdict.ensures)) in
    omega (arith, fits.width)

pub repair_of-good-requires : goal.repair_of-good-requires
repair_of-good-requires c =
    let taken : let a = c.args in (reader_check a.b (a.blocks * a.b) (window_tables a.b a.head.now a.tail.now)).number ≡ 0 = let a = c.args in why-zero a.b a.blocks a.head.now a.tail.now (reader_check a.b) refl (sym c.choose_in-found.ensures.0 ∙ (sym (number-of c.by_number.ensures) ∙ verdict-passed _ c.in_ok-verdict.ensures)) in
    let fits : let a = c.args in Fits a.b a.blocks a.head.now a.tail.now = let a = c.args in why-fits a.b a.blocks a.head.now a.tail.now (reader_check a.b) refl (sym c.choose_in-found.ensures.0 ∙ (sym (number-of c.by_number.ensures) ∙ verdict-passed _ c.in_ok-verdict.ensures)) in
    let a = c.args in
    let q = fits in
    record { len_value = (q.roomy, q.head-long, q.tail-long); tail_value = taken-good a.b (a.blocks * a.b) (window_tables a.b a.head.now a.tail.now) c.choose_in-found.result.back taken (c.choose_in-found.ensures.1 (sym (number-of c.by_number.ensures) ∙ verdict-passed _ c.in_ok-verdict.ensures)) }

pub store_zeros-requires : goal.store_zeros-requires
store_zeros-requires c =
    let fits : let a = c.args in Fits a.b a.blocks a.head.now a.tail.now = let a = c.args in why-fits a.b a.blocks a.head.now a.tail.now (reader_check a.b) refl (sym c.choose_in-found.ensures.0 ∙ (sym (number-of c.by_number.ensures) ∙ verdict-passed _ c.in_ok-verdict.ensures)) in
    let q = fits in (q.room.most, q.head-long, q.tail-long)

pub returns : goal.returns
unfolding start_repair_at
returns c =
    let fits : let a = c.args in Fits a.b a.blocks a.head.now a.tail.now = let a = c.args in why-fits a.b a.blocks a.head.now a.tail.now (reader_check a.b) refl (sym c.choose_in-found.ensures.0 ∙ (sym (number-of c.by_number.ensures) ∙ verdict-passed _ c.in_ok-verdict.ensures)) in
    let a = c.args in
    let q = fits in
    let t = window_tables a.b a.head.now a.tail.now in
    let back = c.choose_in-found.ensures.1 (sym (number-of c.by_number.ensures) ∙ verdict-passed _ c.in_ok-verdict.ensures) in
    let s = c.store_zeros.ensures in
    let l = zeroed-long a.b a.blocks a.head.now a.tail.now q back s in
    rw (c.repair_of-good.ensures, repair-is a.b (a.blocks * a.b) t back)
    (stores_both a.b a.blocks a.head.now a.tail.now (reader_check a.b) (repair_of a.b) (new a.b) refl (sym c.choose_in-found.ensures.0 ∙ (sym (number-of c.by_number.ensures) ∙ verdict-passed _ c.in_ok-verdict.ensures)) (zeroed-whole a.b a.blocks a.head.now a.tail.now q back s) l.0 l.1)
