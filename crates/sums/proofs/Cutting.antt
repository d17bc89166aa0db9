-- The sum of bytes that are cut: one piece more, and what is left behind it. Assumes nothing.
use Rattle.std.proofs.Common.{◌≡◌, ℕ, ◌-◌, List, length, take, drop, sym, ap, ◌∙◌}
use lib.ListN.{take-append-drop}
use Rattle.console.proofs.Streams.{slice-end}
use Rattle.crc32.specs.Crc.{crc_from}
use Rattle.crc32.specs.Register.{crc-from-append}

-- a sum that goes on over the first n bytes, and then over what is left, is the sum that goes on over all
pub cut-next : (s : List ℕ) (n x : ℕ) {y : ℕ} → y ≡ crc_from x (take n s) → crc_from y (take (length s - n) (drop n s)) ≡ crc_from x s
cut-next s n x e =
    ap (λ (z : ℕ). crc_from z (take (length s - n) (drop n s))) e
    ∙ ap (crc_from (crc_from x (take n s))) (slice-end s n)
    ∙ sym (crc-from-append x (take n s) (drop n s))
    ∙ ap (crc_from x) (take-append-drop n s)
