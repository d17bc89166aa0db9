-- `words::word_at` meets its contract: the four bytes are one number, lowest first.
-- Assumes nothing.
use native.Mathlib.Omega.{arith}
use Rattle.crc32.specs.Crc.{steps}
use Prim.Native.Nat.{ℕ}
use lib.Bits.{bit_xor}
use mathlib.Core.Path.{ap, ◌∙◌}
use Rattle.crc32.proofs.Laws.{word-feed}
use Rattle.crc32.proofs.words.word_at.Goals as goal

pub returns : goal.returns
returns c =
    λ x.
    ap (λ (w : ℕ). steps 32 (bit_xor x w)) c.from_le_bytes.ensures
    ∙ word-feed c.args.s.now c.args.i c.requires
    (λ k. omega (arith, c.type_inv.s k)) x
