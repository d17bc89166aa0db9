-- `mbr::ProtectiveMbr::from_bytes` meets its contract. Assumes nothing.
use native.Mathlib.Omega.{arith}
use borrow.Author.Tests.{eq-eqb, ne_eqb}
use Rattle.mbr.specs.Parsing.{mbr_parsed}
use Rattle.units.proofs.Laws.{size-past}
use Rattle.std.proofs.Common.{ap}
use Rattle.std.specs.Prelude.{not}
use Rattle.mbr.proofs.ProtectiveMbr.from_bytes.Goals as goal

pub returns-then-not-good_block_size : goal.returns-then-not-good_block_size
unfolding mbr_parsed
returns-then-not-good_block_size c = rw (← c.good_block_size.ensures, (ap not c.if-not-good_block_size.true))

pub returns-then-buf-b : goal.returns-then-buf-b
unfolding mbr_parsed
returns-then-buf-b c = rw (← c.good_block_size.ensures, (ap not c.if-not-good_block_size.false), ne_eqb _ _ c.if-buf-b.true)

pub same_at-requires : goal.same_at-requires
same_at-requires c = let l = size-past _ c.good_block_size.ensures (ap not c.if-not-good_block_size.false) in omega arith

pub returns-then-not-same_at : goal.returns-then-not-same_at
unfolding mbr_parsed
returns-then-not-same_at c =
    rw (
      ← c.good_block_size.ensures,
      (ap not c.if-not-good_block_size.false),
      eq-eqb _ _ c.if-buf-b.false,
      ← c.same_at.ensures,
      (ap not c.if-not-same_at.true),
    )

pub mbr_at-requires : goal.mbr_at-requires
mbr_at-requires c = let l = size-past _ c.good_block_size.ensures (ap not c.if-not-good_block_size.false) in omega arith

pub returns : goal.returns
unfolding mbr_parsed
returns c =
    rw (
      c.mbr_at.ensures,
      ← c.good_block_size.ensures,
      (ap not c.if-not-good_block_size.false),
      eq-eqb _ _ c.if-buf-b.false,
      ← c.same_at.ensures,
      (ap not c.if-not-same_at.false),
    )
