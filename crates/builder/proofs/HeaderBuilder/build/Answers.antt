-- `builder::HeaderBuilder::build` meets its contract: one law for each way out. Assumes nothing.
use mathlib.Core.Path.{◌≡◌, sym, ap, ◌∙◌}
use mathlib.Core.Bool.{Bool, true, not}
use Prim.Native.Nat.{ℕ, ◌+◌, ◌*◌, ◌^◌, ◌≤◌, ◌<◌}
use native.Mathlib.Omega.{arith}
use borrow.Author.Rules.{rules}
use Rattle.units.specs.Answer.{accepted, refuse}
use Rattle.units.specs.Places.{good_size}
use Rattle.header.specs.declared.Header.{Header}
use Rattle.builder.specs.declared.HeaderBuilder.{HeaderBuilder}
use Rattle.builder.specs.Building.{before_array, header_of, built, built_with}
use Rattle.units.proofs.Laws.{size-past, product-32}
use Rattle.builder.proofs.Laws.{array_blocks, first_of, last_of, start_of, header-same, built-1, built-9, built-3, built-with, with-early, with_none, with-far, with-header}
use Rattle.builder.proofs.HeaderBuilder.build.Goals as goal

-- all depends on the array's blocks p; r is the code's own test of the block size
known : {r : Bool} (s : HeaderBuilder) (b p : ℕ) → r ≡ good_size b → r ≡ true → s.primary_lba.0 ≤ s.backup_lba.0 → s.num_parts * s.part_size < 2 ^ 32
    → p ≡ array_blocks s b → built s b ≡ built_with s p
known s b p e t h k q = rw q (built-with s b e (ap not t) h k)

-- past the fifth test: f and l are the usable blocks, and n stands before the array
module _ (s : HeaderBuilder) (p f l n : ℕ) (f-is : f ≡ first_of s p) (l-is : l ≡ last_of s p) (n-is : n ≡ before_array s l)
    (room : p + 1 ≤ s.backup_lba.0) (usable : f ≤ l) where
  start : n + 1 ≡ start_of s p
  start = ap (λ (x : ℕ). x + 1) (n-is ∙ ap (before_array s) l-is)

  order : first_of s p ≤ last_of s p
  order = omega (arith, f-is, l-is)

  far : 2 ^ 64 ≤ n + 1 → built_with s p ≡ refuse 3
  far top = let e = start in with-far s p room order (omega arith)

  made : (h : Header) → n + 1 < 2 ^ 64 → h ≡ header_of s f l (n + 1) → accepted h ≡ built_with s p
  made h top e =
      let a = start in
      ap accepted (e ∙ header-same s f-is l-is a) ∙ sym (with-header s p room order (omega arith))

pub returns-then-not-good_block_size : goal.returns-then-not-good_block_size
returns-then-not-good_block_size c = sym (built-1 _ _ c.good_block_size.ensures (ap not c.if-not-good_block_size.true))

pub returns-then-backup-self : goal.returns-then-backup-self
returns-then-backup-self c = sym (built-9 _ _ c.good_block_size.ensures (ap not c.if-not-good_block_size.false) c.if-backup-self.true)

pub overflow_mul-bytes : goal.overflow_mul-bytes
overflow_mul-bytes c = record { fits = product-32 _ _ (search rules) (search rules) }

pub returns-then-bytes-gt4294967295 : goal.returns-then-bytes-gt4294967295
returns-then-bytes-gt4294967295 c =
    sym (built-3 _ _ c.good_block_size.ensures (ap not c.if-not-good_block_size.false) c.if-backup-self.false c.if-bytes-gt4294967295.true)

pub blocks_for-p-requires : goal.blocks_for-p-requires
blocks_for-p-requires c =
    let z = size-past c.args.b c.good_block_size.ensures (ap not c.if-not-good_block_size.false) in
    (omega arith, omega arith, z.1)

pub returns-then-backup-p : goal.returns-then-backup-p
returns-then-backup-p c =
    sym
    (known c.args.self c.args.b c.blocks_for-p.result c.good_block_size.ensures c.if-not-good_block_size.false c.if-backup-self.false (omega arith) c.blocks_for-p.ensures.0
    ∙ with-early c.args.self c.blocks_for-p.result c.if-backup-p.true)

pub returns-then-last-first : goal.returns-then-last-first
returns-then-last-first c =
    sym
    (known c.args.self c.args.b c.blocks_for-p.result c.good_block_size.ensures c.if-not-good_block_size.false c.if-backup-self.false (omega arith) c.blocks_for-p.ensures.0
    ∙ with_none c.args.self c.blocks_for-p.result c.if-backup-p.false (omega (arith, c.greater_of-first.ensures, c.greater_of-last.ensures)))

pub returns-then-before : goal.returns-then-before
returns-then-before c =
    sym
    (known c.args.self c.args.b c.blocks_for-p.result c.good_block_size.ensures c.if-not-good_block_size.false c.if-backup-self.false (omega arith) c.blocks_for-p.ensures.0
    ∙ far c.args.self c.blocks_for-p.result c.greater_of-first.result c.greater_of-last.result c.block_before_array-before.result
    c.greater_of-first.ensures c.greater_of-last.ensures c.block_before_array-before.ensures c.if-backup-p.false c.if-last-first.false (omega arith))

pub returns : goal.returns
returns c =
    made c.args.self c.blocks_for-p.result c.greater_of-first.result c.greater_of-last.result c.block_before_array-before.result
    c.greater_of-first.ensures c.greater_of-last.ensures c.block_before_array-before.ensures c.if-backup-p.false c.if-last-first.false
    c.header_of.result (omega arith) c.header_of.ensures
    ∙ sym (known c.args.self c.args.b c.blocks_for-p.result c.good_block_size.ensures c.if-not-good_block_size.false c.if-backup-self.false (omega arith) c.blocks_for-p.ensures.0)
