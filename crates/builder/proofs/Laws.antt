-- The laws of the header builder of `specs/Building.antt`: its answer on each way out, what an accepted header is, that the two headers of one builder
-- agree, and that a copied builder builds the same header again. No contract cites this file. Assumes nothing.
use mathlib.Core.Path.{◌≡◌, refl, sym, ap, subst, ◌∙◌}
use mathlib.Core.Bool.{Bool, true, false, not}
use Prim.Native.Nat.{ℕ, ◌+◌, ◌*◌, ◌-◌, ◌/◌, ◌^◌, ◌≤◌, ◌<◌}
use native.Mathlib.Nat.{mul-le-mul_left, div-lt_iff_lt-mul}
use native.Mathlib.Omega.{arith}
use lib.Dec.{ltb, leb}
use borrow.Author.Tests.{lt-ltb, le-ltb, le-leb, lt-leb, ltb-true, ltb-false, leb-false, not-false}
use Rattle.units.specs.declared.Lba.{Lba}
use Rattle.units.specs.Answer.{Answer, accepted, refuse, pick}
use Rattle.units.specs.Places.{good_size}
use Rattle.header.specs.declared.Header.{Header}
use Rattle.builder.specs.declared.HeaderBuilder.{HeaderBuilder}
use Rattle.builder.specs.Building.{of_header, sides_of, with_primary, with_first_usable, with_last_usable, greater, blocks_for, before_array, header_of, built_with, built}

-- the parts of a built header that are computed: the array's blocks, the first and the last usable block over p blocks, and where the array starts
abbrev pub array_blocks : HeaderBuilder → ℕ → ℕ
array_blocks s b = blocks_for (s.num_parts * s.part_size) b

abbrev pub first_of : HeaderBuilder → ℕ → ℕ
first_of s p = greater s.first_usable.0 (2 + p)

abbrev pub last_of : HeaderBuilder → ℕ → ℕ
last_of s p = greater s.last_usable.0 (s.backup_lba.0 - p - 1)

abbrev pub start_of : HeaderBuilder → ℕ → ℕ
start_of s p = before_array s (last_of s p) + 1

-- ---- numbers

-- n bytes take at most n blocks
pub few-blocks : (n b : ℕ) → 0 < b → (n + (b - 1)) / b ≤ n
few-blocks n b h =
    let m : n * 1 ≤ n * b = mul-le-mul_left n h in
    let d : n + (b - 1) < (n + 1) * b = omega arith in
    omega (arith, (div-lt_iff_lt-mul {k = b} {x = n + (b - 1)} {y = n + 1} h).1 d)

-- the code's three blocks for those of the definition
pub header-same : (s : HeaderBuilder) {f f' l l' n n' : ℕ} → f ≡ f' → l ≡ l' → n ≡ n' → header_of s f l n ≡ header_of s f' l' n'
header-same s p q r = cc

-- ---- the answer on each way out

-- r is the code's own test of the block size
module _ {r : Bool} (s : HeaderBuilder) (b : ℕ) (e : r ≡ good_size b) where
  pub built-1 : not r ≡ true → built s b ≡ refuse 1
  unfolding built
  built-1 t = rw (← e, t)

  pub built-9 : not r ≡ false → s.backup_lba.0 < s.primary_lba.0 → built s b ≡ refuse 9
  unfolding built
  built-9 t h = rw (← e, t, lt-ltb s.backup_lba.0 s.primary_lba.0 h)

  pub built-3 : not r ≡ false → s.primary_lba.0 ≤ s.backup_lba.0 → 2 ^ 32 ≤ s.num_parts * s.part_size → built s b ≡ refuse 3
  unfolding built
  built-3 t h k = rw (← e, t, le-ltb s.backup_lba.0 s.primary_lba.0 h, le-leb (2 ^ 32) (s.num_parts * s.part_size) k)

  -- past the first three tests all depends on the array's blocks
  pub built-with : not r ≡ false → s.primary_lba.0 ≤ s.backup_lba.0 → s.num_parts * s.part_size < 2 ^ 32
      → built s b ≡ built_with s (array_blocks s b)
  unfolding built
  built-with t h k = rw (← e, t, le-ltb s.backup_lba.0 s.primary_lba.0 h, lt-leb (2 ^ 32) (s.num_parts * s.part_size) k)

-- with p blocks for the array: the backup comes too early, no block is usable, the array starts too far, or all is well
module _ (s : HeaderBuilder) (p : ℕ) where
  pub with-early : s.backup_lba.0 < p + 1 → built_with s p ≡ refuse 10
  unfolding built_with
  with-early h = rw (lt-ltb s.backup_lba.0 (p + 1) h)

  pub with_none : p + 1 ≤ s.backup_lba.0 → last_of s p < first_of s p → built_with s p ≡ refuse 10
  unfolding built_with
  with_none h k = rw (le-ltb s.backup_lba.0 (p + 1) h, lt-ltb (last_of s p) (first_of s p) k)

  pub with-far : p + 1 ≤ s.backup_lba.0 → first_of s p ≤ last_of s p → 2 ^ 64 ≤ start_of s p → built_with s p ≡ refuse 3
  unfolding built_with
  with-far h k l =
      rw (le-ltb s.backup_lba.0 (p + 1) h, le-ltb (last_of s p) (first_of s p) k, le-leb (2 ^ 64) (start_of s p) l)

  pub with-header : p + 1 ≤ s.backup_lba.0 → first_of s p ≤ last_of s p → start_of s p < 2 ^ 64
      → built_with s p ≡ accepted (header_of s (first_of s p) (last_of s p) (start_of s p))
  unfolding built_with
  with-header h k l =
      rw (le-ltb s.backup_lba.0 (p + 1) h, le-ltb (last_of s p) (first_of s p) k, lt-leb (2 ^ 64) (start_of s p) l)

-- ---- what an accepted header is

-- behind a test that refuses, a value is accepted where the test is false
past : {A : Type 0} (t : Bool) (n : ℕ) (x : Answer A) (a : A) → pick t (refuse n) x ≡ accepted a → (t ≡ false) × (x ≡ accepted a)
past true n x a e = absurd (let z : ◌≡◌ {A = ℕ} 0 1 = cc in omega arith)
past false n x a e = (refl, e)

-- the greater of two is at least each, and is the first where that is at least the second
greater-both : (x y : ℕ) → (x ≤ greater x y) × (y ≤ greater x y)
greater-both x y = go (ltb x y) refl
  where
    go : (t : Bool) → ltb x y ≡ t → (x ≤ pick t y x) × (y ≤ pick t y x)
    go true e = (omega (arith, ltb-true x y e), omega arith)
    go false e = (omega arith, omega (arith, ltb-false x y e))

greater-first : (x y : ℕ) → y ≤ x → greater x y ≡ x
greater-first x y h = rw (le-ltb x y h)

-- all that is known of a header h that builder s gives for blocks of b bytes: what was tested, then the header field by field
pub record Built (s : HeaderBuilder) (b : ℕ) (h : Header) : Type 0 where
  pub size : good_size b ≡ true
  pub order : s.primary_lba.0 ≤ s.backup_lba.0
  pub small : s.num_parts * s.part_size < 2 ^ 32
  pub room : array_blocks s b + 1 ≤ s.backup_lba.0
  pub first : h.first_usable.0 ≡ first_of s (array_blocks s b)
  pub last : h.last_usable.0 ≡ last_of s (array_blocks s b)
  pub first-after : 2 + array_blocks s b ≤ h.first_usable.0
  pub last-from : s.backup_lba.0 - array_blocks s b - 1 ≤ h.last_usable.0
  pub usable : h.first_usable.0 ≤ h.last_usable.0
  pub start : h.part_start.0 ≡ before_array s h.last_usable.0 + 1
  pub start_fits : h.part_start.0 < 2 ^ 64
  pub own : h.current_lba ≡ pick s.primary s.primary_lba s.backup_lba
  pub other : h.backup_lba ≡ pick s.primary s.backup_lba s.primary_lba
  pub guid : h.disk_guid ≡ s.disk_guid
  pub count : h.num_parts ≡ s.num_parts
  pub entry : h.part_size ≡ s.part_size
  pub revision : h.revision ≡ record { 0 = 1; 1 = 0 }
  pub header-size : h.header_size_le ≡ 92
  pub sum : h.crc32 ≡ 0
  pub reserved : h.reserved ≡ 0
  pub array-sum : h.crc32_parts ≡ 0

-- an accepted header is all of that
pub built-usable : (s : HeaderBuilder) (b : ℕ) (h : Header) → built s b ≡ accepted h → Built s b h
unfolding built built_with
built-usable s b h e =
    let p : ℕ = array_blocks s b in
    let t1 = past (not (good_size b)) 1 _ h e in
    let t2 = past (ltb s.backup_lba.0 s.primary_lba.0) 9 _ h t1.1 in
    let t3 = past (leb (2 ^ 32) (s.num_parts * s.part_size)) 3 _ h t2.1 in
    let t4 = past (ltb s.backup_lba.0 (p + 1)) 10 _ h t3.1 in
    let t5 = past (ltb (last_of s p) (first_of s p)) 10 _ h t4.1 in
    let t6 = past (leb (2 ^ 64) (start_of s p)) 3 _ h t5.1 in
    let made : header_of s (first_of s p) (last_of s p) (start_of s p) ≡ h = let a = t6.1 in cc in
    subst (λ (k : Header). Built s b k) made
    (record {
      size = not-false (good_size b) t1.0;
      order = ltb-false _ _ t2.0;
      small = leb-false _ _ t3.0;
      room = ltb-false _ _ t4.0;
      first = refl;
      last = refl;
      first-after = (greater-both s.first_usable.0 (2 + p)).1;
      last-from = (greater-both s.last_usable.0 (s.backup_lba.0 - p - 1)).1;
      usable = ltb-false _ _ t5.0;
      start = refl;
      start_fits = leb-false _ _ t6.0;
      own = refl;
      other = refl;
      guid = refl;
      count = refl;
      entry = refl;
      revision = refl;
      header-size = refl;
      sum = refl;
      reserved = refl;
      array-sum = refl;
    })

-- a header, written out, so that congruence sees its fields
abbrev whole : Header → Header
whole h =
    record {
      revision = h.revision;
      header_size_le = h.header_size_le;
      crc32 = h.crc32;
      reserved = h.reserved;
      current_lba = h.current_lba;
      backup_lba = h.backup_lba;
      first_usable = record { 0 = h.first_usable.0 };
      last_usable = record { 0 = h.last_usable.0 };
      disk_guid = h.disk_guid;
      part_start = record { 0 = h.part_start.0 };
      num_parts = h.num_parts;
      part_size = h.part_size;
      crc32_parts = h.crc32_parts;
    }

-- and what is all of that is accepted
pub usable-built : (s : HeaderBuilder) (b : ℕ) (h : Header) → Built s b h → built s b ≡ accepted h
usable-built s b h u =
    let p : ℕ = array_blocks s b in
    let r : start_of s p ≡ h.part_start.0 = rw (← u.last) (sym u.start) in
    built-with s b (sym u.size) refl u.order u.small
    ∙ with-header s p u.room (omega (arith, u.usable, u.first, u.last)) (omega (arith, u.start_fits))
    ∙ ap accepted (let m : header_of s (first_of s p) (last_of s p) (start_of s p) ≡ whole h = cc in m)

-- ---- the two headers of one builder

-- what UEFI asks a primary header h and a backup header k to agree in; the own block of each is the other's backup block
pub record Twins (h k : Header) : Type 0 where
  pub revision : h.revision ≡ k.revision
  pub header-size : h.header_size_le ≡ k.header_size_le
  pub own : h.current_lba ≡ k.backup_lba
  pub other : h.backup_lba ≡ k.current_lba
  pub first : h.first_usable ≡ k.first_usable
  pub last : h.last_usable ≡ k.last_usable
  pub guid : h.disk_guid ≡ k.disk_guid
  pub count : h.num_parts ≡ k.num_parts
  pub entry : h.part_size ≡ k.part_size
  pub array-sum : h.crc32_parts ≡ k.crc32_parts

abbrev block : ℕ → Lba
block n = record { 0 = n }

pub twins-agree : (s : HeaderBuilder) (b : ℕ) (h k : Header) → built (with_primary s true) b ≡ accepted h → built (with_primary s false) b ≡ accepted k → Twins h k
twins-agree s b h k d e =
    let u = built-usable (with_primary s true) b h d in
    let v = built-usable (with_primary s false) b k e in
    record {
      revision = u.revision ∙ sym v.revision;
      header-size = u.header-size ∙ sym v.header-size;
      own = u.own ∙ sym v.other;
      other = u.other ∙ sym v.own;
      first = ap block (u.first ∙ sym v.first);
      last = ap block (u.last ∙ sym v.last);
      guid = u.guid ∙ sym v.guid;
      count = u.count ∙ sym v.count;
      entry = u.entry ∙ sym v.entry;
      array-sum = u.array-sum ∙ sym v.array-sum;
    }

-- ---- a builder copied from a built header

-- a copy has the builder's side and blocks: the smaller block is the primary's
sided : (s : HeaderBuilder) (h : Header) (t : Bool) → s.primary ≡ t → s.primary_lba.0 < s.backup_lba.0
    → h.current_lba ≡ pick t s.primary_lba s.backup_lba → h.backup_lba ≡ pick t s.backup_lba s.primary_lba
    → of_header h ≡ sides_of h s.primary s.primary_lba s.backup_lba
unfolding of_header
sided s h true e l p q = rw (p, q, lt-ltb s.primary_lba.0 s.backup_lba.0 l, e)
sided s h false e l p q = rw (p, q, le-ltb s.backup_lba.0 s.primary_lba.0 (omega arith), e)

-- the copy is the builder itself, with the usable blocks that were computed. Where the two blocks are one, the copy is a backup's
pub from-header-builds : (s : HeaderBuilder) (b : ℕ) (h : Header) → built s b ≡ accepted h → s.primary_lba.0 < s.backup_lba.0
    → of_header h ≡ with_last_usable (with_first_usable s h.first_usable) h.last_usable
from-header-builds s b h e l = let u = built-usable s b h e in sided s h s.primary refl l u.own u.other ∙ cc (u.guid, u.count, u.entry)

-- and it builds the header again
pub from-header-again : (s : HeaderBuilder) (b : ℕ) (h : Header) → built s b ≡ accepted h → s.primary_lba.0 < s.backup_lba.0 → built (of_header h) b ≡ accepted h
from-header-again s b h e l =
    let u = built-usable s b h e in
    rw (from-header-builds s b h e l)
    (usable-built (with_last_usable (with_first_usable s h.first_usable) h.last_usable) b h
    (record {
      size = u.size;
      order = u.order;
      small = u.small;
      room = u.room;
      first = sym (greater-first h.first_usable.0 (2 + array_blocks s b) u.first-after);
      last = sym (greater-first h.last_usable.0 (s.backup_lba.0 - array_blocks s b - 1) u.last-from);
      first-after = u.first-after;
      last-from = u.last-from;
      usable = u.usable;
      start = u.start;
      start_fits = u.start_fits;
      own = u.own;
      other = u.other;
      guid = u.guid;
      count = u.count;
      entry = u.entry;
      revision = u.revision;
      header-size = u.header-size;
      sum = u.sum;
      reserved = u.reserved;
      array-sum = u.array-sum;
    }))
