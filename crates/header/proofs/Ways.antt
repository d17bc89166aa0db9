-- The ways out of the calls, one law for each: what the tests told, and what the definition then gives. No contract cites this file. Assumes nothing.
use mathlib.Core.Path.{◌≡◌, refl, sym, ap, ◌∙◌}
use mathlib.Core.Bool.{Bool, true, false, not}
use mathlib.Core.List.{List}
use Prim.Native.Nat.{ℕ, ◌+◌, ◌*◌, ◌-◌, ◌/◌, ◌^◌, ◌≤◌, ◌<◌}
use native.Mathlib.Nat.{div-mul-le_self}
use native.Mathlib.Omega.{arith}
use lib.Dec.{ltb, leb}
use lib.ListN.{length, take, drop}
use lib.Seq.{sets}
use borrow.Author.Tests.{eq-eqb, ne_eqb, le-ltb, lt-leb, ltb-false, not-false}
use Rattle.units.specs.declared.Lba.{Lba}
use Rattle.units.specs.declared.BytePlace.{BytePlace}
use Rattle.units.specs.declared.why.Why.{Why}
use Rattle.units.specs.Answer.{Answer, accepted, refused, refuse, pick, and_then, gives}
use Rattle.units.specs.Bytes.{part, same}
use Rattle.units.specs.Places.{good_size, inside, inside_or_empty, place_of, block_of}
use Rattle.units.proofs.Laws.{place-over, place-fits}
use Rattle.crc32.specs.Crc.{fresh, crc}
use Rattle.crc32.specs.Register.{crc-from-empty}
use Rattle.crc32.specs.HeaderSum.{header_sum}
use Rattle.header.specs.declared.Header.{Header}
use Rattle.header.specs.Format.{signature, header_at}
use Rattle.header.specs.Reading.{header_read, backup_block, backup_read}
use Rattle.header.specs.Writing.{array_bytes, parts_sum, with_sums, header_block, own_block, written}

-- ---- a header at a place

module _ (xs : List ℕ) (at : ℕ) {r s : Bool} {h : Header} {x : ℕ} where
  pub read-other : r ≡ inside (length xs) at 92 → not r ≡ false → s ≡ same (part xs at 8) signature → not s ≡ false
      → h ≡ header_at xs at → x ≡ header_sum xs at → (x ≡ h.crc32 → ⊥) → refuse 5 ≡ header_read xs at
  unfolding header_read
  read-other i t j u e f n =
      let d : h.crc32 ≡ (header_at xs at).crc32 = ap (λ (y : Header). y.crc32) e in
      rw (← i, t, ← j, u, ne_eqb (header_sum xs at) (header_at xs at).crc32 (λ q. n (f ∙ q ∙ sym d)))

  pub read-good : r ≡ inside (length xs) at 92 → not r ≡ false → s ≡ same (part xs at 8) signature → not s ≡ false
      → h ≡ header_at xs at → x ≡ header_sum xs at → x ≡ h.crc32 → accepted h ≡ header_read xs at
  unfolding header_read
  read-good i t j u e f n =
      let d : h.crc32 ≡ (header_at xs at).crc32 = ap (λ (y : Header). y.crc32) e in
      rw (← i, t, ← j, u, eq-eqb (header_sum xs at) (header_at xs at).crc32 (sym f ∙ n ∙ d)) (ap accepted e)

-- ---- the backup's place

pub backup-found : {r : Bool} (n b : ℕ) (a : Answer Lba) → r ≡ good_size b → not r ≡ false → 3 * b ≤ n → a ≡ block_of (n - b) b → a ≡ backup_block n b
unfolding backup_block block_of
backup-found n b a g t l e = e ∙ rw (← g, t, le-ltb n (3 * b) l)

-- the last whole block of an image starts at a place that is in it
pub last_block : (n b : ℕ) → b ≤ n → (n - b) / b * b + b ≤ n
last_block n b h = omega (arith, div-mul-le_self (n - b) b)

-- the backup is read at the place of its block; that block always has a place
pub backup-by-place : (xs : List ℕ) (b : ℕ) → length xs < 2 ^ 64
    → backup_read xs b ≡ and_then (backup_block (length xs) b) (λ l. and_then (place_of l.0 b) (λ p. header_read xs p.0))
unfolding backup_read backup_block place_of
backup-by-place xs b f = go (not (good_size b)) (ltb (length xs) (3 * b)) refl
  where
    n : ℕ
    n = length xs

    L : ℕ
    L = (n - b) / b

    placed : Bool → ℕ → Answer BytePlace
    placed s l = pick s (refuse 1) (pick (leb (2 ^ 64) (l * b)) (refuse 3) (accepted (record { 0 = l * b })))

    go : (s t : Bool) → ltb n (3 * b) ≡ t
        → pick s (refuse 1) (pick t (refuse 8) (header_read xs (L * b)))
        ≡ and_then (pick {X = Answer Lba} s (refuse 1) (pick t (refuse 8) (accepted (record { 0 = L }))))
        (λ l. and_then (placed s l.0) (λ p. header_read xs p.0))
    go true t e = refl
    go false true e = refl
    go false false e =
        let k : 3 * b ≤ n = ltb-false n (3 * b) e in
        let m : L * b < 2 ^ 64 = omega (arith, last_block n b (omega arith)) in
        rw (lt-leb (2 ^ 64) (L * b) m)

-- ---- the sum of the array

-- once its place is known
abbrev pub sum_at : List ℕ → ℕ → BytePlace → Answer ℕ
sum_at xs n p = pick (not (inside_or_empty (length xs) p.0 n)) (refuse 2) (accepted (crc (part xs p.0 n)))

-- the array's place is the place of its first block, with that place's refusals
pub parts-by-place : (xs : List ℕ) (h : Header) (b : ℕ) → parts_sum xs h b ≡ and_then (place_of h.part_start.0 b) (sum_at xs (array_bytes h))
unfolding parts_sum place_of
parts-by-place xs h b = go (not (good_size b)) (leb (2 ^ 64) (h.part_start.0 * b))
  where
    p : BytePlace
    p = record { 0 = h.part_start.0 * b }

    go : (s t : Bool)
        → pick s (refuse 1) (pick t (refuse 3) (sum_at xs (array_bytes h) p))
        ≡ and_then (pick s (refuse 1) (pick t (refuse 3) (accepted p))) (sum_at xs (array_bytes h))
    go true t = refl
    go false true = refl
    go false false = refl

module _ (xs : List ℕ) (h : Header) (b : ℕ) where
  pub parts-refused : {w : Why} → place_of h.part_start.0 b ≡ refused w → refused w ≡ parts_sum xs h b
  parts-refused e = sym (parts-by-place xs h b ∙ rw e)

  module _ {p : BytePlace} (e : place_of h.part_start.0 b ≡ accepted p) where
    -- no bytes at all: their sum is that of a fresh start
    pub parts_none : array_bytes h ≡ 0 → accepted fresh ≡ parts_sum xs h b
    unfolding inside_or_empty
    parts_none z = sym (parts-by-place xs h b ∙ rw (e, z) (ap accepted (crc-from-empty fresh)))

    module _ {r : Bool} (z : array_bytes h ≡ 0 → ⊥) (i : r ≡ inside (length xs) p.0 (array_bytes h)) where
      pub parts-outside : not r ≡ true → refuse 2 ≡ parts_sum xs h b
      unfolding inside_or_empty
      parts-outside t = sym (parts-by-place xs h b ∙ rw (e, ne_eqb (array_bytes h) 0 z, ← i, t))

      pub parts-inside : {x : ℕ} → not r ≡ false → x ≡ crc (take (p.0 + array_bytes h - p.0) (drop p.0 xs)) → accepted x ≡ parts_sum xs h b
      unfolding inside_or_empty
      parts-inside t f =
          let d : p.0 + array_bytes h - p.0 ≡ array_bytes h = omega arith in
          sym (parts-by-place xs h b ∙ rw (e, ne_eqb (array_bytes h) 0 z, ← i, t, f, d))

-- ---- a header that is written

module _ (xs : List ℕ) (h : Header) (b : ℕ) (wrong : Bool) {good : Bool} (g : good ≡ good_size b) where
  pub write-size : not good ≡ true → written wrong xs h b ≡ gives (refuse 1) xs
  unfolding written
  write-size t = rw (← g, t)

  module _ (t : not good ≡ false) where
    pub write-wrong : wrong ≡ true → written wrong xs h b ≡ gives (refuse 11) xs
    unfolding written
    write-wrong f = rw (← g, t, f)

    module _ (f : wrong ≡ false) where
      pub write-parts : {w : Why} → parts_sum xs h b ≡ refused w → written wrong xs h b ≡ gives (refused w) xs
      unfolding written own_block
      write-parts e = rw (← g, t, f, e)

      module _ {parts : ℕ} (e : parts_sum xs h b ≡ accepted parts) where
        pub write-over : {w : Why} → place_of h.current_lba.0 b ≡ refused w → written wrong xs h b ≡ gives (refused w) xs
        unfolding written own_block
        write-over p =
            let o = place-over h.current_lba.0 b (sym g ∙ not-false good t) p in
            rw (← g, t, f, e, o.0, o.1)

        module _ {p : BytePlace} {r : Bool} (l : place_of h.current_lba.0 b ≡ accepted p) (i : r ≡ inside (length xs) p.0 b) where
          fits : (leb (2 ^ 64) (h.current_lba.0 * b) ≡ false) × (h.current_lba.0 * b ≡ p.0)
          fits =
              let o = place-fits h.current_lba.0 b (sym g ∙ not-false good t) l in
              (o.0, ap (λ (y : BytePlace). y.0) o.1)

          pub write-outside : not r ≡ true → written wrong xs h b ≡ gives (refuse 2) xs
          unfolding written own_block
          write-outside n = rw (← g, t, f, e, fits.0, fits.1, ← i, n)

          pub write-stored : not r ≡ false → {w : Header} {ys : List ℕ} → w ≡ with_sums h parts → ys ≡ sets xs p.0 (header_block w b)
              → written wrong xs h b ≡ gives (accepted (record { count = b; header = w })) ys
          unfolding written own_block
          write-stored n s y = rw (← g, t, f, e, fits.0, fits.1, ← i, n, ← s, ← y)
