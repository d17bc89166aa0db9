-- The lens laws of `specs/Lens.antt`: what was put is got, what was got is put, the second put alone counts, and nothing else moves.
-- n is the image's length, with the equation beside it, so that no law speaks of the length of a changed image. No contract cites this file. Assumes nothing.
use mathlib.Core.Path.{◌≡◌, refl, ap, ◌∙◌}
use mathlib.Core.Logic.{◌⊎◌, inl, inr}
use mathlib.Core.List.{List, ◌++◌}
use Prim.Native.Nat.{ℕ, ◌+◌, ◌≤◌, ◌<◌}
use native.Mathlib.Omega.{arith}
use lib.ListN.{length, take, get_or, length-append}
use lib.Seq.{sets, length-sets, take_all, take_at, drop_at}
use Rattle.units.specs.Bytes.{part}
use Rattle.units.proofs.Lists.{part_in, part_out, length_part, get_d-out}
use Rattle.tables.specs.Places.{back_array, back_header}
use Rattle.tables.specs.Lens.{Tables, tables_at, with_tables_at, Back, Front, copy_bytes}
use Rattle.tables.proofs.Room.{Room}
use Rattle.tables.proofs.Orders.{Outside}

-- header blocks of B bytes and arrays of 16,384
pub record Whole (B : ℕ) (t : Tables) : Type 0 where
  pub front-header : length t.front.header ≡ B
  pub front-array : length t.front.array ≡ 16384
  pub back-header : length t.back.header ≡ B
  pub back-array : length t.back.array ≡ 16384

pub tables-eq : {a b c d a' b' c' d' : List ℕ} → a ≡ a' → b ≡ b' → c ≡ c' → d ≡ d'
    → ◌≡◌ {A = Tables}
    (record { front = record { header = a; array = b }; back = record { header = c; array = d } })
    (record { front = record { header = a'; array = b' }; back = record { header = c'; array = d' } })
tables-eq p q r s = cc

module _ (B n : ℕ) (r : Room B n) where
  pub whole-tables : (xs : List ℕ) → length xs ≡ n → Whole B (tables_at B n xs)
  unfolding tables_at
  whole-tables xs l =
      record {
        front-header = length_part xs B B (omega arith);
        front-array = length_part xs (B + B) 16384 (omega arith);
        back-header = length_part xs (back_header B n) B (omega arith);
        back-array = length_part xs (back_array B n) 16384 (omega arith);
      }

  module _ (xs : List ℕ) (l : length xs ≡ n) (t : Tables) (w : Whole B t) where
    length_front : length (copy_bytes Front t.front) ≡ B + 16384
    length_front = simp length-append (omega arith)

    length_back : length (copy_bytes Back t.back) ≡ 16384 + B
    length_back = simp length-append (omega arith)

    fits-front : B + length (copy_bytes Front t.front) ≤ length xs
    fits-front = omega (arith, length_front)

    length-one : length (sets xs B (copy_bytes Front t.front)) ≡ n
    length-one = length-sets xs B (copy_bytes Front t.front) ∙ l

    fits-back : back_array B n + length (copy_bytes Back t.back) ≤ length (sets xs B (copy_bytes Front t.front))
    fits-back = omega (arith, length_back, length-one)

    pub length-with : length (with_tables_at B n xs t) ≡ n
    unfolding with_tables_at
    length-with = length-sets (sets xs B (copy_bytes Front t.front)) (back_array B n) (copy_bytes Back t.back) ∙ length-one

    -- what is read outside the tables is as it was
    pub with-beside : (a m : ℕ) → a + m ≤ n → (a + m ≤ B) ⊎ (B + B + 16384 ≤ a) → (a + m ≤ back_array B n) ⊎ (back_header B n + B ≤ a)
        → part (with_tables_at B n xs t) a m ≡ part xs a m
    unfolding with_tables_at
    with-beside a m h o p =
        part_out (sets xs B (copy_bytes Front t.front)) (back_array B n) (copy_bytes Back t.back) a m (high p)
        ∙ part_out xs B (copy_bytes Front t.front) a m (low o)
      where
        low : (a + m ≤ B) ⊎ (B + B + 16384 ≤ a) → (a + m ≤ B) ⊎ (B + length (copy_bytes Front t.front) ≤ a)
        low (inl q) = inl q
        low (inr q) = inr (omega (arith, length_front))

        high : (a + m ≤ back_array B n) ⊎ (back_header B n + B ≤ a) → (a + m ≤ back_array B n) ⊎ (back_array B n + length (copy_bytes Back t.back) ≤ a)
        high (inl q) = inl q
        high (inr q) = inr (omega (arith, length_back))

    -- byte by byte
    pub with_byte : (i : ℕ) → (i < B) ⊎ (B + B + 16384 ≤ i) → (i < back_array B n) ⊎ (back_header B n + B ≤ i) → get_or (with_tables_at B n xs t) i 0 ≡ get_or xs i 0
    unfolding with_tables_at
    with_byte i o p =
        get_d-out (sets xs B (copy_bytes Front t.front)) (back_array B n) (copy_bytes Back t.back) i (high p)
        ∙ get_d-out xs B (copy_bytes Front t.front) i (low o)
      where
        low : (i < B) ⊎ (B + B + 16384 ≤ i) → Outside B (length (copy_bytes Front t.front)) i
        low (inl q) = inl q
        low (inr q) = inr (omega (arith, length_front))

        high : (i < back_array B n) ⊎ (back_header B n + B ≤ i) → Outside (back_array B n) (length (copy_bytes Back t.back)) i
        high (inl q) = inl q
        high (inr q) = inr (omega (arith, length_back))

    -- what was put is got
    pub get-put : tables_at B n (with_tables_at B n xs t) ≡ t
    unfolding tables_at with_tables_at
    get-put =
        tables-eq
        (in-front 0 B B (omega arith) (omega (arith, length_front)) (omega arith) ∙ take_at t.front.header t.front.array B w.front-header)
        (in-front B 16384 (B + B) refl (omega (arith, length_front)) (omega arith) ∙ second t.front.header t.front.array B 16384 w.front-header w.front-array)
        (in-back 16384 B (back_header B n) (omega arith) (omega (arith, length_back)) ∙ second t.back.array t.back.header 16384 B w.back-array w.back-header)
        (in-back 0 16384 (back_array B n) (omega arith) (omega (arith, length_back)) ∙ take_at t.back.array t.back.header 16384 w.back-array)
      where
        second : (p q : List ℕ) (a m : ℕ) → length p ≡ a → length q ≡ m → part (p ++ q) a m ≡ q
        second p q a m e f = ap (λ (s : List ℕ). take m s) (drop_at p q a e) ∙ take_all m q (omega arith)

        in-back : (o m a : ℕ) → a ≡ back_array B n + o → o + m ≤ length (copy_bytes Back t.back)
            → part (sets (sets xs B (copy_bytes Front t.front)) (back_array B n) (copy_bytes Back t.back)) a m ≡ part (copy_bytes Back t.back) o m
        in-back o m a e h = rw e (part_in (sets xs B (copy_bytes Front t.front)) (back_array B n) (copy_bytes Back t.back) o m fits-back h)

        in-front : (o m a : ℕ) → a ≡ B + o → o + m ≤ length (copy_bytes Front t.front) → a + m ≤ back_array B n
            → part (sets (sets xs B (copy_bytes Front t.front)) (back_array B n) (copy_bytes Back t.back)) a m ≡ part (copy_bytes Front t.front) o m
        in-front o m a e h k =
            part_out (sets xs B (copy_bytes Front t.front)) (back_array B n) (copy_bytes Back t.back) a m (inl k)
            ∙ rw e (part_in xs B (copy_bytes Front t.front) o m fits-front h)

  -- a store that meets no table: in block 0, or between the tables
  module _ (xs : List ℕ) (l : length xs ≡ n) (at : ℕ) (ys : List ℕ) where
    pub tables-zero : at + length ys ≤ B → tables_at B n (sets xs at ys) ≡ tables_at B n xs
    unfolding tables_at
    tables-zero h = tables-eq (out B B (omega arith)) (out (B + B) 16384 (omega arith)) (out (back_header B n) B (omega arith)) (out (back_array B n) 16384 (omega arith))
      where
        out : (a m : ℕ) → B ≤ a → part (sets xs at ys) a m ≡ part xs a m
        out a m g = part_out xs at ys a m (inr (omega arith))

    pub tables-between : B + B + 16384 ≤ at → at + length ys ≤ back_array B n → tables_at B n (sets xs at ys) ≡ tables_at B n xs
    unfolding tables_at
    tables-between h k = tables-eq (low B B (omega arith)) (low (B + B) 16384 (omega arith)) (high (back_header B n) B (omega arith)) (high (back_array B n) 16384 (omega arith))
      where
        low : (a m : ℕ) → a + m ≤ B + B + 16384 → part (sets xs at ys) a m ≡ part xs a m
        low a m f = part_out xs at ys a m (inl (omega arith))

        high : (a m : ℕ) → back_array B n ≤ a → part (sets xs at ys) a m ≡ part xs a m
        high a m g = part_out xs at ys a m (inr (omega arith))
