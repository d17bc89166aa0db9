-- An image is its two tables and the bytes beside them: to say which image some stores leave, say its tables, and that no other byte was touched.
-- No contract cites this file. Assumes nothing.
use mathlib.Core.Path.{◌≡◌, refl, sym, ap, ◌∙◌}
use mathlib.Core.Logic.{◌⊎◌, inl, inr}
use mathlib.Core.List.{List, ◌++◌}
use Prim.Native.Nat.{ℕ, ◌+◌, ◌≤◌, ◌<◌}
use native.Mathlib.Omega.{arith}
use lib.ListN.{length, get_or}
use lib.Seq.{ext_get_or}
use Rattle.units.specs.Bytes.{part}
use Rattle.units.proofs.Lists.{get_d_part, part-split}
use Rattle.tables.specs.Places.{back_array, back_header}
use Rattle.tables.specs.Lens.{Front, Back, Tables, copy_bytes, tables_at, with_tables_at, OutsideTables}
use Rattle.tables.proofs.Orders.{Outside, side}
use Rattle.tables.proofs.Room.{Room}
use Rattle.tables.proofs.LensLaws.{Whole, whole-tables, length-with, get-put, with_byte}

module _ (B n : ℕ) (r : Room B n) where
  lens-ext : (i j : List ℕ) → length i ≡ n → length j ≡ n → tables_at B n i ≡ tables_at B n j → ((k : ℕ) → OutsideTables B n k → get_or i k 0 ≡ get_or j k 0) → i ≡ j
  unfolding tables_at
  lens-ext i j li lj t h =
      ext_get_or 0 i j (li ∙ sym lj)
      (λ k _.
      side B (B + 16384) k
      (λ o.
      side (back_array B n) (16384 + B) k
      (λ p. h k (wide o, high p))
      (λ m b e. at (back_array B n) (16384 + B) k m b e backs))
      (λ m b e. at B (B + 16384) k m b e fronts))
    where
      at : (a w k m : ℕ) → m < w → k ≡ a + m → part i a w ≡ part j a w → get_or i k 0 ≡ get_or j k 0
      at a w k m b e q =
          ap (λ (x : ℕ). get_or i x 0) e ∙ sym (get_d_part i a w m b) ∙ ap (λ (x : List ℕ). get_or x m 0) q ∙ get_d_part j a w m b ∙ sym (ap (λ (x : ℕ). get_or j x 0) e)

      fronts : part i B (B + 16384) ≡ part j B (B + 16384)
      fronts = part-split i B B 16384 ∙ ap (λ (x : Tables). copy_bytes Front x.front) t ∙ sym (part-split j B B 16384)

      backs : part i (back_array B n) (16384 + B) ≡ part j (back_array B n) (16384 + B)
      backs =
          part-split i (back_array B n) 16384 B ∙ ap (λ (x : ℕ). part i (back_array B n) 16384 ++ part i x B) r.seam
          ∙ ap (λ (x : Tables). copy_bytes Back x.back) t
          ∙ sym (ap (λ (x : ℕ). part j (back_array B n) 16384 ++ part j x B) r.seam) ∙ sym (part-split j (back_array B n) 16384 B)

      wide : {k : ℕ} → Outside B (B + 16384) k → (k < B) ⊎ (B + B + 16384 ≤ k)
      wide (inl q) = inl q
      wide (inr q) = inr (omega arith)

      high : {k : ℕ} → Outside (back_array B n) (16384 + B) k → (k < back_array B n) ⊎ (back_header B n + B ≤ k)
      high (inl q) = inl q
      high (inr q) = inr (omega (arith, r.seam))

  pub is-with : (xs i : List ℕ) (t : Tables) → length xs ≡ n → Whole B t → length i ≡ n → tables_at B n i ≡ t
      → ((k : ℕ) → OutsideTables B n k → get_or i k 0 ≡ get_or xs k 0) → i ≡ with_tables_at B n xs t
  is-with xs i t l w li e h =
      lens-ext i (with_tables_at B n xs t) li (length-with B n r xs l t w) (e ∙ sym (get-put B n r xs l t w)) (λ k o. h k o ∙ sym (with_byte B n r xs l t w k o.0 o.1))

  -- what was got is put
  pub put-get : (xs : List ℕ) → length xs ≡ n → with_tables_at B n xs (tables_at B n xs) ≡ xs
  put-get xs l = sym (is-with xs xs (tables_at B n xs) l (whole-tables B n r xs l) l refl (λ k o. refl))

  -- the second put alone counts
  pub put-put : (xs : List ℕ) → length xs ≡ n → (t u : Tables) → Whole B t → Whole B u → with_tables_at B n (with_tables_at B n xs t) u ≡ with_tables_at B n xs u
  put-put xs l t u w v =
      let y : List ℕ = with_tables_at B n xs t in
      let ly : length (with_tables_at B n xs t) ≡ n = length-with B n r xs l t w in
      is-with xs (with_tables_at B n y u) u l v (length-with B n r y ly u v) (get-put B n r y ly u v)
      (λ k o. with_byte B n r y ly u v k o.0 o.1 ∙ with_byte B n r xs l t w k o.0 o.1)
