-- The ways out of reading a header, one law for each: what the tests told, and what the definition then gives. No contract cites this file. Assumes nothing.
use mathlib.Core.Path.{◌≡◌, refl, sym, ap, ◌∙◌}
use mathlib.Core.Bool.{Bool, true, false, not, ◌||◌}
use mathlib.Core.List.{List, [], ◌∷◌}
use Prim.Native.Nat.{ℕ, ◌+◌, ◌-◌, ◌≤◌}
use native.Mathlib.Omega.{arith}
use lib.Dec.{eqb, ltb}
use lib.ListN.{length}
use borrow.Author.Tests.{eq-eqb, ne_eqb, ltb-false}
use Rattle.units.specs.Answer.{accepted, refuse}
use Rattle.units.specs.Bytes.{part, num, same, all_zero}
use Rattle.units.specs.Places.{inside}
use Rattle.crc32.specs.Crc.{crc_from}
use Rattle.crc32.specs.Register.{crc-from-append}
use Rattle.header.specs.declared.Header.{Header}
use Rattle.header.specs.Format.{signature, header_at}
use Rattle.uefi.specs.Reading.{stated_at, bad_stated, sized_sum, header_in}

-- ---- a header at a place, as a block

module _ (xs : List ℕ) (b lba at : ℕ) {r : Bool} (i : r ≡ inside (length xs) at b) where
  pub in-short : not r ≡ true → refuse 2 ≡ header_in xs b lba at
  unfolding header_in
  in-short t = rw (← i, t)

  module _ {s : Bool} (t : not r ≡ false) (j : s ≡ same (part xs at 8) signature) where
    pub in-signed : not s ≡ true → refuse 4 ≡ header_in xs b lba at
    unfolding header_in
    in-signed u = rw (← i, t, ← j, u)

    module _ {h : Header} {bad : Bool} (u : not s ≡ false) (e : h ≡ header_at xs at) (f : bad ≡ bad_stated h.header_size_le b) where
      f' : bad ≡ bad_stated (stated_at xs at) b
      f' = f ∙ ap (λ (y : Header). bad_stated y.header_size_le b) e

      pub in_size : bad ≡ true → refuse 29 ≡ header_in xs b lba at
      unfolding header_in
      in_size v = rw (← i, t, ← j, u, ← f', v)

      module _ {x : ℕ} (v : bad ≡ false) (g : x ≡ sized_sum xs at h.header_size_le) where
        g' : x ≡ sized_sum xs at (stated_at xs at)
        g' = g ∙ ap (λ (y : Header). sized_sum xs at y.header_size_le) e

        own : h.crc32 ≡ num xs (at + 16) 4
        own = ap (λ (y : Header). y.crc32) e

        pub in_sum : (x ≡ h.crc32 → ⊥) → refuse 5 ≡ header_in xs b lba at
        unfolding header_in
        in_sum n =
            rw (← i, t, ← j, u, ← f', v, ne_eqb (sized_sum xs at (stated_at xs at)) (num xs (at + 16) 4) (λ q. n (g' ∙ q ∙ sym own)))

        module _ {z : Bool} (w : x ≡ h.crc32) (k : z ≡ all_zero (part xs (at + h.header_size_le) (b - h.header_size_le))) where
          k' : z ≡ all_zero (part xs (at + stated_at xs at) (b - stated_at xs at))
          k' = k ∙ ap (λ (y : Header). all_zero (part xs (at + y.header_size_le) (b - y.header_size_le))) e

          summed : eqb (sized_sum xs at (stated_at xs at)) (num xs (at + 16) 4) ≡ true
          summed = eq-eqb (sized_sum xs at (stated_at xs at)) (num xs (at + 16) 4) (sym g' ∙ w ∙ own)

          pub in-dirty : not z ≡ true → refuse 30 ≡ header_in xs b lba at
          unfolding header_in
          in-dirty l = rw (← i, t, ← j, u, ← f', v, summed, ← k', l)

          module _ (l : not z ≡ false) where
            there : h.current_lba.0 ≡ num xs (at + 24) 8
            there = ap (λ (y : Header). y.current_lba.0) e

            elsewhere : {t : Bool} → not (eqb h.current_lba.0 lba) ≡ t → not (eqb (num xs (at + 24) 8) lba) ≡ t
            elsewhere n = ap (λ (x : ℕ). not (eqb x lba)) (sym there) ∙ n

            pub in_place : not (eqb h.current_lba.0 lba) ≡ true → refuse 31 ≡ header_in xs b lba at
            unfolding header_in
            in_place n = rw (← i, t, ← j, u, ← f', v, summed, ← k', l, elsewhere n)

            pub in-good : not (eqb h.current_lba.0 lba) ≡ false → accepted h ≡ header_in xs b lba at
            unfolding header_in
            in-good n = rw (← i, t, ← j, u, ← f', v, summed, ← k', l, elsewhere n) (ap accepted e)

or-false : (p q : Bool) → (p || q) ≡ false → (p ≡ false) × (q ≡ false)
or-false true q e = absurd (let z : ◌≡◌ {A = ℕ} 0 1 = cc in omega arith)
or-false false q e = (refl, e)

-- what is past the test `bad_stated(..)`
pub stated-yes : {r : Bool} (n b : ℕ) → r ≡ bad_stated n b → r ≡ false → (92 ≤ n) × (n ≤ b)
unfolding bad_stated
stated-yes n b e f =
    let p = or-false (ltb n 92) (ltb b n) (sym e ∙ f) in
    (ltb-false n 92 p.0, ltb-false b n p.1)

-- ---- the sum over the stated size

-- what is summed in three pieces, each from the sum of the one before it, is the sum of them all
pub sized-pieces : (xs : List ℕ) (at n k j : ℕ) {zs : List ℕ} {f m r : ℕ} → k ≡ 16 → zs ≡ 0 ∷ 0 ∷ 0 ∷ 0 ∷ [] → j ≡ n - 20 → f ≡ crc_from 0 (part xs at k) → m ≡ crc_from f zs
    → r ≡ crc_from m (part xs (at + 20) j) → r ≡ sized_sum xs at n
unfolding sized_sum
sized-pieces xs at n k j p z q e f g =
    rw (g, f, e, p, z, q)
    (sym (crc-from-append 0 (part xs at 16) (0 ∷ 0 ∷ 0 ∷ 0 ∷ part xs (at + 20) (n - 20)) ∙ crc-from-append (crc_from 0 (part xs at 16)) (0 ∷ 0 ∷ 0 ∷ 0 ∷ []) (part xs (at + 20) (n - 20))))
