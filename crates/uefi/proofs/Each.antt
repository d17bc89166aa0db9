-- The laws of an entry size: it is 128 times a power of two, and from 128 to 4,096. The six sizes are never told apart. No contract cites this file. Assumes nothing.
use mathlib.Core.Path.{◌≡◌, refl, sym, ap, ◌∙◌}
use mathlib.Core.Bool.{Bool, true, false, ◌||◌}
use Prim.Native.Nat.{ℕ, zero, suc, ◌+◌, ◌*◌, ◌^◌, ◌≤◌, ◌<◌}
use native.Mathlib.Nat.{mul-one, mul_assoc, mul_comm, pow-suc, pow-le-pow_right, lt_of_not-le}
use native.Mathlib.Decide.{dec_le}
use native.Mathlib.Omega.{arith}
use lib.Dec.{eqb}
use lib.Pow.{pow_pos}
use borrow.Author.Tests.{eq-eqb, eqb-true}
use Rattle.uefi.specs.Sizes.{doubled, good_each}

-- n is s times a power of two below the m-th
pub record Doubled (s m n : ℕ) : Type 0 where
  pub power : ℕ
  pub few : power < m
  pub is : n ≡ s * 2 ^ power

double : (s k : ℕ) → s * 2 * 2 ^ k ≡ s * 2 ^ suc k
double s k = rw (pow-suc 2 k) (mul_assoc s 2 (2 ^ k) ∙ ap (λ (x : ℕ). s * x) (mul_comm 2 (2 ^ k)))

pub doubled-tells : (m s n : ℕ) → doubled s m n ≡ true → Doubled s m n
unfolding doubled
doubled-tells zero s n e = absurd (let z : ◌≡◌ {A = ℕ} 0 1 = cc in omega arith)
doubled-tells (suc m) s n e = go (eqb n s) refl e (doubled-tells m (s * 2) n)
  where
    go : (t : Bool) → eqb n s ≡ t → (t || doubled (s * 2) m n) ≡ true → (doubled (s * 2) m n ≡ true → Doubled (s * 2) m n) → Doubled s (suc m) n
    go true p q f = record { power = 0; few = omega arith; is = eqb-true n s p ∙ sym (mul-one s) }
    go false p q f =
        let r = f q in
        record { power = suc r.power; few = omega (arith, r.few); is = r.is ∙ double s r.power }

or_right : (p q : Bool) → q ≡ true → (p || q) ≡ true
or_right true q e = refl
or_right false q e = e

pub doubled-yes : (m s n k : ℕ) → k < m → n ≡ s * 2 ^ k → doubled s m n ≡ true
unfolding doubled
doubled-yes zero s n k h e = absurd (omega arith)
doubled-yes (suc m) s n zero h e = rw (eq-eqb n s (e ∙ mul-one s))
doubled-yes (suc m) s n (suc k) h e = or_right (eqb n s) (doubled (s * 2) m n) (doubled-yes m (s * 2) n k (omega arith) (e ∙ sym (double s k)))

-- the definition says what UEFI says: exactly the numbers 128 * 2 ^ k up to 4,096
pub each-is : (n : ℕ) → good_each n ≡ true → Doubled 128 6 n
unfolding good_each
each-is n e = doubled-tells 6 128 n e

pub each-range : (n : ℕ) → good_each n ≡ true → (128 ≤ n) × (n ≤ 4096)
each-range n e =
    let d = each-is n e in
    let p : 0 < 2 ^ d.power = pow_pos d.power in
    let q : 2 ^ d.power ≤ 2 ^ 5 = let l : d.power ≤ 5 = omega (arith, d.few) in pow-le-pow_right (omega arith) l in
    (omega (arith, d.is, p), omega (arith, d.is, q))

pub each-yes : (n k : ℕ) → n ≡ 128 * 2 ^ k → n ≤ 4096 → good_each n ≡ true
unfolding good_each
each-yes n k e h =
    let l : k < 6 =
    elim (dec_le 6 k) [
      | yes g ↦ absurd (let q : 2 ^ 6 ≤ 2 ^ k = pow-le-pow_right (omega arith) g in omega (arith, e, q))
      | no g ↦ lt_of_not-le g
    ]
    in doubled-yes 6 128 n k l e
