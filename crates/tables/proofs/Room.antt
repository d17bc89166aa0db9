-- What the room for two tables gives: every law on places is a consequence of the fields of `Room`, which are linear, so that no later proof looks at the block size.
-- No contract cites this file. Assumes nothing.
use mathlib.Core.Path.{◌≡◌, refl, sym, ap, ◌∙◌, subst}
use mathlib.Core.Logic.{◌⊎◌, inl, inr}
use mathlib.Core.Bool.{true}
use Prim.Native.Nat.{ℕ, ◌+◌, ◌*◌, ◌-◌, ◌/◌, ◌≤◌, ◌<◌}
use native.Mathlib.Nat.{div-mul-le_self, div-le_self, add-div_right, mul-le-mul_right, add-mul, suc-mul}
use native.Mathlib.Omega.{arith}
use Rattle.units.specs.Places.{good_size}
use Rattle.units.proofs.Laws.{good-size}
use Rattle.tables.specs.Places.{blocks, array_blocks, first_usable_of, last_usable_of, back_array, back_header}

pub record Room (B n : ℕ) : Type 0 where
  pub good : good_size B ≡ true
  pub least : 512 ≤ B
  pub most : B ≤ 4096
  pub ceil : (16384 + (B - 1)) / B ≡ array_blocks B
  pub few : blocks B n ≤ n
  pub count : 2 * array_blocks B + 3 ≤ blocks B n - 1
  pub low : B + B + 16384 ≤ back_array B n
  pub seam : back_array B n + 16384 ≡ back_header B n
  pub top : back_header B n + B ≤ n
  pub first : first_usable_of B * B ≡ B + B + 16384
  pub last : (last_usable_of B n + 1) * B ≡ back_array B n
  pub order : first_usable_of B ≤ last_usable_of B n
  pub block : (n - B) / B * B ≡ back_header B n
  pub enough : 3 * B ≤ n

-- ---- the two block sizes, and then never again: an array's bytes fill whole blocks

record Size (B : ℕ) : Type 0 where
  least : 512 ≤ B
  most : B ≤ 4096
  ceil : (16384 + (B - 1)) / B ≡ array_blocks B
  whole : array_blocks B * B ≡ 16384

size : (B : ℕ) → good_size B ≡ true → Size B
size B g = by_size (good-size B g)
  where
    by_size : (B ≡ 512) ⊎ (B ≡ 4096) → Size B
    by_size (inl e) = subst Size (sym e) (record { least = omega arith; most = omega arith; ceil = refl; whole = refl })
    by_size (inr e) = subst Size (sym e) (record { least = omega arith; most = omega arith; ceil = refl; whole = refl })

-- one block less is one quotient less
one_less : (B n : ℕ) → 0 < B → B ≤ n → (n - B) / B ≡ n / B - 1
one_less B n h k =
    let e : n - B + B ≡ n = omega arith in
    let q : n / B ≡ (n - B) / B + 1 = subst (λ (m : ℕ). m / B ≡ (n - B) / B + 1) e (add-div_right (n - B) h) in
    omega (arith, q)

pub room : (B n : ℕ) → good_size B ≡ true → 2 * array_blocks B + 3 ≤ blocks B n - 1 → Room B n
unfolding first_usable_of last_usable_of back_array back_header
room B n g h =
    let s = size B g in
    let l = s.least in
    let A : ℕ = array_blocks B in
    let q : ℕ = n / B in
    let m : ℕ = n / B - array_blocks B - 1 in
    let w : array_blocks B * B ≡ 16384 = s.whole in
    let d : n / B * B ≤ n = div-mul-le_self n B in
    let eq : n / B ≡ (n / B - array_blocks B - 1) + array_blocks B + 1 = omega arith in
    let e1 : n / B - 1 ≡ (n / B - array_blocks B - 1) + array_blocks B = omega arith in
    let e2 : n / B - array_blocks B - 2 + 1 ≡ n / B - array_blocks B - 1 = omega arith in
    let t1 : (n / B - 1) * B ≡ (n / B - array_blocks B - 1) * B + array_blocks B * B = ap (λ (x : ℕ). x * B) e1 ∙ add-mul m A B in
    let t2 : n / B * B ≡ (n / B - 1) * B + B = ap (λ (x : ℕ). x * B) (omega arith) ∙ suc-mul (n / B - 1) B in
    let k : array_blocks B + 3 ≤ n / B - array_blocks B - 1 = omega arith in
    let u : (array_blocks B + 3) * B ≤ (n / B - array_blocks B - 1) * B = mul-le-mul_right B k in
    let v : (array_blocks B + 3) * B ≡ array_blocks B * B + 3 * B = add-mul A 3 B in
    let f : (2 + array_blocks B) * B ≡ 2 * B + array_blocks B * B = add-mul 2 A B in
    let o : 3 * B ≤ n / B * B = mul-le-mul_right B (omega arith) in
    record {
      good = g;
      least = l;
      most = s.most;
      ceil = s.ceil;
      few = div-le_self n B;
      count = h;
      low = omega arith;
      seam = omega arith;
      top = omega arith;
      first = omega arith;
      last = ap (λ (x : ℕ). x * B) e2;
      order = omega arith;
      block = ap (λ (x : ℕ). x * B) (one_less B n (omega arith) (omega arith));
      enough = omega arith;
    }
