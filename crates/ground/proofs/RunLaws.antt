-- The laws of runs, for any test f of which blocks are free. No contract cites this file. Assumes nothing.
use mathlib.Core.Path.{◌≡◌, refl, sym, ap, ◌∙◌, subst}
use mathlib.Core.Bool.{Bool, true, false}
use mathlib.Core.List.{[], ◌∷◌}
use Prim.Native.Nat.{ℕ, zero, suc, ◌+◌, ◌-◌, ◌≤◌, ◌<◌}
use native.Mathlib.Omega.{arith}
use Rattle.tables.proofs.Orders.{split}
use Rattle.ground.specs.Ground.{reach, runs_from}

-- every block of d from x on answers t
abbrev pub Each : (ℕ → Bool) → Bool → ℕ → ℕ → Type 0
Each f t x d = (y : ℕ) → x ≤ y → y < x + d → f y ≡ t

module _ (f : ℕ → Bool) where
  more : (t : Bool) (x d : ℕ) → Each f t x (suc d) → Each f t (suc x) d
  more t x d h y p q = h y (omega arith) (omega arith)

  -- blocks that are not free are passed over
  pub pass-used : (d x m : ℕ) → Each f false x d → runs_from f false x (d + m) ≡ runs_from f false (x + d) m
  unfolding runs_from
  pass-used zero x m h = let e : x + 0 ≡ x = omega arith in let o : 0 + m ≡ m = omega arith in rw (e, o)
  pass-used (suc d) x m h =
      let u : f x ≡ false = h x (omega arith) (omega arith) in
      let e : x + suc d ≡ suc x + d = omega arith in
      let n : suc d + m ≡ suc (d + m) = omega arith in
      rw (e, n, runs_from, u) (pass-used d (suc x) m (more false x d h))

  -- free blocks behind a free one start no run
  pub pass-free : (d x m : ℕ) → Each f true x d → runs_from f true x (d + m) ≡ runs_from f true (x + d) m
  unfolding runs_from
  pass-free zero x m h = let e : x + 0 ≡ x = omega arith in let o : 0 + m ≡ m = omega arith in rw (e, o)
  pass-free (suc d) x m h =
      let u : f x ≡ true = h x (omega arith) (omega arith) in
      let e : x + suc d ≡ suc x + d = omega arith in
      let n : suc d + m ≡ suc (d + m) = omega arith in
      rw (e, n, runs_from, u) (pass-free d (suc x) m (more true x d h))

  -- how far a run reaches
  pub reaches : (d x m : ℕ) → Each f true x d → (0 < m → f (x + d) ≡ false) → reach f x (d + m) ≡ d
  unfolding reach
  reaches zero x zero h k = refl
  reaches zero x (suc m) h k = let e : x + 0 ≡ x = omega arith in let u : f x ≡ false = ap f (sym e) ∙ k (omega arith) in let o : 0 + suc m ≡ suc m = omega arith in rw (o, reach, u)
  reaches (suc d) x m h k =
      let u : f x ≡ true = h x (omega arith) (omega arith) in
      let e : x + suc d ≡ suc x + d = omega arith in
      let n : suc d + m ≡ suc (d + m) = omega arith in
      rw (n, u) (ap suc (reaches d (suc x) m (more true x d h) (λ l. ap f (sym e) ∙ k l)))

  -- before a block that is not free, what stood before it does not matter
  pub before-used : (t : Bool) (x m : ℕ) → (0 < m → f x ≡ false) → runs_from f t x m ≡ runs_from f false x m
  unfolding runs_from
  before-used t x zero h = refl
  before-used t x (suc m) h = let u : f x ≡ false = h (omega arith) in rw u

  -- d free blocks and c that are not, and then m others
  pub run-first : (d c x m : ℕ) → Each f true x (suc d) → Each f false (x + suc d) c → (0 < m → 0 < c)
      → runs_from f false x (suc d + (c + m)) ≡ record { start = x; blocks = suc d } ∷ runs_from f false (x + suc d + c) m
  unfolding runs_from
  run-first d c x m h k l =
      let u : f x ≡ true = h x (omega arith) (omega arith) in
      let s : 0 < c + m → f (x + suc d) ≡ false = λ z. k (x + suc d) (omega arith) (split 1 c (λ o. omega arith) (λ o. split 1 m (λ p. omega (arith, l p)) (λ p. absurd (omega arith)))) in
      let n : suc d + (c + m) ≡ suc (d + (c + m)) = omega arith in
      let e : suc x + d ≡ x + suc d = omega arith in
      let r : reach f x (suc (d + (c + m))) ≡ suc d = ap (reach f x) (sym n) ∙ reaches (suc d) x (c + m) h s in
      let p : runs_from f true (suc x) (d + (c + m)) ≡ runs_from f false (x + suc d + c) m =
      pass-free d (suc x) (c + m) (more true x d h) ∙ ap (λ (y : ℕ). runs_from f true y (c + m)) e ∙ before-used true (x + suc d) (c + m) s ∙ pass-used c (x + suc d) m k in
      rw (n, runs_from, u, r, p)

-- from x to y free, from y to z not free
module _ (f : ℕ → Bool) (x y z e : ℕ) (free : (w : ℕ) → x ≤ w → w < y → f w ≡ true) (held : (w : ℕ) → y ≤ w → w < z → f w ≡ false) where
  pub step_run : x < y → y ≤ z → z ≤ e → (z < e → y < z) → runs_from f false x (e - x) ≡ record { start = x; blocks = y - x } ∷ runs_from f false z (e - z)
  step_run a b c o =
      let d : ℕ = y - x - 1 in
      let q : suc d ≡ y - x = omega arith in
      let p : x + suc d ≡ y = omega arith in
      let s : suc d + (z - y + (e - z)) ≡ e - x = omega arith in
      let t : x + suc d + (z - y) ≡ z = omega arith in
      let r = run-first f d (z - y) x (e - z) (λ w g h. free w g (omega arith)) (λ w g h. held w (omega arith) (omega arith)) (λ g. omega (arith, o (omega arith))) in
      subst (λ (i : ℕ). runs_from f false x (e - x) ≡ record { start = x; blocks = y - x } ∷ runs_from f false i (e - z)) t
      (subst (λ (i : ℕ). runs_from f false x (e - x) ≡ record { start = x; blocks = i } ∷ runs_from f false (x + suc d + (z - y)) (e - z)) q
      (subst (λ (i : ℕ). runs_from f false x i ≡ record { start = x; blocks = suc d } ∷ runs_from f false (x + suc d + (z - y)) (e - z)) s r))

  pub step-none : x ≡ y → y ≤ z → z ≤ e → runs_from f false x (e - x) ≡ runs_from f false z (e - z)
  step-none a b c =
      let s : (z - x) + (e - z) ≡ e - x = omega arith in
      let t : x + (z - x) ≡ z = omega arith in
      subst (λ (i : ℕ). runs_from f false x (e - x) ≡ runs_from f false i (e - z)) t
      (subst (λ (i : ℕ). runs_from f false x i ≡ runs_from f false (x + (z - x)) (e - z)) s
      (pass-used f (z - x) x (e - z) (λ w g h. held w (omega arith) (omega arith))))

  pub step_end : e ≤ x → runs_from f false x (e - x) ≡ []
  unfolding runs_from
  step_end h = let q : e - x ≡ 0 = omega arith in rw q
