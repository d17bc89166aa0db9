-- What the powers, the runs of zero and the loop need. Assumes nothing.
use mathlib.Core.Path.{◌≡◌, refl, sym, ap, ◌∙◌}
use mathlib.Core.Bool.{Bool, true, ◌&&◌}
use mathlib.Core.List.{List, [], ◌∷◌}
use Prim.Native.Nat.{ℕ, zero, suc, ◌+◌, ◌*◌, ◌-◌, ◌^◌, ◌≤◌, ◌<◌}
use native.Mathlib.Omega.{arith}
use lib.Dec.{T, eqb, eqb→eq}
use store.Enc.{and_l, and_r}
use lib.ListN.{length, take, drop, get_or, replicate}
use Rattle.units.specs.Bytes.{part, all_zero}
use Rattle.units.proofs.Lists.{part-split}
use Rattle.units.proofs.Laws.{zero-append, zero-part}
use Rattle.crc32.specs.Crc.{steps, feed}
use Rattle.crc32.specs.Register.{steps-add, steps-fits, feed-zeros}
use Rattle.crc32.proofs.Laws.{feed-block}
use Rattle.crc32.proofs.Product.{product, product-steps}
use Rattle.crc32.specs.Rows.{Chunks}

-- ---- the constants: each is the one before it, times the second of them

abbrev pub onward : ℕ → ℕ → List ℕ → Bool
onward p x [] = true
onward p x (y ∷ ys) = eqb (product 32 0 p x) y && onward p y ys

gone : (p : ℕ) → p ≡ steps 1024 0x80000000 → (n x : ℕ) (xs : List ℕ) → x ≡ steps n 0x80000000 → T (onward p x xs)
    → (k : ℕ) → k ≤ length xs → get_or (x ∷ xs) k 0 ≡ steps (n + k * 1024) 0x80000000
gone p d n x xs e c zero h = e ∙ ap (λ (m : ℕ). steps m 0x80000000) {x = n} {y = n + 0 * 1024} (omega arith)
gone p d n x [] e c (suc k) h = absurd (omega arith)
gone p d n x (y ∷ ys) e c (suc k) h =
    let f : x < 2 ^ 32 = rw e (steps-fits n 0x80000000 (omega arith)) in
    let q : product 32 0 p x ≡ y = eqb→eq _ _ (and_l (eqb (product 32 0 p x) y) (onward p y ys) c) in
    let g : y ≡ steps (n + 1024) 0x80000000 = sym q ∙ product-steps 1024 p x d f ∙ ap (steps 1024) e ∙ sym (steps-add n 1024 0x80000000) in
    gone p d (n + 1024) y ys g (and_r (eqb (product 32 0 p x) y) (onward p y ys) c) k (omega arith)
    ∙ ap (λ (m : ℕ). steps m 0x80000000) {x = n + 1024 + k * 1024} {y = n + suc k * 1024} (omega arith)

pub chunks-rule : (n x p : ℕ) (xs : List ℕ) → suc (suc (length xs)) ≡ n → x ≡ 0x80000000 → p ≡ steps 1024 0x80000000 → T (onward p x (p ∷ xs)) → Chunks n (x ∷ p ∷ xs)
unfolding steps
chunks-rule n x p xs d e q c = record { entry = λ k h. gone p q 0 x (p ∷ xs) e c k (omega arith) ∙ ap (λ (m : ℕ). steps m 0x80000000) {x = 0 + k * 1024} {y = k * 1024} (omega arith) }

-- ---- runs of zero

pub zeros-none : (s : List ℕ) (at : ℕ) → all_zero (part s at (128 * 0)) ≡ true
unfolding all_zero
zeros-none s at = refl

pub zeros-more : (s : List ℕ) (at n m : ℕ) → all_zero (part s at (128 * n)) ≡ true → all_zero (part s (at + 128 * n) (128 * m)) ≡ true → all_zero (part s at (128 * (n + m))) ≡ true
zeros-more s at n m p q =
    ap (λ (k : ℕ). all_zero (part s at k)) {x = 128 * (n + m)} {y = 128 * n + 128 * m} (omega arith)
    ∙ ap all_zero (part-split s at (128 * n) (128 * m)) ∙ zero-append (part s at (128 * n)) (part s (at + 128 * n) (128 * m)) ∙ rw (p, q)

-- no run
pub past-none : (x n : ℕ) → n ≡ 0 → feed x (replicate (128 * n) 0) ≡ x
unfolding feed
past-none x n e = rw e

pub past-some : (x n : ℕ) → feed x (replicate (128 * n) 0) ≡ steps (n * 1024) x
past-some x n = feed-zeros (128 * n) x ∙ ap (λ (m : ℕ). steps m x) {x = 8 * (128 * n)} {y = n * 1024} (omega arith)

-- ---- the loop: bytes as they are, and a run of zero behind them

pub over : (s : List ℕ) (i e n x : ℕ) → i ≤ e → e + 128 * n ≤ length s → all_zero (part s e (128 * n)) ≡ true
    → feed (feed (feed x (take (e - i) (drop i s))) (replicate (128 * n) 0)) (drop (e + 128 * n) s) ≡ feed x (drop i s)
over s i e n x h l z =
    let y : ℕ = feed x (take (e - i) (drop i s)) in
    let d : i + (e - i) ≡ e = omega arith in
    sym
    (feed-block s (e - i) i x ∙ ap (λ (k : ℕ). feed y (drop k s)) d ∙ feed-block s (128 * n) e y
    ∙ ap (λ (v : List ℕ). feed (feed y v) (drop (e + 128 * n) s)) (zero-part s e (128 * n) l z))
