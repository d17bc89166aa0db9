-- What document 02 says of the runs determines them: any list of maximal runs that is complete and ascends is the list `runs`. No contract cites this file. Assumes nothing.
use mathlib.Core.Path.{◌≡◌, refl, ap, subst}
use mathlib.Core.List.{List, [], ◌∷◌}
use Prim.Native.Nat.{ℕ, zero, suc, ◌≤◌, ◌<◌}
use native.Mathlib.Omega.{arith}
use lib.ListN.{length}
use Rattle.tables.specs.Check.{room_check}
use Rattle.tables.proofs.EntryLaws.{Entries}
use Rattle.ground.specs.Ground.{Run, free, runs}
use Rattle.ground.specs.Facts.{Maximal, nth, Among, Facts}
use Rattle.ground.proofs.Theorems.{facts}

abbrev Rising : List Run → Type 0
Rising rs = (j k : ℕ) → j < k → k < length rs → (nth rs j).start < (nth rs k).start

rising-rest : (r : Run) (rs : List Run) → Rising (r ∷ rs) → Rising rs
rising-rest r rs h j k p q = h (suc j) (suc k) (omega arith) (omega arith)

-- a member of an ascending list starts where the first does, and is the first, or starts after it
later : (r : Run) (rs : List Run) → Rising (r ∷ rs) → (q : Run) → (k : ℕ) → k < length (r ∷ rs) → nth (r ∷ rs) k ≡ q → r.start ≤ q.start
later r rs h q zero l e = omega (arith, ap (λ (r : Run). r.start) e)
later r rs h q (suc k) l e = omega (arith, h 0 (suc k) (omega arith) l, ap (λ (r : Run). r.start) e)

-- a member that starts where the first does is the first
first-is : (r : Run) (rs : List Run) → Rising (r ∷ rs) → (q : Run) → (k : ℕ) → k < length (r ∷ rs) → nth (r ∷ rs) k ≡ q → q.start ≤ r.start → r ≡ q
first-is r rs h q zero l e o = e
first-is r rs h q (suc k) l e o = absurd (omega (arith, h 0 (suc k) (omega arith) l, ap (λ (r : Run). r.start) e))

-- a member that starts after the first is one of the rest
among-rest : (r : Run) (rs : List Run) (q : Run) → (k : ℕ) → k < length (r ∷ rs) → nth (r ∷ rs) k ≡ q → r.start < q.start → Among rs q
among-rest r rs q zero l e o = absurd (omega (arith, ap (λ (r : Run). r.start) e))
among-rest r rs q (suc k) l e o = (k, omega arith, e)

same-list : (xs ys : List Run) → Rising xs → Rising ys → ((r : Run) → Among xs r → Among ys r) → ((r : Run) → Among ys r → Among xs r) → xs ≡ ys
same-list [] [] u v f g = refl
same-list [] (b ∷ ys) u v f g = let a = g b (0, omega arith, refl) in absurd (omega (arith, a.1))
same-list (a ∷ xs) [] u v f g = let b = f a (0, omega arith, refl) in absurd (omega (arith, b.1))
same-list (a ∷ xs) (b ∷ ys) u v f g =
    let x = f a (0, omega arith, refl) in
    let y = g b (0, omega arith, refl) in
    let o : b.start ≤ a.start = later b ys v a x.0 x.1 x.2 in
    let p : a.start ≤ b.start = later a xs u b y.0 y.1 y.2 in
    let e : b ≡ a = first-is b ys v a x.0 x.1 x.2 p in
    let t : xs ≡ ys =
    same-list xs ys (rising-rest a xs u) (rising-rest b ys v)
    (λ r k.
    let m = f r (suc k.0, omega (arith, k.1), k.2) in
    let s : a.start < r.start = omega (arith, u 0 (suc k.0) (omega arith) (omega (arith, k.1)), ap (λ (r : Run). r.start) k.2) in
    among-rest b ys r m.0 m.1 m.2 (omega arith))
    (λ r k.
    let m = g r (suc k.0, omega (arith, k.1), k.2) in
    let s : b.start < r.start = omega (arith, v 0 (suc k.0) (omega arith) (omega (arith, k.1)), ap (λ (r : Run). r.start) k.2) in
    among-rest a xs r m.0 m.1 m.2 (omega arith)) in
    cc

pub runs-single : (B n : ℕ) (arr : List ℕ) → (room_check B n).number ≡ 0 → Entries B n arr → (rs : List Run)
    → ((k : ℕ) → k < length rs → Maximal (free B n arr) (nth rs k))
    → ((r : Run) → Maximal (free B n arr) r → Among rs r)
    → Rising rs → rs ≡ runs B n arr
runs-single B n arr h g rs m c u =
    let f : Facts B n arr (runs B n arr) = facts B n arr h g in
    same-list rs (runs B n arr) u (λ j k p q. omega (arith, f.ascending j k p q))
    (λ r k. f.complete r (subst (Maximal (free B n arr)) k.2 (m k.0 k.1)))
    (λ r k. c r (subst (Maximal (free B n arr)) k.2 (f.maximal k.0 k.1)))
