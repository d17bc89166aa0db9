-- The laws of lists that were stored to: what a part of one holds, how two stores make one or change places, and what comes back from a lent part.
-- A store is `sets xs at vs`, and a part is `part xs at n`. No contract cites this file. Assumes nothing.
use mathlib.Core.Path.{◌≡◌, refl, sym, ap, ◌∙◌}
use mathlib.Core.Logic.{◌⊎◌, inl, inr}
use mathlib.Core.List.{List, [], ◌∷◌, ◌++◌, append-nil, append_assoc}
use Prim.Native.Nat.{ℕ, suc, ◌+◌, ◌-◌, ◌≤◌, ◌<◌}
use native.Mathlib.Nat.{add-zero, sub-zero, add-suc}
use native.Mathlib.Omega.{arith}
use lib.ListN.{length, take, drop, get_or, set, replicate, length-set, length-drop, drop_of_length-le, get_or-append}
use lib.Seq.{drop-cons, set-append_left, set_comm, drop-drop, sets, sets-eq, take_at, drop_at, take_all, take-add, take-take, take-append-le, drop-append-le, get_or-take, get_or-drop, get_or-set_other, length-take-le, drop-set-lt, drop-set-add, take-set-le}
use Rattle.std.proofs.lemmas.List.{drop-take, set-append_right}
use Rattle.units.specs.Bytes.{part}

-- ---- parts

pub length_part : (xs : List ℕ) (at n : ℕ) → at + n ≤ length xs → length (part xs at n) ≡ n
length_part xs at n h = length-take-le n (drop at xs) (simp length-drop (omega arith))

pub get_d_part : (xs : List ℕ) (at n i : ℕ) → i < n → get_or (part xs at n) i 0 ≡ get_or xs (at + i) 0
get_d_part xs at n i h = get_or-take n (drop at xs) i 0 h ∙ get_or-drop at xs i 0

-- a part of a part
pub part-part : (xs : List ℕ) (a n o m : ℕ) → o + m ≤ n → part (part xs a n) o m ≡ part xs (a + o) m
part-part xs a n o m h =
    let e : n ≡ o + (n - o) = omega arith in
    ap (λ (k : ℕ). take m (drop o (take k (drop a xs)))) e
    ∙ rw (drop-take o (n - o) (drop a xs), drop-drop o a xs) (take-take m (n - o) (drop (a + o) xs) (omega arith))

-- a part in two pieces
pub part-split : (xs : List ℕ) (at n m : ℕ) → part xs at (n + m) ≡ part xs at n ++ part xs (at + n) m
part-split xs at n m = take-add n m (drop at xs) ∙ rw (drop-drop n at xs)

-- two adjoining parts are one, each place and length under a name of its own
pub part_join : (xs : List ℕ) (at n k m l : ℕ) → at + n ≡ k → n + m ≡ l → part xs at n ++ part xs k m ≡ part xs at l
part_join xs at n k m l p q = rw (← p, ← q) (sym (part-split xs at n m))

-- the whole as a part
pub part-all : (xs : List ℕ) (n : ℕ) → length xs ≡ n → part xs 0 n ≡ xs
part-all xs n e = take_all n xs (omega arith)

-- the first element of a part that is left, and the rest
pub part_step : (xs : List ℕ) (at i n : ℕ) → i < n → at + n ≤ length xs
    → part xs (at + i) (n - i) ≡ get_or xs (at + i) 0 ∷ part xs (at + (i + 1)) (n - (i + 1))
part_step xs at i n h k =
    let a : n - i ≡ suc (n - (i + 1)) = omega arith in
    let b : at + (i + 1) ≡ suc (at + i) = omega arith in
    let l : at + i < length xs = omega arith in
    rw (a, b, drop-cons xs (at + i) 0 l)

-- where one piece of a list ends, the next begins
pub drop-next : (xs : List ℕ) (k : ℕ) (vs r : List ℕ) (m : ℕ) → drop k xs ≡ vs ++ r → k + length vs ≡ m → drop m xs ≡ r
drop-next xs k vs r m e h = rw (← h, ← drop-drop (length vs) k xs, e) (drop_at vs r (length vs) refl)

-- ---- what a list holds after a store

-- from the place of the store on: what was stored, and then what stood there
pub drop-sets : (xs : List ℕ) (at : ℕ) (vs : List ℕ) → at + length vs ≤ length xs → drop at (sets xs at vs) ≡ vs ++ drop (at + length vs) xs
drop-sets xs at vs h =
    rw (sets-eq vs xs at h, append_assoc) (drop_at (take at xs) (vs ++ drop (at + length vs) xs) at (length-take-le at xs (omega arith)))

-- a part inside the store
pub part_in : (xs : List ℕ) (at : ℕ) (vs : List ℕ) (o n : ℕ) → at + length vs ≤ length xs → o + n ≤ length vs → part (sets xs at vs) (at + o) n ≡ part vs o n
part_in xs at vs o n h k =
    let r : List ℕ = drop (at + length vs) xs in
    let l : o ≤ length vs = omega arith in
    let m : n ≤ length (drop o vs) = simp length-drop (omega arith) in
    rw (← drop-drop o at (sets xs at vs), drop-sets xs at vs h, drop-append-le o vs r l) (take-append-le n (drop o vs) r m)

-- all of it
pub part_same : (xs : List ℕ) (at : ℕ) (vs : List ℕ) → at + length vs ≤ length xs → part (sets xs at vs) at (length vs) ≡ vs
part_same xs at vs h = rw (drop-sets xs at vs h) (take_at vs (drop (at + length vs) xs) (length vs) refl)

part-set-before : (xs : List ℕ) (at v b n : ℕ) → b + n ≤ at → part (set xs at v) b n ≡ part xs b n
part-set-before xs at v b n h =
    let e : at ≡ b + (at - b) = omega arith in
    let l : n ≤ at - b = omega arith in
    rw e (rw (drop-set-add b xs (at - b) v) (take-set-le n (drop b xs) (at - b) v l))

-- a part beside the store is as it was
pub part_out : (xs : List ℕ) (at : ℕ) (vs : List ℕ) (b n : ℕ) → (b + n ≤ at) ⊎ (at + length vs ≤ b) → part (sets xs at vs) b n ≡ part xs b n
part_out xs at [] b n o = refl
part_out xs at (v ∷ vs) b n (inl h) = part_out (set xs at v) (suc at) vs b n (inl (omega arith)) ∙ part-set-before xs at v b n h
part_out xs at (v ∷ vs) b n (inr h) =
    let l : at < b = omega arith in
    part_out (set xs at v) (suc at) vs b n (inr (omega arith)) ∙ rw (drop-set-lt b xs at v l)

-- a place beside a run of places is beside the rest of it, and is not its first
past_first : (at n i : ℕ) → (i < at) ⊎ (at + suc n ≤ i) → (i < suc at) ⊎ (suc at + n ≤ i)
past_first at n i (inl h) = inl (omega arith)
past_first at n i (inr h) = inr (omega arith)

not_first : (at n i : ℕ) → (i < at) ⊎ (at + suc n ≤ i) → i ≡ at → ⊥
not_first at n i (inl h) e = omega arith
not_first at n i (inr h) e = omega arith

-- one element inside the store, and one beside it
pub get_d-in : (xs : List ℕ) (at : ℕ) (vs : List ℕ) (i : ℕ) → at + length vs ≤ length xs → i < length vs → get_or (sets xs at vs) (at + i) 0 ≡ get_or vs i 0
get_d-in xs at vs i h k =
    sym (get_or-drop at (sets xs at vs) i 0) ∙ rw (drop-sets xs at vs h) (get_or-append vs (drop (at + length vs) xs) 0 i k)

pub get_d-out : (xs : List ℕ) (at : ℕ) (vs : List ℕ) (i : ℕ) → (i < at) ⊎ (at + length vs ≤ i) → get_or (sets xs at vs) i 0 ≡ get_or xs i 0
get_d-out xs at [] i o = refl
get_d-out xs at (v ∷ vs) i o =
    get_d-out (set xs at v) (suc at) vs i (past_first at (length vs) i o) ∙ get_or-set_other xs at i v 0 (not_first at (length vs) i o)

-- ---- two stores

set-sets : (l : List ℕ) (i v b : ℕ) (zs : List ℕ) → (i < b) ⊎ (b + length zs ≤ i) → sets (set l i v) b zs ≡ set (sets l b zs) i v
set-sets l i v b [] o = refl
set-sets l i v b (z ∷ zs) o =
    rw (set_comm l i b v z (not_first b (length zs) i o)) (set-sets (set l b z) i v (suc b) zs (past_first b (length zs) i o))

-- two stores that share no place commute
pub sets-comm : (xs : List ℕ) (a : ℕ) (ys : List ℕ) (b : ℕ) (zs : List ℕ) → (a + length ys ≤ b) ⊎ (b + length zs ≤ a)
    → sets (sets xs a ys) b zs ≡ sets (sets xs b zs) a ys
sets-comm xs a [] b zs o = refl
sets-comm xs a (y ∷ ys) b zs (inl h) =
    sets-comm (set xs a y) (suc a) ys b zs (inl (omega arith)) ∙ rw (set-sets xs a y b zs (inl (omega arith)))
sets-comm xs a (y ∷ ys) b zs (inr h) =
    sets-comm (set xs a y) (suc a) ys b zs (inr (omega arith)) ∙ rw (set-sets xs a y b zs (inr (omega arith)))

-- a store, and a second that begins where it ends, is one store
pub sets_then : (l : List ℕ) (at : ℕ) (vs : List ℕ) (j : ℕ) (ws : List ℕ) → at + length vs ≡ j → sets (sets l at vs) j ws ≡ sets l at (vs ++ ws)
sets_then l at [] j ws e = rw (sym e ∙ add-zero at)
sets_then l at (v ∷ vs) j ws e = sets_then (set l at v) (suc at) vs j ws (omega arith)

-- the same as facts of a list that was stored to twice
pub and_then : (s : List ℕ) (at : ℕ) (vs : List ℕ) {s₁ : List ℕ} (j : ℕ) (ws : List ℕ) {s₂ : List ℕ} → at + length vs ≡ j → s₁ ≡ sets s at vs → s₂ ≡ sets s₁ j ws → s₂ ≡ sets s at (vs ++ ws)
and_then s at vs j ws h e f = f ∙ rw e (sets_then s at vs j ws h)

-- a list stored over a whole list of its length
pub sets-all : (l vs : List ℕ) → length l ≡ length vs → sets l 0 vs ≡ vs
sets-all l vs e =
    let f : 0 + length vs ≤ length l = omega arith in
    let g : length l ≤ 0 + length vs = omega arith in
    sets-eq vs l 0 f ∙ rw (drop_of_length-le l g) (append-nil vs)

-- ---- a loop that stores: the next element, and then what is left, is all

pub store-more : (s : List ℕ) (at i v : ℕ) (vs : List ℕ) → sets (set s (at + i) v) (at + (i + 1)) vs ≡ sets s (at + i) (v ∷ vs)
store-more s at i v vs = let b : at + (i + 1) ≡ suc (at + i) = omega arith in rw b

pub copy_more : (s : List ℕ) (at : ℕ) (src : List ℕ) (i : ℕ) → i < length src
    → sets (set s (at + i) (get_or src i 0)) (at + (i + 1)) (drop (i + 1) src) ≡ sets s (at + i) (drop i src)
copy_more s at src i h =
    let a : i + 1 ≡ suc i = omega arith in
    store-more s at i (get_or src i 0) (drop (i + 1) src) ∙ rw (drop-cons src i 0 h, a)

pub zeros-more : (s : List ℕ) (at i n : ℕ) → i < n
    → sets (set s (at + i) 0) (at + (i + 1)) (replicate (n - (i + 1)) 0) ≡ sets s (at + i) (replicate (n - i) 0)
zeros-more s at i n h =
    let a : n - i ≡ suc (n - (i + 1)) = omega arith in
    store-more s at i 0 (replicate (n - (i + 1)) 0) ∙ rw a

-- ---- a part of a list copied to the front of another

pub copy-first : (o s : List ℕ) (at : ℕ) → at + length o ≤ length s → sets o 0 (part s (at + 0) (length o - 0)) ≡ part s at (length o)
copy-first o s at h =
    simp (add-zero, sub-zero) (sets-all o (part s at (length o)) (sym (length_part s at (length o) h)))

pub copy_step : (o s : List ℕ) (at i n : ℕ) → i < n → at + n ≤ length s
    → sets (set o i (get_or s (at + i) 0)) (i + 1) (part s (at + (i + 1)) (n - (i + 1))) ≡ sets o i (part s (at + i) (n - i))
copy_step o s at i n h k =
    let b : i + 1 ≡ suc i = omega arith in
    rw (part_step s at i n h k, b)

-- ---- a lent part, `&mut s[at..at + n]`: what is lent, and the whole with ys come back in its place

pub lent-part : (xs : List ℕ) (at n : ℕ) → take (at + n - at) (drop at xs) ≡ part xs at n
lent-part xs at n = let e : at + n - at ≡ n = omega arith in rw e

pub length-lent : (xs : List ℕ) (at n : ℕ) → at + n ≤ length xs → length (take (at + n - at) (drop at xs)) ≡ n
length-lent xs at n h = rw (lent-part xs at n) (length_part xs at n h)

pub lent_back : (xs ys : List ℕ) (at n : ℕ) → at + n ≤ length xs → length ys ≡ n
    → take at xs ++ (ys ++ drop (at + n - at) (drop at xs)) ≡ sets xs at ys
lent_back xs ys at n h l =
    let f : at + length ys ≤ length xs = omega arith in
    let e : at + (at + n - at) ≡ at + length ys = omega arith in
    rw (sets-eq ys xs at f, append_assoc, drop-drop (at + n - at) at xs, e)

pub sets-right : (p q : List ℕ) (j : ℕ) (vs : List ℕ) → sets (p ++ q) (length p + j) vs ≡ p ++ sets q j vs
sets-right p q j [] = refl
sets-right p q j (v ∷ vs) =
    let e : length p + j - length p ≡ j = omega arith in
    rw (set-append_right p q (length p) (length p + j) v refl (omega arith), e, ← add-suc) (sets-right p (set q j v) (suc j) vs)

pub sets-left : (p q : List ℕ) (j : ℕ) (vs : List ℕ) → j + length vs ≤ length p → sets (p ++ q) j vs ≡ sets p j vs ++ q
sets-left p q j [] h = refl
sets-left p q j (v ∷ vs) h =
    let l : j < length p = omega arith in
    rw (set-append_left p q j v l) (sets-left (set p j v) q (suc j) vs (simp length-set (omega arith)))
