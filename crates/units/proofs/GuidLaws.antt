-- The laws of the GUID's sixteen bytes: what is stored reads back, what is read is stored back, and which GUID is nil. No contract cites this file.
-- Assumes nothing.
use mathlib.Core.Path.{◌≡◌, refl, sym, ap, ◌∙◌}
use mathlib.Core.Bool.{true, ◌&&◌}
use mathlib.Core.List.{List, ◌∷◌, ◌++◌, append_assoc}
use Prim.Native.Nat.{ℕ, ◌+◌, ◌-◌, ◌≤◌, ◌<◌}
use native.Mathlib.Nat.{add-zero, add_assoc}
use native.Mathlib.Omega.{arith}
use lib.Dec.{eqb}
use lib.ListN.{length, drop, get_or, length-append}
use lib.Seq.{sets, get_or-drop}
use borrow.Author.Tests.{eqb-true}
use denote.Shadow.{shadow}
use denote.Struct.Declared.{row}
use mir.Val.{Val}
use Rattle.units.specs.contracts.Guid.{the_type}
use Rattle.units.specs.declared.Tail.{Tail}
use Rattle.units.specs.declared.Guid.{Guid}
use Rattle.units.specs.Bytes.{part, num, bytes, all_zero}
use Rattle.units.specs.Guids.{tail_at, tail_bytes, guid_at, guid_bytes, nil_guid, is_nil}
use Rattle.units.specs.Held.{Small, FitGuid, GuidHeld}
use Rattle.units.proofs.Lists.{get_d_part, part-split, part_step, drop-sets}
use Rattle.units.proofs.Laws.{length-bytes, num-part, num-drop, num-here, num-next, Low, low-append, low-bytes, small-eight, bytes-num, zero-append, zero-bytes, zero-at, and_assoc, and_both}

pub length-guid : (g : Guid) → length (guid_bytes g) ≡ 16
length-guid g = simp (length-append, length-bytes)

-- a GUID that the code holds fits: what owning it tells
pub fit-guid-of : (g : Guid) (vs : List Val) → shadow ((row the_type).own_val g vs) → FitGuid g
fit-guid-of g vs o = let f = o.1.1 in record { low = f.0.1; mid = f.1.0.1; high = f.1.1.0.1 }

-- and so do its last eight bytes: every GUID that the code owns is held
pub guid-held-of : (g : Guid) (vs : List Val) → shadow ((row the_type).own_val g vs) → GuidHeld g
guid-held-of g vs o =
    let t = o.1.1.1.1.1.0.1.1 in
    let u = t.1.1.1.1 in
    record {
      fields = fit-guid-of g vs o;
      tail =
          small-eight t.0.1 t.1.0.1 t.1.1.0.1 t.1.1.1.0.1
          u.0.1 u.1.0.1 u.1.1.0.1 u.1.1.1.0.1;
    }

-- every byte of a GUID is a byte
pub low-guid : (g : Guid) → GuidHeld g → Low (guid_bytes g)
low-guid g h = low-append (low-bytes 4 _) (low-append (low-bytes 2 _) (low-append (low-bytes 2 _) (record { each = h.tail })))

guid-eq : {a b c a' b' c' : ℕ} {t t' : Tail} → a ≡ a' → b ≡ b' → c ≡ c' → t ≡ t'
    → ◌≡◌ {A = Guid}
    (record { time_low = a; time_mid = b; time_high = c; tail = t })
    (record { time_low = a'; time_mid = b'; time_high = c'; tail = t' })
guid-eq p q r s = cc

tail-eq : {a b c d e f g h a' b' c' d' e' f' g' h' : ℕ} → a ≡ a' → b ≡ b' → c ≡ c' → d ≡ d' → e ≡ e' → f ≡ f' → g ≡ g' → h ≡ h'
    → ◌≡◌ {A = Tail}
    (record { 0 = a; 1 = b; 2 = c; 3 = d; 4 = e; 5 = f; 6 = g; 7 = h })
    (record { 0 = a'; 1 = b'; 2 = c'; 3 = d'; 4 = e'; 5 = f'; 6 = g'; 7 = h' })
tail-eq p q r s t u v w = cc

-- ---- what was stored reads back

-- a GUID further on
pub guid-drop : (xs : List ℕ) (at j : ℕ) → guid_at xs (at + j) ≡ guid_at (drop at xs) j
guid-drop xs at j = simp (add_assoc, ← num-drop, get_or-drop)

tail-here : (a b c : ℕ) (t : Tail) (r : List ℕ) → tail_at (bytes 4 a ++ (bytes 2 b ++ (bytes 2 c ++ (tail_bytes t ++ r)))) 8 ≡ t
unfolding bytes
tail-here a b c t r = refl

-- a GUID that a list begins with
pub guid-here : (g : Guid) (r : List ℕ) → FitGuid g → guid_at (guid_bytes g ++ r) 0 ≡ g
guid-here g r h =
    let a : ℕ = g.time_low in
    let b : ℕ = g.time_mid in
    let c : ℕ = g.time_high in
    let D : List ℕ = tail_bytes g.tail ++ r in
    let C : List ℕ = bytes 2 c ++ D in
    let B : List ℕ = bytes 2 b ++ C in
    let e : guid_bytes g ++ r ≡ bytes 4 a ++ B = simp append_assoc in
    let fa : num (bytes 4 a ++ B) 0 4 ≡ a = num-here 4 a B h.low in
    let fb : num (bytes 4 a ++ B) 4 2 ≡ b = num-next 4 a B 0 2 ∙ num-here 2 b C h.mid in
    let fc : num (bytes 4 a ++ B) 6 2 ≡ c = num-next 4 a B 2 2 ∙ num-next 2 b C 0 2 ∙ num-here 2 c D h.high in
    ap (λ (xs : List ℕ). guid_at xs 0) e ∙ guid-eq fa fb fc (tail-here a b c g.tail r)

pub guid-back : (g : Guid) (xs : List ℕ) (at : ℕ) → FitGuid g → at + 16 ≤ length xs → guid_at (sets xs at (guid_bytes g)) at ≡ g
guid-back g xs at f h =
    let l : length (guid_bytes g) ≡ 16 = length-guid g in
    sym (ap (λ (k : ℕ). guid_at (sets xs at (guid_bytes g)) k) (add-zero at))
    ∙ guid-drop (sets xs at (guid_bytes g)) at 0
    ∙ rw (drop-sets xs at (guid_bytes g) (omega arith)) (guid-here g (drop (at + length (guid_bytes g)) xs) f)

-- a GUID in a part of a list
tail-in-part : (xs : List ℕ) (a n o : ℕ) → o + 8 ≤ n → tail_at (part xs a n) o ≡ tail_at xs (a + o)
tail-in-part xs a n o h =
    let s : (k : ℕ) → o + k < n → get_or (part xs a n) (o + k) 0 ≡ get_or xs (a + o + k) 0 = λ k l. get_d_part xs a n (o + k) l ∙ rw (add_assoc a o k) in
    tail-eq
    (get_d_part xs a n o (omega arith))
    (s 1 (omega arith))
    (s 2 (omega arith))
    (s 3 (omega arith))
    (s 4 (omega arith))
    (s 5 (omega arith))
    (s 6 (omega arith))
    (s 7 (omega arith))

pub guid-part : (xs : List ℕ) (a n o : ℕ) → o + 16 ≤ n → guid_at (part xs a n) o ≡ guid_at xs (a + o)
guid-part xs a n o h =
    let s : (k m : ℕ) → o + k + m ≤ n → num (part xs a n) (o + k) m ≡ num xs (a + o + k) m = λ k m l. num-part xs a n (o + k) m l ∙ rw (add_assoc a o k) in
    guid-eq
    (num-part xs a n o 4 (omega arith))
    (s 4 2 (omega arith))
    (s 6 2 (omega arith))
    (tail-in-part xs a n (o + 8) (omega arith) ∙ rw (add_assoc a o 8))

-- ---- what was read is stored back

pub tail-part : (xs : List ℕ) (at : ℕ) → at + 8 ≤ length xs → tail_bytes (tail_at xs at) ≡ part xs at 8
tail-part xs at h =
    let s : (i : ℕ) → i < 8 → part xs (at + i) (8 - i) ≡ get_or xs (at + i) 0 ∷ part xs (at + (i + 1)) (8 - (i + 1)) = λ i k. part_step xs at i 8 k h in
    rw (rw (add-zero at) at (s 0 (omega arith)), s 1 (omega arith), s 2 (omega arith), s 3 (omega arith), s 4 (omega arith), s 5 (omega arith), s 6 (omega arith), s 7 (omega arith))

pub guid-bytes-back : (xs : List ℕ) (at : ℕ) → at + 16 ≤ length xs → Small xs → guid_bytes (guid_at xs at) ≡ part xs at 16
guid-bytes-back xs at h b =
    let e : at + 4 + 2 ≡ at + 6 = omega arith in
    let f : at + 6 + 2 ≡ at + 8 = omega arith in
    rw (bytes-num xs at 4 (omega arith) b, bytes-num xs (at + 4) 2 (omega arith) b, bytes-num xs (at + 6) 2 (omega arith) b, tail-part xs (at + 8) (omega arith))
    (sym (part-split xs at 4 12 ∙ rw (rw e at (part-split xs (at + 4) 2 10), rw f at (part-split xs (at + 6) 2 8))))

-- ---- the nil GUID

pub nil-is-nil : is_nil nil_guid ≡ true
unfolding is_nil all_zero bytes
nil-is-nil = refl

-- nil by its fields, as the code tests it
pub nil-fields : (g : Guid) → FitGuid g
    → is_nil g ≡ (((eqb g.time_low 0 && eqb g.time_mid 0) && eqb g.time_high 0) && all_zero (tail_bytes g.tail))
unfolding is_nil
nil-fields g h =
    let a : ℕ = g.time_low in
    let b : ℕ = g.time_mid in
    let c : ℕ = g.time_high in
    let t : List ℕ = tail_bytes g.tail in
    rw (
      zero-append (bytes 4 a) (bytes 2 b ++ (bytes 2 c ++ t)),
      zero-append (bytes 2 b) (bytes 2 c ++ t),
      zero-append (bytes 2 c) t,
      zero-bytes 4 a h.low,
      zero-bytes 2 b h.mid,
      zero-bytes 2 c h.high,
      and_assoc (eqb a 0 && eqb b 0) (eqb c 0) (all_zero t),
      and_assoc (eqb a 0) (eqb b 0) (eqb c 0 && all_zero t),
    )

-- the one GUID that is nil
pub is-nil-one : (g : Guid) → FitGuid g → is_nil g ≡ true → g ≡ nil_guid
is-nil-one g h e =
    let a = and_both _ _ (sym (nil-fields g h) ∙ e) in
    let b = and_both _ _ a.0 in
    let c = and_both _ _ b.0 in
    let z : (k : ℕ) → get_or (tail_bytes g.tail) k 0 ≡ 0 = λ k. zero-at (tail_bytes g.tail) k a.1 in
    guid-eq (eqb-true _ 0 c.0) (eqb-true _ 0 c.1) (eqb-true _ 0 b.1) (tail-eq (z 0) (z 1) (z 2) (z 3) (z 4) (z 5) (z 6) (z 7))
