-- Two maps with the same bits are the same two words, so a promise about `map_of` allows one map. No contract cites this file. Assumes nothing.
use mathlib.Core.Path.{◌≡◌, refl, sym, ap, ◌∙◌}
use mathlib.Core.Logic.{⊎_elim}
use mathlib.Core.Bool.{Bool}
use mathlib.Core.List.{List, [], ◌∷◌}
use Prim.Native.Nat.{ℕ, zero, suc, ◌+◌, ◌*◌, ◌/◌, ◌^◌, ◌<◌}
use native.Mathlib.Nat.{pow-suc}
use native.Mathlib.Omega.{arith}
use lib.ListN.{take, drop}
use lib.Seq.{take_at, drop_at}
use Rattle.units.specs.Answer.{pick}
use Rattle.units.specs.Refusals.{why_at, reason_of, reason-back}
use Rattle.slot_map.specs.declared.SlotMap.{SlotMap}
use Rattle.units.specs.declared.Reason.{Reason}
use Rattle.std.specs.Prelude.{Result, Ok, Err}
use Rattle.slot_map.specs.Map.{made_means}
use Rattle.slot_map.specs.Bits.{bits_of, map_of}
use Rattle.slot_map.proofs.BitLaws.{parity, length-bits}

-- the number of a list of bits
number_of : List Bool → ℕ
number_of [] = 0
number_of (b ∷ bs) = pick b 1 0 + 2 * number_of bs

bits_back : (n x : ℕ) → x < 2 ^ n → number_of (bits_of n x) ≡ x
unfolding bits_of number_of
bits_back zero x h = omega arith
bits_back (suc n) x h =
    let p : 2 ^ suc n ≡ 2 ^ n * 2 = pow-suc 2 n in
    let r : number_of (bits_of n (x / 2)) ≡ x / 2 = bits_back n (x / 2) (omega arith) in
    ⊎_elim (λ z. rw z (omega arith)) (λ z. rw z (omega arith)) (parity x)

word-one : (x y : ℕ) → x < 2 ^ 64 → y < 2 ^ 64 → bits_of 64 x ≡ bits_of 64 y → x ≡ y
word-one x y h k e = sym (bits_back 64 x h) ∙ ap number_of e ∙ bits_back 64 y k

pub map-one : (m n : SlotMap) → m.low < 2 ^ 64 → m.high < 2 ^ 64 → n.low < 2 ^ 64 → n.high < 2 ^ 64 → map_of m ≡ map_of n → m ≡ n
map-one m n a b c d e =
    let p : bits_of 64 m.low ≡ bits_of 64 n.low = sym (take_at (bits_of 64 m.low) (bits_of 64 m.high) 64 (length-bits 64 m.low)) ∙ ap (take 64) e ∙ take_at (bits_of 64 n.low) (bits_of 64 n.high) 64 (length-bits 64 n.low) in
    let q : bits_of 64 m.high ≡ bits_of 64 n.high = sym (drop_at (bits_of 64 m.low) (bits_of 64 m.high) 64 (length-bits 64 m.low)) ∙ ap (drop 64) e ∙ drop_at (bits_of 64 n.low) (bits_of 64 n.high) 64 (length-bits 64 n.low) in
    let x : m.low ≡ n.low = word-one m.low n.low a c p in
    let y : m.high ≡ n.high = word-one m.high n.high b d q in
    ap (λ (i : ℕ). record { low = i; high = m.high }) x ∙ ap (λ (i : ℕ). record { low = n.low; high = i }) y

-- so two answers of the making which mean the same are the same
pub record FitMade (r : Result SlotMap Reason) : Type 0 where
  pub low : (m : SlotMap) → r ≡ Ok m → m.low < 2 ^ 64
  pub high : (m : SlotMap) → r ≡ Ok m → m.high < 2 ^ 64

pub made_one : (r s : Result SlotMap Reason) → FitMade r → FitMade s → made_means r ≡ made_means s → r ≡ s
made_one (Ok m) (Ok n) f g e =
    let q : map_of m ≡ map_of n = cc in
    ap Ok (map-one m n (f.low m refl) (f.high m refl) (g.low n refl) (g.high n refl) q)
made_one (Ok m) (Err w) f g e = let z : ◌≡◌ {A = ℕ} 0 1 = cc in absurd (omega arith)
made_one (Err v) (Ok n) f g e = let z : ◌≡◌ {A = ℕ} 0 1 = cc in absurd (omega arith)
made_one (Err v) (Err w) f g e =
    let q : why_at v ≡ why_at w = cc in
    ap Err (sym (reason-back v) ∙ ap reason_of q ∙ reason-back w)
