-- Both ways there and back. Reading the text of a name gives the name (`name_back`), for a name in which no surrogate lacks its partner and whose units behind the first zero are zero.
-- A text that gives a name gives such a one (`whole-name`), and the name's text is that text (`text-back`). Assumes nothing.
use mathlib.Core.Path.{◌≡◌, refl, sym, ap, ◌∙◌}
use mathlib.Core.Bool.{true, false}
use mathlib.Core.List.{List, [], ◌∷◌, ◌++◌, append-nil, append_assoc}
use Prim.Native.Nat.{ℕ, zero, suc, ◌+◌, ◌-◌, ◌/◌, ◌%◌, ◌≤◌, ◌<◌}
use native.Mathlib.Nat.{add-zero}
use native.Mathlib.Omega.{arith}
use borrow.Author.Tests.{ltb-false, leb-true, leb-false, eqb-false}
use lib.Dec.{leb, ltb, eqb}
use lib.ListN.{length, drop, get_or, replicate, length-append, length-replicate, replicate-append-replicate, drop_of_length-le}
use lib.Seq.{sets, take-length, get_or_at, get_or-append-add}
use Rattle.units.specs.Bytes.{all_zero}
use Rattle.units.proofs.Lists.{sets-all, sets-left}
use Rattle.units.proofs.Laws.{by-pick, zero-at, zero-part}
use Rattle.text.proofs.Laws.{between-true, in_between}
use Rattle.names.specs.declared.NameOfText.{NameOfText}
use Rattle.names.specs.declared.inner.Scalar.{Scalar}
use Rattle.text.specs.Ranges.{between}
use Rattle.names.specs.Utf8.{surrogate, scalar_at, units_of, utf8_of}
use Rattle.names.specs.NameTexts.{named, refused_name, name_from, name_of_text, unit_at, point_at, text_from, name_text}
use Rattle.names.proofs.Ways.{unit-here, point-plain}
use Rattle.names.proofs.Sizes.{one_unit, two-units, one-count, two-count, at-least-1}
use Rattle.names.proofs.Runs.{step-on, step_end, text-end, text-on}
use Rattle.names.proofs.Back.{split, scalar-back, paired, pair-back, pair-point, pair-scalar}
use Rattle.names.proofs.Decoded.{Read, read-at}

-- units that are characters, each one unit or a pair, and then zeros alone
pub data Whole : List ℕ → Type 0 where
  ended : {us : List ℕ} → all_zero us ≡ true → Whole us
  one : {u : ℕ} {us : List ℕ} → 0 < u → u < 65536 → surrogate u ≡ false → Whole us → Whole (u ∷ us)
  pair : {high low : ℕ} {us : List ℕ} → between 0xD800 high 0xDBFF ≡ true → between 0xDC00 low 0xDFFF ≡ true → Whole us → Whole (high ∷ low ∷ us)

-- the name that units and zeros make
abbrev whole : List ℕ → NameOfText
whole name = record { number = 0; at = 0; name = name }

-- ---- the end of a name

zeros-are : (xs : List ℕ) → all_zero xs ≡ true → xs ≡ replicate (length xs) 0
zeros-are xs z =
    let t = take-length xs in
    sym t ∙ zero-part xs 0 (length xs) (omega arith) (rw t z)

-- units with zeros behind them, up to 36, are the name
padded : (pre rest : List ℕ) → length pre + length rest ≡ 36 → all_zero rest ≡ true → sets (replicate 36 0) 0 pre ≡ pre ++ rest
padded pre rest h z =
    let a : List ℕ = replicate (length pre) 0 in
    let b : List ℕ = replicate (length rest) 0 in
    let e : replicate 36 0 ≡ a ++ b = ap (λ (n : ℕ). replicate n 0) (sym h) ∙ sym (replicate-append-replicate (length pre) (length rest) 0) in
    let l : length a ≡ length pre = length-replicate (length pre) 0 in
    let f : 0 + length pre ≤ length a = omega arith in
    ap (λ (x : List ℕ). sets x 0 pre) e ∙ sets-left a b 0 pre f ∙ rw (sets-all a pre l, ← zeros-are rest z)

-- what a unit stands for that is no surrogate, and what a pair does
plain_at : (name : List ℕ) (i u : ℕ) → u ≡ unit_at name i → surrogate u ≡ false → record { size = 1; code = u } ≡ point_at name i
unfolding point_at
plain_at name i u e s = rw (← e) (point-plain u (unit_at name (i + 1)) (sym s) refl)

pair-at : (name : List ℕ) (i high low : ℕ) → high ≡ unit_at name i → low ≡ unit_at name (i + 1) → between 0xD800 high 0xDBFF ≡ true → between 0xDC00 low 0xDFFF ≡ true
    → record { size = 2; code = paired high low } ≡ point_at name i
unfolding point_at
pair-at name i high low e f p q = rw (← e, ← f) (pair-point high low p q)

module _ (name text : List ℕ) where
  unit-ended : (pre rest : List ℕ) (i : ℕ) → length pre ≡ i → name ≡ pre ++ rest → all_zero rest ≡ true → unit_at name i ≡ 0
  unfolding unit_at
  unit-ended pre rest i e n z =
      let g : get_or name i 0 ≡ 0 =
      rw (n, ← e, ← add-zero (length pre)) (get_or-append-add pre rest 0 0 ∙ zero-at rest 0 z) in
      by-pick (λ (u : ℕ). u ≡ 0) (leb 36 i) 0 (get_or name i 0) (λ _. refl) (λ _. g)

  back-ended : (pre rest : List ℕ) (i : ℕ) → length pre ≡ i → i + length rest ≡ 36 → name ≡ pre ++ rest → all_zero rest ≡ true
      → (done : List ℕ) (at k f : ℕ) → length done ≡ at → text ≡ done ++ text_from k name i → name_from f text at pre ≡ whole name
  back-ended pre rest i e h n z done at k f d t =
      let x : text ≡ done = t ∙ rw (text-end name i (unit-ended pre rest i e n z) k) (append-nil done) in
      let l : length text ≤ at = rw x (omega arith) in
      step_end text at pre l f ∙ ap whole (padded pre rest (omega arith) z ∙ sym n)

  -- ---- one character more

  back_on : {r : NameOfText} (v : ℕ) (pre done more : List ℕ) (at f : ℕ) → text ≡ done ++ (utf8_of v ++ more) → length done ≡ at → length text ≤ at + f
      → v < 0x110000 → false ≡ surrogate v → (v ≡ 0 → ⊥) → length pre + length (units_of v) ≤ 36
      → ((g : ℕ) → length text ≤ at + length (utf8_of v) + g → name_from g text (at + length (utf8_of v)) (pre ++ units_of v) ≡ r)
      → name_from f text at pre ≡ r
  back_on v pre done more at zero t d l a b c m go =
      absurd (omega (arith, ap length t, length-append done (utf8_of v ++ more), length-append (utf8_of v) more, at-least-1 v))
  back_on v pre done more at (suc f) t d l a b c m go =
      let s : record { size = length (utf8_of v); code = v } ≡ scalar_at text at = rw (t, ← d) (scalar-back done more v a b) in
      let h : at < length text =
      omega (arith, ap length t, length-append done (utf8_of v ++ more), length-append (utf8_of v) more, at-least-1 v) in
      step-on text at s h pre (λ z. omega (arith, at-least-1 v)) c m f ∙ go f (omega (arith, at-least-1 v))

  back : {rest : List ℕ} → Whole rest → (pre : List ℕ) (i : ℕ) → length pre ≡ i → i + length rest ≡ 36 → name ≡ pre ++ rest
      → (done : List ℕ) (at k f : ℕ) → length done ≡ at → 36 ≤ i + k → text ≡ done ++ text_from k name i → length text ≤ at + f → name_from f text at pre ≡ whole name
  back {rest} (ended z) pre i e h n done at k f d m t l = back-ended pre rest i e h n z done at k f d t
  back (one p q s w) pre i e h n done at zero f d m t l = absurd (omega arith)
  back (one {u} {us} p q s w) pre i e h n done at (suc k) f d m t l =
      let b : i < 36 = omega arith in
      let x : u ≡ unit_at name i = sym (rw n (get_or_at pre u us 0 i e)) ∙ unit-here name i b in
      let y : text_from (suc k) name i ≡ utf8_of u ++ text_from k name (i + 1) =
      text-on name i x (plain_at name i u x s) (λ z. omega arith) k in
      let o : units_of u ≡ u ∷ [] = one_unit u q in
      back_on u pre done (text_from k name (i + 1)) at f (t ∙ rw y) d l (omega arith) (sym s) (λ z. omega arith) (rw o (omega arith))
      (λ g j.
      back w (pre ++ units_of u) (i + 1) (rw o (omega (arith, length-append pre (u ∷ [])))) (omega arith) (rw (o, append_assoc) n)
      (done ++ utf8_of u) (at + length (utf8_of u)) k g (omega (arith, length-append done (utf8_of u))) (omega arith) (rw append_assoc (t ∙ rw y)) j)
  back (pair p q w) pre i e h n done at zero f d m t l = absurd (omega arith)
  back (pair {high} {low} {us} p q w) pre i e h n done at (suc k) f d m t l =
      let v : ℕ = paired high low in
      let b : i + 1 < 36 = omega arith in
      let c : i < 36 = omega arith in
      let r : List ℕ = high ∷ low ∷ us in
      let x : high ≡ unit_at name i = sym (rw n (get_or_at pre high (low ∷ us) 0 i e)) ∙ unit-here name i c in
      let y : low ≡ unit_at name (i + 1) = sym (rw (n, ← e) (get_or-append-add pre r 1 0)) ∙ unit-here name (i + 1) b in
      let z : text_from (suc k) name i ≡ utf8_of v ++ text_from k name (i + 2) =
      text-on name i x (pair-at name i high low x y p q) (λ j. omega (arith, (between-true 0xD800 high 0xDBFF p).0)) k in
      let o : units_of v ≡ high ∷ low ∷ [] = pair-back high low p q in
      back_on v pre done (text_from k name (i + 2)) at f (t ∙ rw z) d l (omega arith) (pair-scalar high low) (λ j. omega arith) (rw o (omega arith))
      (λ g j.
      back w (pre ++ units_of v) (i + 2) (rw o (omega (arith, length-append pre (high ∷ low ∷ [])))) (omega arith) (rw (o, append_assoc) n)
      (done ++ utf8_of v) (at + length (utf8_of v)) k g (omega (arith, length-append done (utf8_of v))) (omega arith) (rw append_assoc (t ∙ rw z)) j)

-- reading the text of a name gives the name back
pub name_back : (name : List ℕ) → Whole name → length name ≡ 36 → name_of_text (name_text name) ≡ whole name
unfolding name_of_text name_text
name_back name w e =
    back name (text_from 36 name 0) w [] 0 refl (omega arith) refl [] 0 36 (length (text_from 36 name 0)) refl (omega arith) refl (omega arith)

-- ---- from the text to the name, and back

zeros-zero : (n : ℕ) → all_zero (replicate n 0) ≡ true
unfolding all_zero
zeros-zero zero = refl
zeros-zero (suc n) = zeros-zero n

-- the two units of a scalar value past 65535
module _ (v : ℕ) (h : 65536 ≤ v) (k : v < 0x110000) where
  high-in : between 0xD800 (0xD800 + (v - 65536) / 1024) 0xDBFF ≡ true
  high-in = sym (in_between 0xD800 (0xD800 + (v - 65536) / 1024) 0xDBFF (omega arith) (omega arith))

  low-in : between 0xDC00 (0xDC00 + (v - 65536) % 1024) 0xDFFF ≡ true
  low-in = sym (in_between 0xDC00 (0xDC00 + (v - 65536) % 1024) 0xDFFF (omega arith) (omega arith))

  of_pair : paired (0xD800 + (v - 65536) / 1024) (0xDC00 + (v - 65536) % 1024) ≡ v
  of_pair = omega arith

module _ (v : ℕ) (k : v < 0x110000) (s : surrogate v ≡ false) (z : v ≡ 0 → ⊥) where
  -- a character in front of a whole name
  whole-more : (rest : List ℕ) → Whole rest → Whole (units_of v ++ rest)
  whole-more rest w =
      split v 65536
      (λ h. rw (one_unit v h) (one {u = v} (omega arith) h s w))
      (λ h. rw (two-units v h) (pair (high-in v h k) (low-in v h k) w))

  -- its bytes stand in front of the name's text
  text-more : (name pre rest : List ℕ) → name ≡ pre ++ (units_of v ++ rest) → length pre + length (units_of v) ≤ 36 → (j : ℕ)
      → text_from (suc j) name (length pre) ≡ utf8_of v ++ text_from j name (length pre + length (units_of v))
  text-more name pre rest n m j = split v 65536 small large
    where
      i : ℕ
      i = length pre

      small : v < 65536 → text_from (suc j) name i ≡ utf8_of v ++ text_from j name (i + length (units_of v))
      small h =
          let o : units_of v ≡ v ∷ [] = one_unit v h in
          let b : i < 36 = omega (arith, ap length o) in
          let x : v ≡ unit_at name i = sym (rw (n, o) (get_or_at pre v rest 0 i refl)) ∙ unit-here name i b in
          rw o (text-on name i x (plain_at name i v x s) z j)

      large : 65536 ≤ v → text_from (suc j) name i ≡ utf8_of v ++ text_from j name (i + length (units_of v))
      large h =
          let high : ℕ = 0xD800 + (v - 65536) / 1024 in
          let low : ℕ = 0xDC00 + (v - 65536) % 1024 in
          let o : units_of v ≡ high ∷ low ∷ [] = two-units v h in
          let b : i + 1 < 36 = omega (arith, ap length o) in
          let c : i < 36 = omega arith in
          let x : high ≡ unit_at name i = sym (rw (n, o) (get_or_at pre high (low ∷ rest) 0 i refl)) ∙ unit-here name i c in
          let y : low ≡ unit_at name (i + 1) = sym (rw (n, o) (get_or-append-add pre (high ∷ low ∷ rest) 1 0)) ∙ unit-here name (i + 1) b in
          let t = text-on name i x (pair-at name i high low x y (high-in v h k) (low-in v h k)) (λ e. omega arith) j in
          rw o (rw (of_pair v h k) at t)

some-units : (v : ℕ) → 1 ≤ length (units_of v)
some-units v = split v 65536 (λ h. omega (arith, one-count v h)) (λ h. omega (arith, two-count v h))

-- from a place of the text on, with the units of what stands before it: the units to come, and that their text is what is left
record Forth (text name us : List ℕ) (at : ℕ) : Type 0 where
  rest : List ℕ
  whole : Whole rest
  is : name ≡ us ++ rest
  count : length us + length rest ≡ 36
  told : (k : ℕ) → 36 ≤ length us + k → text_from k name (length us) ≡ drop at text

record Comes (text us : List ℕ) (at : ℕ) (r : NameOfText) : Type 0 where
  comes : r.number ≡ 0 → Forth text r.name us at

module _ (text : List ℕ) where
  comes-end : (us : List ℕ) (at : ℕ) → length text ≤ at → length us ≤ 36 → Comes text us at (named us)
  comes-end us at h m =
      let r : List ℕ = replicate (36 - length us) 0 in
      let c : length us + length r ≡ 36 = omega (arith, length-replicate {A = ℕ} (36 - length us) 0) in
      let z : all_zero r ≡ true = zeros-zero (36 - length us) in
      let n : sets (replicate 36 0) 0 us ≡ us ++ r = padded us r c z in
      record {
        comes = λ _.
            record {
              rest = r;
              whole = ended z;
              is = n;
              count = c;
              told = λ k l. text-end (sets (replicate 36 0) 0 us) (length us) (unit-ended (sets (replicate 36 0) 0 us) text us r (length us) refl n z) k ∙ sym (drop_of_length-le text h);
            };
      }

  comes-39 : (us : List ℕ) (at x : ℕ) → Comes text us at (refused_name 39 x)
  comes-39 us at x = record { comes = λ e. absurd (omega arith) }

  comes-40 : (us : List ℕ) (at x : ℕ) → Comes text us at (refused_name 40 x)
  comes-40 us at x = record { comes = λ e. absurd (omega arith) }

  -- one character more, whose value is v and which takes n bytes
  module _ (name us : List ℕ) (at : ℕ) (s : Scalar) (d : Read text at s) (p : s.size ≡ 0 → ⊥) (q : s.code ≡ 0 → ⊥) (m : length us + length (units_of s.code) ≤ 36) where
    told_more : (rest : List ℕ) → name ≡ us ++ (units_of s.code ++ rest)
        → ((k : ℕ) → 36 ≤ length (us ++ units_of s.code) + k → text_from k name (length (us ++ units_of s.code)) ≡ drop (at + s.size) text)
        → (k : ℕ) → 36 ≤ length us + k → text_from k name (length us) ≡ drop at text
    told_more rest n g zero h = absurd (omega (arith, some-units s.code))
    told_more rest n g (suc k) h =
        let l : length (us ++ units_of s.code) ≡ length us + length (units_of s.code) = length-append us (units_of s.code) in
        let b : 36 ≤ length (us ++ units_of s.code) + k = omega (arith, some-units s.code) in
        text-more s.code d.code (d.scalar p) q name us rest n m k ∙ rw (← l, g k b) (sym (d.bytes p))

    forth-on : Forth text name (us ++ units_of s.code) (at + s.size) → Forth text name us at
    forth-on f =
        let n : name ≡ us ++ (units_of s.code ++ f.rest) = f.is ∙ append_assoc us (units_of s.code) f.rest in
        record {
          rest = units_of s.code ++ f.rest;
          whole = whole-more s.code d.code (d.scalar p) q f.rest f.whole;
          is = n;
          count = omega (arith, f.count, length-append us (units_of s.code), length-append (units_of s.code) f.rest);
          told = told_more f.rest n f.told;
        }

  comes-on : {r : NameOfText} (us : List ℕ) (at : ℕ) (s : Scalar) → Read text at s → (s.size ≡ 0 → ⊥) → (s.code ≡ 0 → ⊥) → length us + length (units_of s.code) ≤ 36
      → Comes text (us ++ units_of s.code) (at + s.size) r → Comes text us at r
  comes-on {r} us at s d p q m c = record { comes = λ e. forth-on r.name us at s d p q m (c.comes e) }

  forth : (f at : ℕ) (us : List ℕ) → length text ≤ at + f → length us ≤ 36 → Comes text us at (name_from f text at us)
  unfolding name_from
  forth zero at us l m = comes-end us at (omega arith) m
  forth (suc f) at us l m =
      let s : Scalar = scalar_at text at in
      let n : ℕ = length us + length (units_of s.code) in
      by-pick (Comes text us at) (leb (length text) at) _ _
      (λ p. comes-end us at (leb-true (length text) at p) m)
      (λ o. by-pick (Comes text us at) (eqb s.size 0) _ _
      (λ _. comes-39 us at at)
      (λ p. by-pick (Comes text us at) (eqb s.code 0) _ _
      (λ _. comes-39 us at at)
      (λ q. by-pick (Comes text us at) (ltb 36 n) _ _
      (λ _. comes-40 us at at)
      (λ r.
      let z : s.size ≡ 0 → ⊥ = eqb-false s.size 0 p in
      let b : n ≤ 36 = ltb-false 36 n r in
      comes-on us at s (read-at text at (leb-false (length text) at o)) z (eqb-false s.code 0 q) b
      (forth f (at + s.size) (us ++ units_of s.code) (omega arith) (omega (arith, length-append us (units_of s.code))))))))

  -- a text that gives a name
  module _ (e : (name_of_text text).number ≡ 0) where
    read-forth : Forth text (name_of_text text).name [] 0
    unfolding name_of_text
    read-forth = (forth (length text) 0 [] (omega arith) (omega arith)).comes e

    pub whole-name : Whole (name_of_text text).name × (length (name_of_text text).name ≡ 36)
    whole-name = (rw read-forth.is read-forth.whole, ap length read-forth.is ∙ omega (arith, read-forth.count))

    pub text-back : name_text (name_of_text text).name ≡ text
    unfolding name_text
    text-back = read-forth.told 36 (omega arith)
