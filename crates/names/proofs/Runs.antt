-- The loops of both calls: what each has stored so far, and each way on and out. Assumes nothing.
use mathlib.Core.Path.{◌≡◌, refl, sym, ap, ◌∙◌}
use mathlib.Core.List.{List, [], ◌++◌, append-nil, append_assoc}
use Prim.Native.Nat.{ℕ, zero, suc, ◌+◌, ◌≤◌, ◌<◌}
use native.Mathlib.Omega.{arith}
use borrow.Author.Tests.{lt-ltb, le-ltb, le-leb, lt-leb, eq-eqb, ne_eqb}
use lib.ListN.{length, take, replicate, length-append, length-replicate}
use lib.Seq.{sets, length-sets}
use Rattle.units.proofs.Lists.{sets_then, part_same}
use Rattle.names.specs.declared.NameOfText.{NameOfText}
use Rattle.names.specs.declared.inner.Scalar.{Scalar}
use Rattle.names.specs.Utf8.{scalar_at, units_of, utf8_of}
use Rattle.names.specs.NameTexts.{named, refused_name, name_from, name_of_text, unit_at, point_at, text_from, name_text}

-- ---- the name of a text

-- before a place: k units are stored, and from here the run is the whole text's
pub record Gone (text name : List ℕ) (at k : ℕ) : Type 0 where
  pub us : List ℕ
  pub fuel : ℕ
  pub enough : length text ≤ at + fuel
  pub count : length us ≡ k
  pub stored : name ≡ sets (replicate 36 0) 0 us
  pub rest : name_from fuel text at us ≡ name_of_text text

pub gone-start : (text : List ℕ) → Gone text (replicate 36 0) 0 0
unfolding name_of_text
gone-start text = record { us = []; fuel = length text; enough = omega arith; count = refl; stored = refl; rest = refl }

-- one character
module _ (text : List ℕ) (at : ℕ) {s : Scalar} (e : s ≡ scalar_at text at) (h : at < length text) where
  step-none : (us : List ℕ) → s.size ≡ 0 → (f : ℕ) → length text ≤ at + f → name_from f text at us ≡ refused_name 39 at
  unfolding name_from
  step-none us p zero l = absurd (omega arith)
  step-none us p (suc f) l = rw (lt-leb (length text) at h, ← e, eq-eqb s.size 0 p)

  step-zero : (us : List ℕ) → (s.size ≡ 0 → ⊥) → s.code ≡ 0 → (f : ℕ) → length text ≤ at + f → name_from f text at us ≡ refused_name 39 at
  unfolding name_from
  step-zero us p q zero l = absurd (omega arith)
  step-zero us p q (suc f) l = rw (lt-leb (length text) at h, ← e, ne_eqb s.size 0 p, eq-eqb s.code 0 q)

  step-full : (us : List ℕ) → (s.size ≡ 0 → ⊥) → (s.code ≡ 0 → ⊥) → 36 < length us + length (units_of s.code) → (f : ℕ) → length text ≤ at + f
      → name_from f text at us ≡ refused_name 40 at
  unfolding name_from
  step-full us p q r zero l = absurd (omega arith)
  step-full us p q r (suc f) l =
      rw (lt-leb (length text) at h, ← e, ne_eqb s.size 0 p, ne_eqb s.code 0 q, lt-ltb 36 (length us + length (units_of s.code)) r)

  pub step-on : (us : List ℕ) → (s.size ≡ 0 → ⊥) → (s.code ≡ 0 → ⊥) → length us + length (units_of s.code) ≤ 36 → (f : ℕ)
      → name_from (suc f) text at us ≡ name_from f text (at + s.size) (us ++ units_of s.code)
  unfolding name_from
  step-on us p q r f =
      rw (lt-leb (length text) at h, ← e, ne_eqb s.size 0 p, ne_eqb s.code 0 q, le-ltb 36 (length us + length (units_of s.code)) r)

pub step_end : (text : List ℕ) (at : ℕ) (us : List ℕ) → length text ≤ at → (f : ℕ) → name_from f text at us ≡ named us
unfolding name_from
step_end text at us h zero = refl
step_end text at us h (suc f) = rw (le-leb (length text) at h)

module _ {text name : List ℕ} {at k : ℕ} (g : Gone text name at k) where
  pub gone-end : length text ≤ at → record { number = 0; at = 0; name = name } ≡ name_of_text text
  gone-end h = rw g.stored (sym (step_end text at g.us h g.fuel) ∙ g.rest)

  module _ {s : Scalar} (e : s ≡ scalar_at text at) (h : at < length text) where
    pub gone-none : {r : NameOfText} → r ≡ refused_name 39 at → s.size ≡ 0 → r ≡ name_of_text text
    gone-none z p = z ∙ sym (step-none text at e h g.us p g.fuel g.enough) ∙ g.rest

    module _ (p : s.size ≡ 0 → ⊥) where
      pub gone-zero : {r : NameOfText} → r ≡ refused_name 39 at → s.code ≡ 0 → r ≡ name_of_text text
      gone-zero z q = z ∙ sym (step-zero text at e h g.us p q g.fuel g.enough) ∙ g.rest

      module _ (q : s.code ≡ 0 → ⊥) {n : ℕ} (c : n ≡ length (units_of s.code)) where
        pub gone-full : {r : NameOfText} → r ≡ refused_name 40 at → 36 < k + n → r ≡ name_of_text text
        gone-full z l = z ∙ sym (step-full text at e h g.us p q (omega (arith, g.count)) g.fuel g.enough) ∙ g.rest

        pub gone-on : {after : List ℕ} → after ≡ sets name k (units_of s.code) → k + n ≤ 36 → Gone text after (at + s.size) (k + n)
        gone-on {after} z l = go g.fuel g.enough g.rest
          where
            go : (f : ℕ) → length text ≤ at + f → name_from f text at g.us ≡ name_of_text text → Gone text after (at + s.size) (k + n)
            go zero m w = absurd (omega arith)
            go (suc f) m w =
                record {
                  us = g.us ++ units_of s.code;
                  fuel = f;
                  enough = omega arith;
                  count = omega (arith, length-append g.us (units_of s.code), g.count);
                  stored = z ∙ rw g.stored (sets_then (replicate 36 0) 0 g.us k (units_of s.code) (omega (arith, g.count)));
                  rest = sym (step-on text at e h g.us p q (omega (arith, g.count)) f) ∙ w;
                }

-- ---- the text of a name

-- before a unit: n bytes are stored, and with what is to come they are the whole text
pub record Told (name words : List ℕ) (i n : ℕ) : Type 0 where
  pub done : List ℕ
  pub fuel : ℕ
  pub enough : 36 ≤ i + fuel
  pub count : length done ≡ n
  pub stored : words ≡ sets (replicate 108 0) 0 done
  pub rest : done ++ text_from fuel name i ≡ name_text name

pub told-start : (name : List ℕ) → Told name (replicate 108 0) 0 0
unfolding name_text
told-start name = record { done = []; fuel = 36; enough = omega arith; count = refl; stored = refl; rest = refl }

pub text-end : (name : List ℕ) (i : ℕ) → unit_at name i ≡ 0 → (f : ℕ) → text_from f name i ≡ []
unfolding text_from
text-end name i h zero = refl
text-end name i h (suc f) = rw (eq-eqb (unit_at name i) 0 h)

pub text-on : (name : List ℕ) (i : ℕ) {p : Scalar} {u : ℕ} → u ≡ unit_at name i → p ≡ point_at name i → (u ≡ 0 → ⊥) → (f : ℕ)
    → text_from (suc f) name i ≡ utf8_of p.code ++ text_from f name (i + p.size)
unfolding text_from
text-on name i {p} {u} e q h f = rw (← e, ← q, ne_eqb u 0 h)

module _ {name words : List ℕ} {i n : ℕ} (t : Told name words i n) where
  pub told-room : length words ≡ 108
  told-room = ap length t.stored ∙ length-sets (replicate 108 0) 0 t.done ∙ length-replicate {A = ℕ} 108 0

  pub told-end : n ≤ 108 → unit_at name i ≡ 0 → take n words ≡ name_text name
  told-end l h =
      let z : List ℕ = replicate 108 0 in
      let m : 0 + length t.done ≤ length z = omega (arith, t.count, length-replicate {A = ℕ} 108 0) in
      rw (t.stored, ← t.count)
      (part_same z 0 t.done m ∙ sym (append-nil t.done) ∙ rw (text-end name i h t.fuel) at t.rest)

  pub told-on : {p : Scalar} {u m : ℕ} {after : List ℕ} → i < 36 → u ≡ unit_at name i → (u ≡ 0 → ⊥) → p ≡ point_at name i → 1 ≤ p.size
      → after ≡ sets words n (utf8_of p.code) → m ≡ length (utf8_of p.code) → Told name after (i + p.size) (n + m)
  told-on {p} {u} {m} {after} b e h q s a c = go t.fuel t.enough t.rest
    where
      go : (f : ℕ) → 36 ≤ i + f → t.done ++ text_from f name i ≡ name_text name → Told name after (i + p.size) (n + m)
      go zero k r = absurd (omega arith)
      go (suc f) k r =
          record {
            done = t.done ++ utf8_of p.code;
            fuel = f;
            enough = omega arith;
            count = omega (arith, length-append t.done (utf8_of p.code), t.count);
            stored = a ∙ rw t.stored (sets_then (replicate 108 0) 0 t.done n (utf8_of p.code) (omega (arith, t.count)));
            rest = append_assoc t.done (utf8_of p.code) (text_from f name (i + p.size)) ∙ rw (text-on name i e q h f) at r;
          }
