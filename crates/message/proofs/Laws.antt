-- Laws of the words: the slot in brackets, and how long a message is. Assumes nothing.
use mathlib.Core.Path.{◌≡◌, refl, sym}
use mathlib.Core.List.{List, [], ◌∷◌, ◌++◌}
use Prim.Native.Nat.{ℕ, ◌+◌, ◌≤◌}
use native.Mathlib.Omega.{arith}
use lib.ListN.{length, take, set, length-append}
use lib.Seq.{sets}
use Rattle.units.proofs.Lists.{and_then, part_same}
use Rattle.text.specs.Texts.{ascii}
use Rattle.message.specs.Words.{text_at, decimal, bracketed, slot_words}

pub length-bracketed : (slot : ℕ) → length (bracketed slot) ≡ 7 + length (decimal slot) + 1
length-bracketed slot = rw (length-append (decimal slot) (41 ∷ [])) (omega arith)

-- the bracket, the digits and the bracket one behind the other
pub bracket-stored : (s : List ℕ) (at slot : ℕ) {s₁ s₂ : List ℕ} {end : ℕ} → end ≡ at + 7 + length (decimal slot) → s₁ ≡ sets s at (ascii " (slot ") → s₂ ≡ sets s₁ (at + 7) (decimal slot)
    → set s₂ end 41 ≡ sets s at (bracketed slot)
bracket-stored s at slot {s₁} {s₂} {end} h e f =
    and_then s at (ascii " (slot ") (at + 7) (decimal slot ++ (41 ∷ [])) refl e
    (and_then s₁ (at + 7) (decimal slot) end (41 ∷ []) (sym h) f refl)

-- ---- a line and the slot behind it

pub composed : (out : List ℕ) (line slot : ℕ) {n r : ℕ} {s₁ s₂ : List ℕ} → n ≡ length (text_at line) → s₁ ≡ sets out 0 (text_at line) → r ≡ n + length (slot_words line slot)
    → s₂ ≡ sets s₁ n (slot_words line slot) → (r ≡ length (text_at line ++ slot_words line slot)) × (s₂ ≡ sets out 0 (text_at line ++ slot_words line slot))
composed out line slot {n} h e g f =
    (rw (length-append (text_at line) (slot_words line slot)) (omega (arith, g, h)), and_then out 0 (text_at line) n (slot_words line slot) (omega (arith, h)) e f)

-- what was stored at the start of a list is its first part
pub stored-first : (xs vs : List ℕ) (n : ℕ) → n ≡ length vs → length vs ≤ length xs → take n (sets xs 0 vs) ≡ vs
stored-first xs vs n e h = rw e (part_same xs 0 vs (omega arith))
