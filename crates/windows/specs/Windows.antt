-- Two windows of a card, the head and the tail, and a stated number of blocks, N. From document 02, 10/13: a call on them answers as on a whole image of that many blocks, and the
-- windows end as those blocks would, whatever the middle holds. So what a call does is said by the whole image that has zeros in the middle; that the middle does not matter is the
-- theorem of `windows_whole`. Assumes nothing.
use Rattle.std.specs.Prelude.{◌≡◌, not, ◌&&◌, List, ◌++◌, ℕ, ◌+◌, ◌*◌, ◌-◌, ◌^◌, eqb, leb, length}
use Rattle.std.proofs.Common.{sym, ◌∙◌}
use Rattle.units.specs.declared.Guid.{Guid}
use Rattle.units.specs.declared.why.Why.{Why}
use Rattle.units.specs.Answer.{Answer, refused, Outcome, plain, when, or_else, if_zero}
use Rattle.units.specs.Bytes.{part}
use Rattle.units.specs.Places.{good_size}
use Rattle.partition.specs.declared.Partition.{Partition}
use Rattle.tables.specs.Places.{back_array}
use Rattle.tables.specs.Lens.{Tables, copies}
use Rattle.tables.specs.Entries.{zeros}
use Rattle.tables.specs.Check.{room_check}
use Rattle.card.specs.Calls.{lay_outcome, put_outcome, clear_outcome, changed}

-- how long the windows are: blocks 0 to A + 1, which are block 0 and the front table; and the last A + 1 blocks, the back table
abbrev pub head_long : ℕ → ℕ
head_long B = B + (B + 16384)

abbrev pub tail_long : ℕ → ℕ
tail_long B = B + 16384

-- the windows of an image of n bytes
abbrev pub head_in : ℕ → List ℕ → List ℕ
head_in B xs = part xs 0 (head_long B)

abbrev pub tail_in : ℕ → ℕ → List ℕ → List ℕ
tail_in B n xs = part xs (back_array B n) (tail_long B)

-- the image of N blocks that has these windows, and zeros between them
unfoldable pub whole : ℕ → ℕ → List ℕ → List ℕ → List ℕ
whole B N head tail = head ++ (zeros (N * B - (length head + length tail)) ++ tail)

-- the tables in the windows: the front one after block 0 of the head, and the tail
abbrev pub window_tables : ℕ → List ℕ → List ℕ → Tables
window_tables B head tail = copies B (part head B (B + 16384)) tail

-- 32 if either window is not exactly that long; h and k are their lengths
unfoldable pub length_check : ℕ → ℕ → ℕ → Why
length_check B h k = when (not (eqb h (head_long B) && eqb k (tail_long B))) (plain 32)

-- 1 bad block size, 3 the blocks pass 64 bits, 8 and 10 by the stated number, 32
unfoldable pub window_check : ℕ → ℕ → ℕ → ℕ → Why
window_check B N h k =
    or_else (when (not (good_size B)) (plain 1))
    (or_else (when (leb (2 ^ 64) (N * B)) (plain 3))
    (or_else (room_check B (N * B))
    (length_check B h k)))

-- ---- a call that reads: refused by a number of the windows' own, or as on the whole image

unfoldable pub window_answer : {A : Type 0} → ℕ → ℕ → List ℕ → List ℕ → (List ℕ → Answer A) → Answer A
window_answer B N head tail f = let w : Why = window_check B N (length head) (length tail) in if_zero w.number (f (whole B N head tail)) (refused w)

-- ---- a call that stores

-- an answer, and what both windows hold at the end
pub record Windowed (A : Type 0) : Type 0 where
  pub answer : A
  pub head : List ℕ
  pub tail : List ℕ

-- what an outcome on an image of n bytes comes to in its windows
abbrev pub in_windows : {A : Type 0} → ℕ → ℕ → Outcome A → Windowed A
in_windows B n o = record { answer = o.answer; head = head_in B o.image; tail = tail_in B n o.image }

-- after w, a refusal of the windows' own: where there is none as on the whole image, else both windows as they were
unfoldable pub windowed_by : {A : Type 0} → Why → ℕ → ℕ → List ℕ → List ℕ → (List ℕ → Outcome (Answer A)) → Windowed (Answer A)
windowed_by w B N head tail f =
    if_zero w.number (in_windows B (N * B) (f (whole B N head tail)))
    (record { answer = refused w; head = head; tail = tail })

abbrev pub window_outcome : {A : Type 0} → ℕ → ℕ → List ℕ → List ℕ → (List ℕ → Outcome (Answer A)) → Windowed (Answer A)
window_outcome B N head tail f = windowed_by (window_check B N (length head) (length tail)) B N head tail f

-- lay, put and clear
abbrev pub lay_in : ℕ → ℕ → List ℕ → List ℕ → Guid → Windowed (Answer Unit)
lay_in B N head tail g = window_outcome B N head tail (λ (xs : List ℕ). lay_outcome B xs g)

abbrev pub put_in : ℕ → ℕ → List ℕ → List ℕ → ℕ → Partition → Windowed (Answer Unit)
put_in B N head tail s p = window_outcome B N head tail (λ (xs : List ℕ). put_outcome B xs s p)

abbrev pub clear_in : ℕ → ℕ → List ℕ → List ℕ → ℕ → Windowed (Answer Unit)
clear_in B N head tail s = window_outcome B N head tail (λ (xs : List ℕ). clear_outcome B xs s)

-- a call ends so: its answer and both windows at exit are those of the outcome
pub record WindowEnds {A : Type 0} (o : Windowed A) (r : A) (head tail : List ℕ) : Type 0 where
  pub answer : r ≡ o.answer
  pub front : head ≡ o.head
  pub back : tail ≡ o.tail

-- whatever the call, its promise allows one answer and one content of each window
pub window-unique : {A : Type 0} {o : Windowed A} {r s : A} {h i t u : List ℕ} → WindowEnds o r h t → WindowEnds o s i u → (r ≡ s) × (h ≡ i) × (t ≡ u)
window-unique p q = (p.answer ∙ sym q.answer, p.front ∙ sym q.front, p.back ∙ sym q.back)

-- ---- for the leaves

-- what refuses a call on windows that tests g of the card's length and of the tables
abbrev pub window_why : ℕ → ℕ → List ℕ → List ℕ → (ℕ → Tables → Why) → Why
window_why B N head tail g = or_else (window_check B N (length head) (length tail)) (g (N * B) (window_tables B head tail))

-- the tables in the windows of a card of n bytes, with a slot changed
abbrev pub changed_in : ℕ → ℕ → List ℕ → List ℕ → ℕ → List ℕ → Tables
changed_in B n head tail s e = changed B n (window_tables B head tail) s e
