-- How an answer of the card calls crosses, one law for each way that the code makes one; what holds of the ported calls too is in answers_c/proofs/Laws. No contract cites this file. Assumes nothing.
use mathlib.Core.Path.{◌≡◌, refl, sym, ap, ◌∙◌}
use mathlib.Core.Bool.{Bool}
use mathlib.Core.List.{List, []}
use Prim.Native.Nat.{ℕ, zero, suc}
use lib.ListN.{length}
use Rattle.units.specs.declared.why.Why.{Why}
use Rattle.units.specs.Answer.{Answer, accepted, refused, fine, if_zero}
use Rattle.rows.specs.declared.Entry.{Entry}
use Rattle.rows.specs.Plans.{roomed}
use Rattle.ground.specs.Answers.{Rows, RowsEnd}
use Rattle.slot_map.specs.declared.SlotMap.{SlotMap}
use Rattle.slot_map.specs.Bits.{map_of}
use Rattle.slot_map.proofs.BitLaws.{map-none}
use Rattle.windows.specs.Windows.{whole, window_check, window_answer, Windowed, WindowEnds}
use Rattle.card_c.specs.declared.answers.CardAnswer.{CardAnswer}
use Rattle.card_c.specs.CardExports.{rows_to_c, why_to_c, crossed_at, map_bits, made_told, MadeToC}
use Rattle.card_c.specs.Windows.{window_to_c}

-- a call that lends two rows and ends in an outcome ends in the outcome so told
pub told-rows : {A C : Type 0} (f : A → C) (o : Rows A) {a : A} {r : C} {s l : List ℕ} → RowsEnd o a s l → r ≡ f a → RowsEnd (rows_to_c f o) r s l
told-rows f o e q = record { answer = q ∙ ap f e.answer; starts = e.starts; lengths = e.lengths }

-- the laws of the answers that say the place
module _ {A S : Type 0} (make : CardAnswer → A → S) (z : A) where
  pub card-fine : (a : Answer A) {x : A} → a ≡ accepted x → make (why_to_c fine) x ≡ crossed_at make z a
  unfolding crossed_at
  card-fine a e = sym (ap (crossed_at make z) e)

  pub card-no : (a : Answer A) {w : Why} {k : CardAnswer} → a ≡ refused w → k ≡ why_to_c w → make k z ≡ crossed_at make z a
  unfolding crossed_at
  card-no a e q = ap (λ (i : CardAnswer). make i z) q ∙ sym (ap (crossed_at make z) e)

-- and of a map that is made, zero beside a refusal
module _ (a : Answer (List Bool)) where
  told-map : (k : CardAnswer) (m : SlotMap) → k ≡ made_told a → map_of m ≡ map_bits a → MadeToC a (record { number = k.number; place = k.place; differs = k.differs; map = m })
  told-map k m t e = record { number = ap (λ (i : CardAnswer). i.number) t; place = ap (λ (i : CardAnswer). i.place) t; differs = ap (λ (i : CardAnswer). i.differs) t; map = e }

  pub map-fine : {m : SlotMap} → a ≡ accepted (map_of m) → MadeToC a (record { number = 0; place = 0; differs = 0; map = m })
  unfolding map_bits
  map-fine {m} e = told-map (why_to_c fine) m (card-fine (λ k bs. k) [] a e) (sym (ap map_bits e))

  pub map-no : {w : Why} {k : CardAnswer} → a ≡ refused w → k ≡ why_to_c w → MadeToC a (record { number = k.number; place = k.place; differs = k.differs; map = record { low = 0; high = 0 } })
  unfolding map_bits
  map-no {w} {k} e q = told-map k (record { low = 0; high = 0 }) (card-no (λ k bs. k) [] a e q) (map-none ∙ sym (ap map_bits e))

-- ---- the calls on two windows

-- a call that ends so in both windows ends in the outcome so told
pub told-window : {A C : Type 0} (f : A → C) (o : Windowed A) {a : A} {r : C} {h t : List ℕ} → WindowEnds o a h t → r ≡ f a → WindowEnds (window_to_c f o) r h t
told-window f o e q = record { answer = q ∙ ap f e.answer; front = e.front; back = e.back }

-- the windows' own numbers come before the 15 of the lent rows
pub window-within : (B N : ℕ) (head tail : List ℕ) (m : ℕ) (f g : List ℕ → Answer (List Entry)) → ((xs : List ℕ) → roomed m (f xs) ≡ g xs) → roomed m (window_answer B N head tail f) ≡ window_answer B N head tail g
unfolding window_answer roomed
window-within B N head tail m f g e = by (window_check B N (length head) (length tail)) (window_check B N (length head) (length tail)).number
  where
    by : (w : Why) (n : ℕ) → roomed m (if_zero n (f (whole B N head tail)) (refused w)) ≡ if_zero n (g (whole B N head tail)) (refused w)
    by w zero = e (whole B N head tail)
    by w (suc n) = refl
