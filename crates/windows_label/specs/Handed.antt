-- Labels and sets of a card by two windows. The maps are in no window, so the caller hands in the 13 bytes of each slot's label; whether the slot is one of the card's and used is said by the windows.
-- From document 02, 13/13 and 10/13: reading one label, the windows' numbers and the card check's, 18, 23, 2 if fewer than 13 bytes are handed in, 34, 35, 36; a set, 1, 38, the windows', the check's, 2 if not 13 bytes
-- a slot are handed in, and then slot by slot as on an image. "A repeated slot is judged as one" (document 02, 13/13): by the label at its first place in the list. Assumes nothing.
use Rattle.std.specs.Prelude.{None, not, List, [], ◌∷◌, ℕ, suc, ◌*◌, eqb, length}
use Rattle.units.specs.declared.BytePlace.{BytePlace}
use Rattle.units.specs.Answer.{Answer, accepted, refused, plain, pick, and_then}
use Rattle.units.specs.Bytes.{part}
use Rattle.units.specs.Places.{good_size}
use Rattle.tables.specs.Check.{check_answer}
use Rattle.card.specs.Calls.{place_answer}
use Rattle.label.specs.declared.Label.{Label}
use Rattle.label.specs.Labels.{label_in}
use Rattle.label.specs.Judging.{Shown, SetAnswer, refused_at, judge_from}
use Rattle.windows.specs.Windows.{window_answer}

-- the label of slot s, whose bytes are ls: the slot first, and then the bytes
unfoldable pub handed_label : ℕ → ℕ → List ℕ → List ℕ → ℕ → List ℕ → Answer Label
handed_label B N head tail s ls = and_then (window_answer B N head tail (λ (xs : List ℕ). place_answer B xs s 0 13)) (λ (p : BytePlace). label_in ls)

-- the place of the first number of a list that is s, counted from 0; the list's length where there is none
unfoldable pub first_place : List ℕ → ℕ → ℕ
first_place [] s = 0
first_place (t ∷ ts) s = pick (eqb t s) 0 (suc (first_place ts s))

-- the slots ss, each with the 13 bytes at its first place in the whole list, which is all. Document 02, 13/13: "A repeated slot is judged as one", so the bytes at its later places
-- are not looked at
unfoldable pub handed_from : ℕ → ℕ → List ℕ → List ℕ → List ℕ → List ℕ → List ℕ → List Shown
handed_from B N head tail all ls [] = []
handed_from B N head tail all ls (s ∷ ss) = record { slot = s; label = handed_label B N head tail s (part ls (13 * first_place all s) 13) } ∷ handed_from B N head tail all ls ss

-- what the check refuses, with no slot of the list
abbrev pub after_check : Answer Unit → SetAnswer → SetAnswer
after_check (accepted x) r = r
after_check (refused w) r = refused_at w 0

unfoldable pub handed_set : ℕ → ℕ → List ℕ → List ℕ → List ℕ → List ℕ → SetAnswer
handed_set B N head tail ss ls =
    pick (not (good_size B)) (refused_at (plain 1) 0)
    (pick (eqb (length ss) 0) (refused_at (plain 38) 0)
    (after_check (window_answer B N head tail (check_answer B))
    (pick (not (eqb (length ls) (13 * length ss))) (refused_at (plain 2) 0)
    (judge_from None (handed_from B N head tail ss ls ss)))))
