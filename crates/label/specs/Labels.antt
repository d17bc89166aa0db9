-- The label of a map: the 13 bytes that its partition begins with, what refuses them, and what they tell.
-- From document 02, 13/13: mark FBM, 16-bit version 1, 16-bit year, month and day of one byte, 16-bit style revision, 16-bit sheet number, little-endian;
-- 34 another mark, 35 another version, 36 a month that is not 1 to 12 or a day that is not 1 to 31, in any month. Assumes nothing.
use Rattle.std.specs.Prelude.{Bool, not, ◌&&◌, List, [], ◌∷◌, ◌++◌, ℕ, ◌^◌, ◌<◌, eqb, leb, ltb, length, get_or}
use Rattle.units.specs.declared.why.Why.{Why}
use Rattle.units.specs.Answer.{Answer, plain, when, or_else, judged}
use Rattle.units.specs.Bytes.{part, num, bytes, same}
use Rattle.label.specs.declared.Label.{Label}
use Rattle.label.specs.declared.Dated.{Dated}

-- the letters F, B, M
abbrev pub mark : List ℕ
mark = 0x46 ∷ 0x42 ∷ 0x4D ∷ []

-- from low to high
unfoldable pub between : ℕ → ℕ → ℕ → Bool
between low x high = leb low x && leb x high

-- month 1 to 12, day 1 to 31
abbrev pub good_date : ℕ → ℕ → Bool
good_date month day = between 1 month 12 && between 1 day 31

-- the fields in the first 13 bytes of xs: mark at place 0, version 3, year 5, month 7, day 8, style revision 9, sheet 11
abbrev pub label_at : List ℕ → Label
label_at xs = record { year = num xs 5 2; month = get_or xs 7 0; day = get_or xs 8 0; style = num xs 9 2; sheet = num xs 11 2 }

-- 34 mark, 35 version, 36 date
unfoldable pub label_check : List ℕ → Why
label_check xs =
    or_else (when (not (same (part xs 0 3) mark)) (plain 34))
    (or_else (when (not (eqb (num xs 3 2) 1)) (plain 35))
    (when (not (good_date (get_or xs 7 0) (get_or xs 8 0))) (plain 36)))

-- the label of 13 bytes or more, those after the 13th not looked at
abbrev pub label_of : List ℕ → Answer Label
label_of xs = judged (label_check xs) (label_at xs)

-- 2 of fewer
unfoldable pub label_in : List ℕ → Answer Label
label_in xs = judged (or_else (when (ltb (length xs) 13) (plain 2)) (label_check xs)) (label_at xs)

-- the bytes of a label, the version always 1
unfoldable pub label_bytes : Label → List ℕ
label_bytes l = mark ++ (bytes 2 1 ++ (bytes 2 l.year ++ (l.month ∷ l.day ∷ (bytes 2 l.style ++ bytes 2 l.sheet))))

-- what a set of maps has in common: the date and the style revision, not the sheet
abbrev pub dated_of : Label → Dated
dated_of l = record { year = l.year; month = l.month; day = l.day; style = l.style }

-- two dates with their revisions are the same
unfoldable pub same_dated : Dated → Dated → Bool
same_dated d e = eqb d.year e.year && (eqb d.month e.month && (eqb d.day e.day && eqb d.style e.style))

-- a label as the code can hold it: each number fits its field
pub record LabelHeld (l : Label) : Type 0 where
  pub year : l.year < 2 ^ 16
  pub month : l.month < 2 ^ 8
  pub day : l.day < 2 ^ 8
  pub style : l.style < 2 ^ 16
  pub sheet : l.sheet < 2 ^ 16
