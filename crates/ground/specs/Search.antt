-- What the leaves of the search promise. No public contract cites it. Assumes nothing.
use Rattle.std.specs.Prelude.{◌≡◌, ◌⊎◌, true, false, ◌&&◌, List, [], ◌∷◌, ℕ, ◌+◌, ◌-◌, ◌≤◌, ◌<◌, leb, ltb, length}
use Rattle.units.specs.Answer.{pick}
use Rattle.units.specs.Bytes.{part}
use Rattle.tables.specs.Places.{first_usable_of, last_usable_of}
use Rattle.tables.specs.Lens.{Front, copy_in}
use Rattle.tables.specs.Entries.{entry, used, first_of, last_of, entries_ok}
use Rattle.tables.specs.Check.{room_check}
use Rattle.ground.specs.declared.inner.Span.{Span}
use Rattle.ground.specs.declared.inner.Gap.{Gap}
use Rattle.ground.specs.Ground.{Run, free, runs_from, runs}

-- what the check has seen of a card of n bytes, and of the array at a place of ys
pub record Checked (B n : ℕ) (ys : List ℕ) (at : ℕ) : Type 0 where
  pub room : (room_check B n).number ≡ 0
  pub inside : at + 16384 ≤ length ys
  pub entries : entries_ok B n (part ys at 16384) ≡ true

-- the runs of a card, by the front table's own bytes
abbrev pub front_runs : ℕ → ℕ → List ℕ → List Run
front_runs B n ys = runs B n (copy_in B Front ys).array

-- where the search stands: x is usable or the block after the last usable one, and no used entry lies across it
pub record At (B n : ℕ) (arr : List ℕ) (x : ℕ) : Type 0 where
  pub low : first_usable_of B ≤ x
  pub high : x ≤ last_usable_of B n + 1
  pub clear : (k : ℕ) → k < 128 → used (entry arr k) ≡ true → first_of (entry arr k) < x → last_of (entry arr k) < x

-- one entry compared
unfoldable pub nearer_of : List ℕ → ℕ → Span → Span
nearer_of e x s =
    pick (leb x (first_of e) && (ltb (first_of e) s.first.0 && used e)) (record { first = record { 0 = first_of e }; last = record { 0 = last_of e } }) s

-- a span is that of a used entry below k, which starts at x or after it
pub record Taken (arr : List ℕ) (k x : ℕ) (s : Span) : Type 0 where
  pub place : ℕ
  pub below : place < k
  pub used : used (entry arr place) ≡ true
  pub first : first_of (entry arr place) ≡ s.first.0
  pub last : last_of (entry arr place) ≡ s.last.0
  pub from : x ≤ s.first.0

-- no used entry below k that starts at x or after it starts before the span
pub record Nearest (arr : List ℕ) (k x : ℕ) (none s : Span) : Type 0 where
  pub lowest : (j : ℕ) → j < k → used (entry arr j) ≡ true → x ≤ first_of (entry arr j) → s.first.0 ≤ first_of (entry arr j)
  pub taken : (s ≡ none) ⊎ Taken arr k x s

-- the runs from block x on
abbrev pub left : ℕ → ℕ → List ℕ → ℕ → List Run
left B n arr x = runs_from (free B n arr) false x (last_usable_of B n + 1 - x)

-- the next run and where the search goes on, or no blocks
pub record Next (B n : ℕ) (arr : List ℕ) (x : ℕ) (g : Gap) : Type 0 where
  pub at : At B n arr g.after.0
  pub some : 0 < g.blocks → (left B n arr x ≡ record { start = g.start.0; blocks = g.blocks } ∷ left B n arr g.after.0) × (x < g.after.0)
  pub none : g.blocks ≡ 0 → left B n arr x ≡ []
