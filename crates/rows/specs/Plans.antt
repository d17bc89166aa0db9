-- A reading before a row is lent to it: a plan by value, which says where the array stands, how many of its entries are listed, and whether the reading accepts.
-- Every call that fills a row makes such a plan; only 15 depends on the row. From document 01, "Reading the array" and "Listing". Assumes nothing.
use Rattle.std.specs.Prelude.{◌≡◌, Result, Ok, Err, Bool, true, false, List, map, ℕ, ◌*◌, ◌≤◌, ltb, length}
use Rattle.units.specs.declared.Slot.{Slot}
use Rattle.units.specs.declared.Place.TheVariants as place
use Rattle.units.specs.declared.Reason.{Reason}
use Rattle.units.specs.declared.Refusal.{Refusal}
use Rattle.units.specs.declared.Refusal.TheVariants as refusal
use Rattle.units.specs.declared.why.Why.{Why}
use Rattle.units.specs.Answer.{Answer, accepted, refused, refuse, dropped, pick, and_then}
use Rattle.units.specs.Places.{inside_or_empty}
use Rattle.units.specs.Meanings.{card_means}
use Rattle.header.specs.declared.Header.{Header}
use Rattle.partition.specs.Array.{present, array_found}
use Rattle.rows.specs.declared.Entry.{Entry}
use Rattle.rows.specs.declared.inner.Plan.{Plan}
use Rattle.rows.specs.Slots.{slots_from, first_after, typed_each}
use Rattle.rows.specs.Row.{present_entries, entry_each}

-- the plan's array lies inside the image, or has no entries; an entry has 128 bytes or more, and exactly 128 where it is judged by all of them
pub record Lies (xs : List ℕ) (p : Plan) : Type 0 where
  pub size : 128 ≤ p.each
  pub within : inside_or_empty (length xs) p.place.0 (p.entries * p.each) ≡ true
  pub whole : p.by_type ≡ false → p.each ≡ 128

-- which entries of the plan's array are listed: those whose type is not nil, or those whose 128 bytes are not all zero
abbrev pub listed_by : List ℕ → Plan → ℕ → Bool
listed_by xs p k = pick p.by_type (typed_each xs p.each p.place.0 k) (present xs p.place.0 k)

-- these entries, ascending
unfoldable pub entries_by : List ℕ → Plan → List Entry
entries_by xs p = map (entry_each xs p.each p.place.0) (slots_from (listed_by xs p) 0 p.entries)

-- a slot of the plan's array, and the entry in it
abbrev pub InArray : Plan → Slot → Type 0
InArray p s = (1 ≤ s.0) × (s.0 ≤ p.entries)

abbrev pub entry_by : List ℕ → Plan → Slot → Entry
entry_by xs p s = entry_each xs p.each p.place.0 s.0

-- the first listed slot after a slot, or slot 0
unfoldable pub slot_after : List ℕ → Plan → Slot → Slot
slot_after xs p s = record { 0 = first_after (listed_by xs p) p.entries s.0 }

-- what a plan says of its image: a refusal, or the listed entries
unfoldable pub planned : List ℕ → Plan → Answer (List Entry)
planned xs p = and_then (card_means p.verdict) (λ u. accepted (entries_by xs p))

-- a plan that was made on an image: its array lies inside, its count is that of the listed entries, and a refusal has no entries
pub record Made (xs : List ℕ) (p : Plan) : Type 0 where
  pub lies : Lies xs p
  pub counted : p.present ≡ length (entries_by xs p)
  pub idle : {w : Why} → card_means p.verdict ≡ refused w → p.entries ≡ 0

-- a refusal's plan
abbrev pub no_plan : Reason → Plan
no_plan w = record { place = record { 0 = 0 }; entries = 0; each = 128; by_type = false; present = 0; verdict = Err w }

-- a refusal that names no place
abbrev pub nowhere : Refusal → Reason
nowhere w = record { what = w; place = place.Nowhere }

-- the plan for a row of m places: 15 where more entries are present
unfoldable pub plan_within : ℕ → Plan → Plan
plan_within m p = pick (ltb m p.present) (no_plan (nowhere refusal.NoRoom)) p

-- the same of what a plan says
unfoldable pub roomed : ℕ → Answer (List Entry) → Answer (List Entry)
roomed m a = and_then a (λ es. pick (ltb m (length es)) (refuse 15) (accepted es))

-- the count, or the refusal
unfoldable pub plan_count : Plan → Answer ℕ
plan_count p = and_then (card_means p.verdict) (λ u. accepted p.present)

-- what a call answers that names no place
abbrev pub plainly : {A : Type 0} → Answer A → Answer A
plainly (accepted x) = accepted x
plainly (refused w) = refused (dropped w)

-- the present entries of the array that a header names, before a row is lent: 1, 3, 7, 2, 6
unfoldable pub entries_found : List ℕ → Header → ℕ → Answer (List Entry)
entries_found xs h b = and_then (array_found xs h b) (λ at. accepted (present_entries xs at.0 h.num_parts))
