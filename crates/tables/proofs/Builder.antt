-- The card's headers (`specs/Headers`) are those that the builder gives. No contract cites this file. Assumes nothing.
use mathlib.Core.Path.{◌≡◌, refl, sym, ap, ◌∙◌}
use mathlib.Core.Bool.{Bool, true, false}
use Prim.Native.Nat.{ℕ, ◌+◌, ◌-◌, ◌^◌, ◌<◌}
use native.Mathlib.Omega.{arith}
use borrow.Author.Tests.{lt-ltb}
use Rattle.units.specs.declared.Guid.{Guid}
use Rattle.units.specs.Answer.{accepted}
use Rattle.builder.specs.declared.HeaderBuilder.{HeaderBuilder}
use Rattle.builder.specs.Building.{new_builder, with_primary, with_backup_lba, greater, header_of, built_with, built}
use Rattle.builder.proofs.Laws.{first_of, last_of, start_of, built-with, with-header, header-same}
use Rattle.tables.specs.Lens.{Side, Front, Back}
use Rattle.tables.specs.Places.{blocks, array_blocks, first_usable_of, last_usable_of}
use Rattle.tables.specs.Headers.{card_header}
use Rattle.tables.proofs.Room.{Room}

-- block numbers fit 64 bits where the image's length does
pub last_fits : (B n : ℕ) → Room B n → n < 2 ^ 64 → last_usable_of B n + 1 < 2 ^ 64
unfolding last_usable_of
last_fits B n r l = let k = r.count in let f = r.few in omega arith

-- the primary's side of a builder
abbrev pub is_front : Side → Bool
is_front Front = true
is_front Back = false

-- a new builder for the backup in the last block
abbrev pub card_builder : ℕ → ℕ → Side → Guid → HeaderBuilder
card_builder B n s g = with_primary (with_backup_lba (new_builder g) (record { 0 = blocks B n - 1 })) (is_front s)

greater-zero : (x : ℕ) → 0 < x → greater 0 x ≡ x
greater-zero x h = rw (lt-ltb 0 x h)

-- what is computed of it, on either side
module _ (B n : ℕ) (r : Room B n) (g : Guid) (p : Bool) where
  unfoldable s : HeaderBuilder
  s = with_primary (with_backup_lba (new_builder g) (record { 0 = blocks B n - 1 })) p

  first-is : first_of s (array_blocks B) ≡ first_usable_of B
  unfolding first_usable_of s
  first-is = greater-zero (2 + array_blocks B) (omega arith)

  last-is : last_of s (array_blocks B) ≡ last_usable_of B n
  unfolding last_usable_of s
  last-is =
      let k = r.count in
      greater-zero (blocks B n - 1 - array_blocks B - 1) (omega arith) ∙ omega arith

  built-is : (start : ℕ) → start_of s (array_blocks B) ≡ start → start < 2 ^ 64 → built s B ≡ accepted (header_of s (first_usable_of B) (last_usable_of B n) start)
  unfolding s
  built-is start e l =
      let k = r.count in
      let o = r.order in
      built-with s B (sym r.good) refl (omega arith) (omega arith)
      ∙ ap (built_with s) r.ceil
      ∙ with-header s (array_blocks B) (omega arith) (rw (first-is, last-is) o) (rw e l)
      ∙ ap accepted (header-same s first-is last-is e)

pub built-card : (B n : ℕ) (s : Side) (g : Guid) → Room B n → n < 2 ^ 64 → built (card_builder B n s g) B ≡ accepted (card_header B n s g)
unfolding s
built-card B n Front g r l = built-is B n r g true 2 refl (omega arith)
built-card B n Back g r l =
    built-is B n r g false (last_usable_of B n + 1) (ap (λ (k : ℕ). k + 1) (last-is B n r g false)) (last_fits B n r l)
