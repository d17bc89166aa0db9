-- The ways out of the stages' functions, one law for each: what the tests told, and what the definitions then give. No contract cites this file. Assumes nothing.
use mathlib.Core.Path.{◌≡◌, refl, sym, ap, ◌∙◌}
use mathlib.Core.Bool.{Bool, true, false, not, ◌&&◌}
use mathlib.Core.List.{List}
use Prim.Native.Nat.{ℕ, ◌+◌, ◌-◌}
use native.Mathlib.Omega.{arith}
use borrow.Author.Tests.{ne_eqb, eq-eqb, eqb-true}
use lib.Dec.{eqb, leb}
use Rattle.units.specs.declared.why.Why.{Why}
use Rattle.units.specs.declared.Reason.{Reason}
use Rattle.units.specs.declared.Refusal.TheVariants.{BadBlockSize, WrongStage}
use Rattle.units.specs.Answer.{Answer, accepted, refused, plain, pick, when, or_else, settle, gives, Ends, ends}
use Rattle.units.specs.Places.{good_size}
use Rattle.units.specs.Refusals.{why_at, reason_of}
use Rattle.units.proofs.Chains.{number-of, else-second, Bare, bare-when, bare-else, Named, named-is, named-when, named-else, settle-accepted, settle-refused}
use Rattle.units.specs.declared.Slot.{Slot}
use Rattle.units.specs.declared.Guid.{Guid}
use Rattle.units.specs.Guids.{guid_at}
use Rattle.crc32.specs.Crc.{crc}
use Rattle.tables.specs.Places.{array_blocks}
use Rattle.tables.specs.Lens.{Side, Front, Back, Copy, Tables, side_of, other, copy_in, copy_at}
use Rattle.tables.specs.Entries.{set_entry}
use Rattle.tables.specs.Check.{room_check, table_check, guid_of, bad_slot}
use Rattle.tables.proofs.Orders.{and_left}
use Rattle.reader.specs.Reader.{passes, reader_check, takes_back}
use Rattle.staged.specs.declared.Update.{Update}
use Rattle.staged.specs.declared.Repair.{Repair}
use Rattle.staged.specs.Stages.{fixed}
use Rattle.staged.specs.Repairs.{repair_from, repair_of}
use Rattle.staged.specs.Stores.{stage_store, zero_store, repair_store}
use Rattle.staged.specs.Numbers.{leads, next_check, leads_repair, next_repair_check}
use Rattle.staged.proofs.Places.{other-side}

-- ---- the ends of a stage

module _ {A : Type 0} (w : Why) (k : Named w) {f : Why} (e : f ≡ w) (v : A) (old new : List ℕ) where
  pub step-refused : {r : Reason} → (f.number ≡ 0 → ⊥) → r ≡ reason_of f → Ends (settle w v old new) (refused (why_at r)) old
  step-refused {r} d p =
      let n : w.number ≡ 0 → ⊥ = λ z. d (number-of e ∙ z) in
      let q : why_at r ≡ w = ap why_at p ∙ ap (λ (x : Why). why_at (reason_of x)) e ∙ k.name n in
      ends (settle-refused {A = A} v w old new n ∙ ap (λ (x : Why). gives {A = Answer A} (refused x) old) (sym q))

  pub step-accepted : {u : A} {i : List ℕ} → f.number ≡ 0 → u ≡ v → i ≡ new → Ends (settle w v old new) (accepted u) i
  step-accepted {u} {i} z p q = ends (settle-accepted {A = A} v w old new (sym (number-of e) ∙ z) ∙ rw (p, q))

-- ---- the test of a later stage: 1, then 26

named-later : (B : ℕ) (t : Bool) → Named (or_else (when (not (good_size B)) (plain 1)) (when (not t) (plain 26)))
named-later B t = named-else _ _ (named-when (not (good_size B)) _ (named-is BadBlockSize)) (named-when (not t) _ (named-is WrongStage))

bare-later : (B : ℕ) (t : Bool) → Bare (or_else (when (not (good_size B)) (plain 1)) (when (not t) (plain 26)))
bare-later B t = bare-else _ _ (bare-when (not (good_size B)) 1) (bare-when (not t) 26)

later-1 : (B : ℕ) (t : Bool) {g : Bool} → g ≡ good_size B → not g ≡ true → 1 ≡ (or_else (when (not (good_size B)) (plain 1)) (when (not t) (plain 26))).number
unfolding or_else
later-1 B t e h = rw (← e, h)

later-26 : (B : ℕ) (t : Bool) {g l : Bool} → g ≡ good_size B → not g ≡ false → l ≡ t → not l ≡ true → 26 ≡ (or_else (when (not (good_size B)) (plain 1)) (when (not t) (plain 26))).number
unfolding or_else
later-26 B t e h p q = rw (← e, h, ← p, q)

later-fine : (B : ℕ) (t : Bool) {g l : Bool} → g ≡ good_size B → not g ≡ false → l ≡ t → not l ≡ false → 0 ≡ (or_else (when (not (good_size B)) (plain 1)) (when (not t) (plain 26))).number
unfolding or_else
later-fine B t e h p q = rw (← e, h, ← p, q)

module _ (B n k : ℕ) (u : Update) where
  pub named-next : Named (next_check B n k u)
  unfolding next_check
  named-next = named-later B (leads B n k u)

  pub bare-next : Bare (next_check B n k u)
  unfolding next_check
  bare-next = bare-later B (leads B n k u)

  pub next-1 : {g : Bool} → g ≡ good_size B → not g ≡ true → 1 ≡ (next_check B n k u).number
  unfolding next_check
  next-1 = later-1 B (leads B n k u)

  pub next-26 : {g l : Bool} → g ≡ good_size B → not g ≡ false → l ≡ leads B n k u → not l ≡ true → 26 ≡ (next_check B n k u).number
  unfolding next_check
  next-26 = later-26 B (leads B n k u)

  pub next-fine : {g l : Bool} → g ≡ good_size B → not g ≡ false → l ≡ leads B n k u → not l ≡ false → 0 ≡ (next_check B n k u).number
  unfolding next_check
  next-fine = later-fine B (leads B n k u)

module _ (B n k : ℕ) (r : Repair) where
  pub named-next-repair : Named (next_repair_check B n k r)
  unfolding next_repair_check
  named-next-repair = named-later B (leads_repair B n k r)

  pub bare-next-repair : Bare (next_repair_check B n k r)
  unfolding next_repair_check
  bare-next-repair = bare-later B (leads_repair B n k r)

  pub next-repair-1 : {g : Bool} → g ≡ good_size B → not g ≡ true → 1 ≡ (next_repair_check B n k r).number
  unfolding next_repair_check
  next-repair-1 = later-1 B (leads_repair B n k r)

  pub next-repair-26 : {g l : Bool} → g ≡ good_size B → not g ≡ false → l ≡ leads_repair B n k r → not l ≡ true → 26 ≡ (next_repair_check B n k r).number
  unfolding next_repair_check
  next-repair-26 = later-26 B (leads_repair B n k r)

  pub next-repair-fine : {g l : Bool} → g ≡ good_size B → not g ≡ false → l ≡ leads_repair B n k r → not l ≡ false → 0 ≡ (next_repair_check B n k r).number
  unfolding next_repair_check
  next-repair-fine = later-fine B (leads_repair B n k r)

-- ---- a repair's state: no room, no stage

last-false : (a b c d : Bool) → false ≡ a && (b && (c && (d && false)))
last-false true true true true = refl
last-false true true true false = refl
last-false true true false d = refl
last-false true false c d = refl
last-false false b c d = refl

last-true : (a b c d e : Bool) → e ≡ true → a && (b && (c && d)) ≡ a && (b && (c && (d && e)))
last-true true true true true e h = sym h
last-true true true true false e h = refl
last-true true true false d e h = refl
last-true true false c d e h = refl
last-true false b c d e h = refl

module _ (B n k : ℕ) (r : Repair) {m : ℕ} (e : m ≡ (room_check r.b r.len).number) where
  pub no_room : (m ≡ 0 → ⊥) → false ≡ leads_repair B n k r
  unfolding leads_repair
  no_room d =
      let q : eqb (room_check r.b r.len).number 0 ≡ false = ne_eqb _ 0 (λ z. d (e ∙ z)) in
      last-false (eqb k r.next) (eqb B r.b) (eqb n r.len) (leb 2 r.next && leb r.next (array_blocks r.b + 2)) ∙ (rw q)

  pub with-room : m ≡ 0 → eqb k r.next && (eqb B r.b && (eqb n r.len && (leb 2 r.next && leb r.next (array_blocks r.b + 2)))) ≡ leads_repair B n k r
  unfolding leads_repair
  with-room z = last-true (eqb k r.next) (eqb B r.b) (eqb n r.len) (leb 2 r.next && leb r.next (array_blocks r.b + 2)) _ (eq-eqb _ 0 (sym e ∙ z))

-- ---- what stage one fixes

-- of an update, from the front table
pub fixed-by : (B n : ℕ) (f : Tables) (s : Slot) (e : List ℕ) {c : Copy} {g : Guid} {p : ℕ} → c ≡ f.front → g ≡ guid_at (guid_of c) 0 → p ≡ crc (set_entry c.array (s.0 - 1) e)
    → ◌≡◌ {A = Update} (record { next = 2; slot = s; b = B; len = n; entry = e; guid = g; parts = p }) (fixed B n f s.0 e)
unfolding fixed
fixed-by B n f s e q a b = rw (a, b, q)

-- of a repair, from the good one
pub repair-made : (B n : ℕ) (f : Tables) (k : Bool) (ys : List ℕ) {g : Guid} {p : ℕ} → copy_in B (side_of k) ys ≡ copy_at (side_of k) f → g ≡ guid_at (guid_of (copy_in B (side_of k) ys)) 0 → p ≡ crc (copy_in B (side_of k) ys).array
    → ◌≡◌ {A = Repair} (record { next = 2; back = k; b = B; len = n; guid = g; parts = p }) (repair_from B n f k)
repair-made B n f k ys q a b = rw (a, b, q)

-- such a state leads to its own stage one
pub fixed-leads : (B n : ℕ) (t : Tables) (s : ℕ) (e : List ℕ) {u : Update} → u ≡ fixed B n t s e → (room_check B n).number ≡ 0 → bad_slot s ≡ false
    → ((room_check u.b u.len).number ≡ 0) × (bad_slot u.slot.0 ≡ false) × (n ≡ u.len)
unfolding fixed
fixed-leads B n t s e q r b = rw q (r, b, refl)

pub fixed-store : (B n : ℕ) (t : Tables) (s : ℕ) (e xs : List ℕ) {u : Update} → u ≡ fixed B n t s e → stage_store u.b u.len u 1 xs ≡ stage_store B n u 1 xs
unfolding fixed
fixed-store B n t s e xs {u} q =
    let b : u.b ≡ B = ap (λ (x : Update). x.b) q in
    let l : u.len ≡ n = ap (λ (x : Update). x.len) q in
    ap (λ (i : ℕ). stage_store i u.len u 1 xs) b ∙ ap (λ (i : ℕ). stage_store B i u 1 xs) l

-- ---- the table that a repair takes

pub taken-good : (B n : ℕ) (t : Tables) (b : Bool) → (reader_check B n t).number ≡ 0 → b ≡ takes_back B n t → (table_check B n (side_of b) (copy_at (side_of b) t)).number ≡ 0
unfolding reader_check passes
taken-good B n t b h e = rw e (by (passes B n Front t.front) (passes B n Back t.back) refl refl (else-second (room_check B n) _ h))
  where
    by : (p q : Bool) → passes B n Front t.front ≡ p → passes B n Back t.back ≡ q → pick {X = ℕ} p 0 (pick q 0 27) ≡ 0 → (table_check B n (side_of (not p)) (copy_at (side_of (not p)) t)).number ≡ 0
    by true q x y z = eqb-true _ 0 (and_left _ _ x)
    by false true x y z = eqb-true _ 0 (and_left _ _ y)
    by false false x y z = absurd (omega arith)

pub repair-is : (B n : ℕ) (t : Tables) {b : Bool} → b ≡ takes_back B n t → repair_from B n t b ≡ repair_of B n t
unfolding repair_of
repair-is B n t e = rw e

-- its first store
pub zeros-first : (B n : ℕ) (t : Tables) (xs : List ℕ) {b : Bool} → b ≡ takes_back B n t → zero_store B n (side_of (not b)) xs ≡ repair_store B n (repair_of B n t) 1 xs
unfolding repair_of repair_store
zeros-first B n t xs {b} e = ap (λ (s : Side). zero_store B n s xs) (other-side b ∙ ap (λ (k : Bool). other (side_of k)) e)
