-- The ways out of the stages on windows, one law for each: what the tests and the stores told, and what the whole image then gives. No contract cites this file. Assumes nothing.
use mathlib.Core.Path.{◌≡◌, refl, sym, ap, ◌∙◌, subst}
use mathlib.Core.Bool.{Bool, true, false, not, ◌&&◌, ◌||◌}
use mathlib.Core.List.{List}
use Prim.Native.Nat.{ℕ, ◌+◌, ◌*◌, ◌-◌, ◌^◌, ◌≤◌, ◌<◌}
use native.Mathlib.Omega.{arith}
use borrow.Author.Tests.{ne_eqb, ltb-true, ltb-false}
use lib.Dec.{eqb, ltb, leb}
use lib.ListN.{length}
use lib.Seq.{sets, length-sets}
use Rattle.std.specs.Prelude.{Ok, Err}
use Rattle.units.specs.declared.why.Why.{Why}
use Rattle.units.specs.declared.Reason.{Reason}
use Rattle.units.specs.Answer.{Answer, accepted, refused, Outcome, gives, plain, pick, or_else, if_zero}
use Rattle.units.specs.Bytes.{part}
use Rattle.units.specs.Meanings.{verdict_of}
use Rattle.units.specs.Places.{good_size}
use Rattle.units.specs.Refusals.{why_at}
use Rattle.units.proofs.Chains.{number-of, found, else-first, else-second, Bare, bare-else, Named, named-else, settle-accepted}
use Rattle.units.proofs.Lists.{length_part, part-part}
use Rattle.tables.specs.Places.{array_blocks, back_array}
use Rattle.tables.specs.Lens.{Side, Front, Back, Tables, side_of, other, header_in, array_in, tables}
use Rattle.tables.specs.Entries.{zeros}
use Rattle.tables.specs.Headers.{head_block}
use Rattle.tables.specs.Check.{room_check, bad_slot}
use Rattle.tables.proofs.Room.{Room}
use Rattle.tables.proofs.Good.{room-ok}
use Rattle.reader.specs.Reader.{array_byte_place, takes_back}
use Rattle.staged.specs.declared.Update.{Update}
use Rattle.staged.specs.declared.Repair.{Repair}
use Rattle.staged.specs.Stages.{fixed}
use Rattle.staged.specs.Repairs.{mended, repair_of}
use Rattle.staged.specs.Stores.{copy_place, store_in, store_bytes, stage_store, header_store, zero_store, block_store, repair_store}
use Rattle.staged.specs.Numbers.{leads, next_check, leads_repair, next_repair_check, onward, onward_repair, next_at, next_repair_at}
use Rattle.staged.proofs.Places.{header-from, array-from, store-fits, stage_is, zeros-fit, header-fits, repair-block, repair-header, other-side, block_inside}
use Rattle.staged.proofs.Ways.{named-next, bare-next, named-next-repair, bare-next-repair, next-26, next-repair-26, zeros-first}
use Rattle.staged.proofs.Leads.{Leads, next-leads, LeadsRepair, repair-leads, leads-store}
use Rattle.windows.specs.Windows.{head_long, tail_long, whole, window_tables, length_check, in_windows, windowed_by, WindowEnds}
use Rattle.windows.proofs.Whole.{Fits, long-by, length_whole, head-whole, tail-whole, store-head, store_tail}
use Rattle.windows.proofs.Ways.{in_order, bare-length, named-length, told-reason, verdict-passed, verdict-wrong, verdict-reason, at-whole, if-zero, if-not}
use Rattle.windows_reader.specs.Parts.{array_of}
use Rattle.windows_staged.specs.Stages.{next_why, next_repair_why, next_windowed, next_repair_windowed, Stored, StageStored, ZerosStored, BlockStored, HeaderStored, RepairStored}

-- ---- one store in a side's own bytes, in the whole image

module _ (B N : ℕ) (r : Room B (N * B)) (head tail : List ℕ) (lh : length head ≡ head_long B) (lt : length tail ≡ tail_long B) where
  pub stored-whole : (s : Side) (o : ℕ) (vs : List ℕ) {h t : List ℕ} → o + length vs ≤ B + 16384 → Stored B s o vs head tail h t
      → sets (whole B N head tail) (copy_place B (N * B) s + o) vs ≡ whole B N h t
  stored-whole Front o vs {h} {t} f e = store-head B N r head tail lh lt (B + o) vs (omega arith) ∙ (rw (e.0, e.1))
  stored-whole Back o vs {h} {t} f e = store_tail B N r head tail lh lt (back_array B (N * B) + o) o vs refl ∙ (rw (e.0, e.1))

  pub stored-long : (s : Side) (o : ℕ) (vs : List ℕ) {h t : List ℕ} → Stored B s o vs head tail h t → (length h ≡ head_long B) × (length t ≡ tail_long B)
  stored-long Front o vs e = (ap length e.0 ∙ length-sets head (B + o) vs ∙ lh, ap length e.1 ∙ lt)
  stored-long Back o vs e = (ap length e.0 ∙ lh, ap length e.1 ∙ length-sets tail o vs ∙ lt)

-- a test says one thing
pub stored_same : true ≡ false → ⊥
stored_same e = let z : ◌≡◌ {A = ℕ} 1 0 = ap (λ (b : Bool). pick b 1 0) e in omega arith

-- ---- refusals of a later stage

first-number : (w l : Why) {f : ℕ} → f ≡ w.number → (f ≡ 0 → ⊥) → f ≡ (or_else w l).number
first-number w l e d = e ∙ number-of (found {f = w} l refl (λ z. d (e ∙ z)))

third-false : (a b c : Bool) → a && (b && (false && c)) ≡ false
third-false true true c = refl
third-false true false c = refl
third-false false b c = refl

module _ (B N h t k : ℕ) (u : Update) where
  over : u.len < 2 ^ 64 → 2 ^ 64 ≤ N * B → leads B (N * B) k u ≡ false
  unfolding leads
  over a b = rw (ne_eqb (N * B) u.len (λ e. omega arith)) (third-false (eqb k u.next) (eqb B u.b) ((leb 2 u.next && leb u.next 4) && (eqb (room_check u.b u.len).number 0 && not (bad_slot u.slot.0))))

  pub later_first : {f : ℕ} → f ≡ (next_check B (N * B) k u).number → (f ≡ 0 → ⊥) → f ≡ (next_why B N h t k u).number
  unfolding next_why
  later_first e d = first-number (next_check B (N * B) k u) (length_check B h t) e d

  pub later-both : {f m : ℕ} → f ≡ (next_check B (N * B) k u).number → m ≡ (length_check B h t).number → if_zero f m f ≡ (next_why B N h t k u).number
  unfolding next_why
  later-both e q = in_order (next_check B (N * B) k u) (length_check B h t) e q

  pub later-over : {g : Bool} → g ≡ good_size B → not g ≡ false → u.len < 2 ^ 64 → 2 ^ 64 ≤ N * B → ◌≡◌ {A = ℕ} 26 (next_why B N h t k u).number
  later-over e q a b = later_first (next-26 B (N * B) k u {l = false} e q (sym (over a b)) refl) (λ z. omega arith)

  pub named-later : Named (next_why B N h t k u)
  unfolding next_why
  named-later = named-else (next_check B (N * B) k u) _ (named-next B (N * B) k u) (named-length B h t)

  pub bare-later : Bare (next_why B N h t k u)
  unfolding next_why
  bare-later = bare-else (next_check B (N * B) k u) _ (bare-next B (N * B) k u) (bare-length B h t)

module _ (B N h t k : ℕ) (r : Repair) where
  over-repair : r.len < 2 ^ 64 → 2 ^ 64 ≤ N * B → leads_repair B (N * B) k r ≡ false
  unfolding leads_repair
  over-repair a b = rw (ne_eqb (N * B) r.len (λ e. omega arith)) (third-false (eqb k r.next) (eqb B r.b) ((leb 2 r.next && leb r.next (array_blocks r.b + 2)) && eqb (room_check r.b r.len).number 0))

  pub repair-first : {f : ℕ} → f ≡ (next_repair_check B (N * B) k r).number → (f ≡ 0 → ⊥) → f ≡ (next_repair_why B N h t k r).number
  unfolding next_repair_why
  repair-first e d = first-number (next_repair_check B (N * B) k r) (length_check B h t) e d

  pub repair-both : {f m : ℕ} → f ≡ (next_repair_check B (N * B) k r).number → m ≡ (length_check B h t).number → if_zero f m f ≡ (next_repair_why B N h t k r).number
  unfolding next_repair_why
  repair-both e q = in_order (next_repair_check B (N * B) k r) (length_check B h t) e q

  pub repair-over : {g : Bool} → g ≡ good_size B → not g ≡ false → r.len < 2 ^ 64 → 2 ^ 64 ≤ N * B → ◌≡◌ {A = ℕ} 26 (next_repair_why B N h t k r).number
  repair-over e q a b = repair-first (next-repair-26 B (N * B) k r {l = false} e q (sym (over-repair a b)) refl) (λ z. omega arith)

  pub named-repair : Named (next_repair_why B N h t k r)
  unfolding next_repair_why
  named-repair = named-else (next_repair_check B (N * B) k r) _ (named-next-repair B (N * B) k r) (named-length B h t)

  pub bare-repair : Bare (next_repair_why B N h t k r)
  unfolding next_repair_why
  bare-repair = bare-else (next_repair_check B (N * B) k r) _ (bare-next-repair B (N * B) k r) (bare-length B h t)

-- ---- the ends of the calls

-- a number that names nothing is handed on as the refusal that gave it, or there was none
module _ (w : Why) {f : ℕ} {v : Why} (e : f ≡ w.number) (p : v ≡ plain f) where
  pub later-refused : Bare w → Named w → {r : Reason} → Err r ≡ verdict_of v → (w.number ≡ 0 → ⊥) × (why_at r ≡ w)
  later-refused b k q =
      let i : v ≡ w = p ∙ ap plain e ∙ sym b.bare in
      (λ z. verdict-wrong v q (number-of i ∙ z), told-reason w k i (verdict-wrong v q) (verdict-reason v q) ∙ i)

  pub later-zero : Ok tt ≡ verdict_of v → w.number ≡ 0
  later-zero q = sym e ∙ sym (number-of p) ∙ verdict-passed v q

-- a later stage: refused by its own test, or stored
module _ {A : Type 0} (w : Why) (B N : ℕ) (head tail : List ℕ) (F : List ℕ → Outcome (Answer A)) where
  pub own-refused : (w.number ≡ 0 → ⊥) → WindowEnds (windowed_by w B N head tail F) (refused w) head tail
  unfolding windowed_by
  own-refused d =
      rw (if-not w.number (in_windows B (N * B) (F (whole B N head tail))) (record { answer = refused w; head = head; tail = tail }) d) (record { answer = refl; front = refl; back = refl })

  pub own-stored : w.number ≡ 0 → Room B (N * B) → {v : A} {h t : List ℕ} → F (whole B N head tail) ≡ gives (accepted v) (whole B N h t) → length h ≡ head_long B → length t ≡ tail_long B
      → WindowEnds (windowed_by w B N head tail F) (accepted v) h t
  unfolding windowed_by
  own-stored z r {v} {h} {t} o lh lt =
      let i : windowed_by w B N head tail F ≡ in_windows B (N * B) (gives (accepted v) (whole B N h t)) =
      if-zero w.number (in_windows B (N * B) (F (whole B N head tail))) _ z ∙ ap (in_windows B (N * B)) o in
      rw i (record { answer = refl; front = sym (head-whole B N r h t lh lt); back = sym (tail-whole B N r h t lh lt) })

-- ---- an update

-- one stage on the whole image
module _ (B N : ℕ) (head tail : List ℕ) (r : Room B (N * B)) (lh : length head ≡ head_long B) (lt : length tail ≡ tail_long B)
    (u : Update) (eb : u.b ≡ B) (en : u.len ≡ N * B) (k : ℕ) (a : 1 ≤ k) (b : k ≤ 4) (g : bad_slot u.slot.0 ≡ false) (le : length u.entry ≡ 128)
    {h t : List ℕ} (e : StageStored u k head tail h t) where
  there : Stored B (side_of (ltb k 3)) (store_in B (side_of (ltb k 3)) u (eqb k 2 || eqb k 4)) (store_bytes B (N * B) (side_of (ltb k 3)) u (eqb k 2 || eqb k 4)) head tail h t
  there =
      subst (λ (n : ℕ). Stored B (side_of (ltb k 3)) (store_in B (side_of (ltb k 3)) u (eqb k 2 || eqb k 4)) (store_bytes B n (side_of (ltb k 3)) u (eqb k 2 || eqb k 4)) head tail h t) en
      (subst (λ (x : ℕ). Stored x (side_of (ltb k 3)) (store_in x (side_of (ltb k 3)) u (eqb k 2 || eqb k 4)) (store_bytes x u.len (side_of (ltb k 3)) u (eqb k 2 || eqb k 4)) head tail h t) eb e)

  pub stage-whole : stage_store B (N * B) u k (whole B N head tail) ≡ whole B N h t
  stage-whole =
      sym (stage_is B (N * B) u (whole B N head tail) k r a b)
      ∙ stored-whole B N r head tail lh lt (side_of (ltb k 3)) _ _ (store-fits B (N * B) (side_of (ltb k 3)) u (eqb k 2 || eqb k 4) r g le) there

  pub stage-long : (length h ≡ head_long B) × (length t ≡ tail_long B)
  stage-long = stored-long B N r head tail lh lt (side_of (ltb k 3)) _ _ there

-- what stage one fixes is of this card
pub fixed-here : (B n : ℕ) (t : Tables) (s : ℕ) (e : List ℕ) {u : Update} → u ≡ fixed B n t s e → (u.b ≡ B) × (u.len ≡ n) × (u.slot.0 ≡ s) × (u.entry ≡ e)
unfolding fixed
fixed-here B n t s e q = rw q (refl, refl, refl, refl)

pub fixed-fits : (B n : ℕ) (t : Tables) (s : ℕ) (e head tail : List ℕ) {u : Update} → u ≡ fixed B n t s e → (room_check B n).number ≡ 0 → bad_slot s ≡ false → length head ≡ head_long B → length tail ≡ tail_long B
    → ((room_check u.b u.len).number ≡ 0) × (bad_slot u.slot.0 ≡ false) × (length head ≡ head_long u.b) × (length tail ≡ tail_long u.b)
unfolding fixed
fixed-fits B n t s e head tail q r b h k = rw q (r, b, h, k)

-- stage one on the whole image
module _ (B N : ℕ) (head tail : List ℕ) (q : Fits B N head tail) (s : ℕ) (e : List ℕ) (b : bad_slot s ≡ false) (le : length e ≡ 128) {u : Update} (f : u ≡ fixed B (N * B) (window_tables B head tail) s e)
    {h t : List ℕ} (k : StageStored u 1 head tail h t) where
  pub begun-whole : stage_store B (length (whole B N head tail)) (fixed B (length (whole B N head tail)) (tables B (whole B N head tail)) s e) 1 (whole B N head tail) ≡ whole B N h t
  begun-whole =
      let i = fixed-here B (N * B) (window_tables B head tail) s e f in
      let xs : List ℕ = whole B N head tail in
      at-whole B N head tail (λ (n : ℕ) (y : Tables). stage_store B n (fixed B n y s e) 1 xs) q
      ∙ ap (λ (x : Update). stage_store B (N * B) x 1 xs) (sym f)
      ∙ stage-whole B N head tail q.room q.head-long q.tail-long u i.0 i.1 1 (omega arith) (omega arith) (ap bad_slot i.2 ∙ b) (ap length i.3 ∙ le) k

  pub begun-long : (length h ≡ head_long B) × (length t ≡ tail_long B)
  begun-long =
      let i = fixed-here B (N * B) (window_tables B head tail) s e f in
      stage-long B N head tail q.room q.head-long q.tail-long u i.0 i.1 1 (omega arith) (omega arith) (ap bad_slot i.2 ∙ b) (ap length i.3 ∙ le) k

-- a later stage that its test lets pass
module _ (B N : ℕ) (head tail : List ℕ) (k : ℕ) (u : Update) (z : (next_why B N (length head) (length tail) k u).number ≡ 0) where
  pub next_fits : (Leads B (N * B) k u) × (length head ≡ head_long B) × (length tail ≡ tail_long B)
  unfolding next_why
  next_fits =
      let l = long-by B (length head) (length tail) (else-second (next_check B (N * B) k u) _ z) in
      (next-leads B (N * B) k u (else-first (next_check B (N * B) k u) _ z), l.0, l.1)

  pub next-stored : {h t : List ℕ} → length u.entry ≡ 128 → StageStored u k head tail h t → WindowEnds (next_windowed B N head tail k u) (accepted (onward u)) h t
  unfolding next_at next_why
  next-stored {h} {t} le e =
      let q = next_fits in
      let d = q.0 in
      let r = room-ok B (N * B) d.room in
      let xs : List ℕ = whole B N head tail in
      let l = length_whole B N r head tail q.1 q.2 in
      let g = (leads-store d).1 in
      let o : next_at B (length (whole B N head tail)) (whole B N head tail) k u ≡ gives (accepted (onward u)) (whole B N h t) =
      ap (λ (n : ℕ). next_at B n xs k u) l
      ∙ settle-accepted (onward u) (next_check B (N * B) k u) xs (stage_store B (N * B) u k xs) (else-first (next_check B (N * B) k u) _ z)
      ∙ ap (λ (x : List ℕ). gives (accepted (onward u)) x) (stage-whole B N head tail r q.1 q.2 u (sym d.block) (sym d.bytes) k (omega (arith, d.low)) d.high g le e) in
      let m = stage-long B N head tail r q.1 q.2 u (sym d.block) (sym d.bytes) k (omega (arith, d.low)) d.high g le e in
      own-stored (next_why B N (length head) (length tail) k u) B N head tail _ z r o m.0 m.1

-- ---- a repair

-- the array of the other side, in the whole image
other-array : (B N : ℕ) (head tail : List ℕ) (r : Room B (N * B)) → length head ≡ head_long B → length tail ≡ tail_long B → (s : Side) (j : ℕ) → j * B + B ≤ 16384
    → part (whole B N head tail) (array_byte_place B (N * B) s + j * B) B ≡ part (array_of B s head tail) (j * B) B
other-array B N head tail r lh lt Front j h =
    let z : 0 + (B + B + j * B) ≡ B + B + j * B = omega arith in
    sym (ap (λ (l : List ℕ). part l (B + B + j * B) B) (sym (head-whole B N r head tail lh lt)) ∙ part-part (whole B N head tail) 0 (head_long B) (B + B + j * B) B (omega arith) ∙ ap (λ (i : ℕ). part (whole B N head tail) i B) z)
    ∙ sym (part-part head (B + B) 16384 (j * B) B h)
other-array B N head tail r lh lt Back j h =
    let z : 0 + j * B ≡ j * B = omega arith in
    sym (ap (λ (l : List ℕ). part l (j * B) B) (sym (tail-whole B N r head tail lh lt)) ∙ part-part (whole B N head tail) (back_array B (N * B)) (tail_long B) (j * B) B (omega arith))
    ∙ sym (part-part tail 0 16384 (j * B) B h ∙ ap (λ (i : ℕ). part tail i B) z)

-- a block of an array in a window
block-long : (B : ℕ) (head tail : List ℕ) → length head ≡ head_long B → length tail ≡ tail_long B → (s : Side) (j : ℕ) → j * B + B ≤ 16384 → length (part (array_of B s head tail) (j * B) B) ≡ B
block-long B head tail lh lt Back j f = ap length (part-part tail 0 16384 (j * B) B f) ∙ length_part tail (0 + j * B) B (omega arith)
block-long B head tail lh lt Front j f = ap length (part-part head (B + B) 16384 (j * B) B f) ∙ length_part head (B + B + j * B) B (omega arith)

module _ (B N : ℕ) (head tail : List ℕ) (r : Room B (N * B)) (lh : length head ≡ head_long B) (lt : length tail ≡ tail_long B) (s : Side) {h t : List ℕ} where
  pub zeros-whole : ZerosStored B s head tail h t → zero_store B (N * B) s (whole B N head tail) ≡ whole B N h t
  unfolding zero_store
  zeros-whole e =
      ap (λ (i : ℕ). sets (whole B N head tail) i (zeros B)) (sym (header-from B (N * B) r s))
      ∙ stored-whole B N r head tail lh lt s (header_in s) (zeros B) (zeros-fit B s) e

  header-whole : (x : Repair) → x.b ≡ B → x.len ≡ N * B → HeaderStored x s head tail h t → header_store B (N * B) s x.guid x.parts (whole B N head tail) ≡ whole B N h t
  unfolding header_store
  header-whole x eb en e =
      let bs : List ℕ = head_block B (N * B) s x.guid x.parts in
      ap (λ (i : ℕ). sets (whole B N head tail) i bs) (sym (header-from B (N * B) r s))
      ∙ stored-whole B N r head tail lh lt s (header_in s) bs (header-fits B (N * B) s x.guid x.parts r)
      (subst (λ (n : ℕ). Stored B s (header_in s) (head_block B n s x.guid x.parts) head tail h t) en (subst (λ (y : ℕ). Stored y s (header_in s) (head_block y x.len s x.guid x.parts) head tail h t) eb e))

  block-whole : (j : ℕ) → j * B + B ≤ 16384 → BlockStored B s j head tail h t → block_store B (N * B) s j (whole B N head tail) ≡ whole B N h t
  unfolding block_store
  block-whole j f e =
      let vs : List ℕ = part (array_of B (other s) head tail) (j * B) B in
      ap (λ (l : List ℕ). sets (whole B N head tail) (array_byte_place B (N * B) s + j * B) l) (other-array B N head tail r lh lt (other s) j f)
      ∙ ap (λ (i : ℕ). sets (whole B N head tail) i vs) (sym (array-from B (N * B) r s (j * B)))
      ∙ stored-whole B N r head tail lh lt s (array_in B s + j * B) vs (block_room s) e
    where
      block_room : (s' : Side) → array_in B s' + j * B + length (part (array_of B (other s) head tail) (j * B) B) ≤ B + 16384
      block_room Front = omega (arith, block-long B head tail lh lt (other s) j f)
      block_room Back = omega (arith, block-long B head tail lh lt (other s) j f)

-- stage k of a repair, from 2 on
module _ (B N : ℕ) (head tail : List ℕ) (d : Room B (N * B)) (lh : length head ≡ head_long B) (lt : length tail ≡ tail_long B)
    (x : Repair) (eb : x.b ≡ B) (en : x.len ≡ N * B) (k : ℕ) (a : 2 ≤ k) (m : k ≤ array_blocks B + 2) {h t : List ℕ} (e : RepairStored x k head tail h t) where
  pub repair-whole : repair_store B (N * B) x k (whole B N head tail) ≡ whole B N h t
  repair-whole = sym (by (ltb (k - 2) (array_blocks x.b)) refl)
    where
      xs : List ℕ
      xs = whole B N head tail

      l : length (whole B N head tail) ≡ x.len
      l = length_whole B N d head tail lh lt ∙ sym en

      side : mended x ≡ side_of (not x.back)
      side = sym (other-side x.back)

      here : (ys : List ℕ) → ys ≡ repair_store x.b x.len x k (whole B N head tail) → ys ≡ repair_store B (N * B) x k (whole B N head tail)
      here ys q = q ∙ ap (λ (y : ℕ). repair_store y x.len x k (whole B N head tail)) eb ∙ ap (λ (n : ℕ). repair_store B n x k (whole B N head tail)) en

      by : (y : Bool) → ltb (k - 2) (array_blocks x.b) ≡ y → whole B N h t ≡ repair_store B (N * B) x k (whole B N head tail)
      by true q =
          let lo : k - 2 < array_blocks x.b = ltb-true (k - 2) (array_blocks x.b) q in
          let f : (k - 2) * B + B ≤ 16384 = block_inside B (N * B) (k - 2) d (subst (λ (y : ℕ). k - 2 < array_blocks y) eb lo) in
          here (whole B N h t)
          (repair-block x k (whole B N head tail) l a lo
          (sym (ap (λ (n : ℕ). block_store x.b n (side_of (not x.back)) (k - 2) (whole B N head tail)) (length_whole B N d head tail lh lt)
          ∙ ap (λ (y : ℕ). block_store y (N * B) (side_of (not x.back)) (k - 2) (whole B N head tail)) eb
          ∙ ap (λ (s : Side). block_store B (N * B) s (k - 2) (whole B N head tail)) (sym side)
          ∙ block-whole B N head tail d lh lt (mended x) (k - 2) f (subst (λ (y : ℕ). BlockStored y (mended x) (k - 2) head tail h t) eb (e.0 q)))))
      by false q =
          let hi : array_blocks x.b ≤ k - 2 = ltb-false (k - 2) (array_blocks x.b) q in
          let top : k ≤ array_blocks x.b + 2 = subst (λ (y : ℕ). k ≤ array_blocks y + 2) (sym eb) m in
          here (whole B N h t)
          (repair-header x k (whole B N head tail) l a top hi
          (sym (ap (λ (n : ℕ). header_store x.b n (side_of (not x.back)) x.guid x.parts (whole B N head tail)) (length_whole B N d head tail lh lt)
          ∙ ap (λ (y : ℕ). header_store y (N * B) (side_of (not x.back)) x.guid x.parts (whole B N head tail)) eb
          ∙ ap (λ (s : Side). header_store B (N * B) s x.guid x.parts (whole B N head tail)) (sym side)
          ∙ header-whole B N head tail d lh lt (mended x) x eb en (e.1 q))))

  pub repair-long : (length h ≡ head_long B) × (length t ≡ tail_long B)
  repair-long = by (ltb (k - 2) (array_blocks x.b)) refl
    where
      by : (y : Bool) → ltb (k - 2) (array_blocks x.b) ≡ y → (length h ≡ head_long B) × (length t ≡ tail_long B)
      by true q = stored-long B N d head tail lh lt (mended x) _ _ (subst (λ (y : ℕ). BlockStored y (mended x) (k - 2) head tail h t) eb (e.0 q))
      by false q = stored-long B N d head tail lh lt (mended x) _ _ (subst (λ (y : ℕ). Stored y (mended x) (header_in (mended x)) (head_block y x.len (mended x) x.guid x.parts) head tail h t) eb (e.1 q))

module _ (B N : ℕ) (head tail : List ℕ) (k : ℕ) (x : Repair) (z : (next_repair_why B N (length head) (length tail) k x).number ≡ 0) where
  pub next-repair-fits : (LeadsRepair B (N * B) k x) × (length head ≡ head_long B) × (length tail ≡ tail_long B)
  unfolding next_repair_why
  next-repair-fits =
      let l = long-by B (length head) (length tail) (else-second (next_repair_check B (N * B) k x) _ z) in
      (repair-leads B (N * B) k x (else-first (next_repair_check B (N * B) k x) _ z), l.0, l.1)

  pub next-repair-stored : {h t : List ℕ} → RepairStored x k head tail h t → WindowEnds (next_repair_windowed B N head tail k x) (accepted (onward_repair x)) h t
  unfolding next_repair_at next_repair_why
  next-repair-stored {h} {t} e =
      let q = next-repair-fits in
      let d = q.0 in
      let r = room-ok B (N * B) d.room in
      let xs : List ℕ = whole B N head tail in
      let o : next_repair_at B (length (whole B N head tail)) (whole B N head tail) k x ≡ gives (accepted (onward_repair x)) (whole B N h t) =
      ap (λ (n : ℕ). next_repair_at B n xs k x) (length_whole B N r head tail q.1 q.2)
      ∙ settle-accepted (onward_repair x) (next_repair_check B (N * B) k x) xs (repair_store B (N * B) x k xs) (else-first (next_repair_check B (N * B) k x) _ z)
      ∙ ap (λ (y : List ℕ). gives (accepted (onward_repair x)) y) (repair-whole B N head tail r q.1 q.2 x (sym d.block) (sym d.bytes) k d.low d.high e) in
      let m = repair-long B N head tail r q.1 q.2 x (sym d.block) (sym d.bytes) k d.low d.high e in
      own-stored (next_repair_why B N (length head) (length tail) k x) B N head tail _ z r o m.0 m.1

-- stage one of a repair: zeros in the header of the side that the reader does not take
module _ (B N : ℕ) (head tail : List ℕ) (q : Fits B N head tail) {b : Bool} (e : b ≡ takes_back B (N * B) (window_tables B head tail)) {h t : List ℕ} (k : ZerosStored B (side_of (not b)) head tail h t) where
  pub zeroed-whole : repair_store B (length (whole B N head tail)) (repair_of B (length (whole B N head tail)) (tables B (whole B N head tail))) 1 (whole B N head tail) ≡ whole B N h t
  zeroed-whole =
      at-whole B N head tail (λ (n : ℕ) (y : Tables). repair_store B n (repair_of B n y) 1 (whole B N head tail)) q
      ∙ sym (zeros-first B (N * B) (window_tables B head tail) (whole B N head tail) e)
      ∙ zeros-whole B N head tail q.room q.head-long q.tail-long (side_of (not b)) k

  pub zeroed-long : (length h ≡ head_long B) × (length t ≡ tail_long B)
  zeroed-long = stored-long B N q.room head tail q.head-long q.tail-long (side_of (not b)) _ _ k
