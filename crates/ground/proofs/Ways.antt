-- The ways out of the functions that end a call, one law for each. No contract cites this file. Assumes nothing.
use mathlib.Core.Path.{◌≡◌, refl, sym, ap, ◌∙◌, subst}
use mathlib.Core.Bool.{true, false, ◌||◌}
use mathlib.Core.List.{List, map}
use Prim.Native.Nat.{ℕ, zero, suc, ◌+◌, ◌-◌, ◌≤◌}
use native.Mathlib.Omega.{arith}
use Rattle.std.specs.Prelude.{Result, Ok, Err}
use borrow.Author.Tests.{ltb-false}
use lib.Dec.{ltb}
use lib.ListN.{length, take, drop}
use lib.Seq.{sets}
use Rattle.units.specs.declared.why.Why.{Why}
use Rattle.units.specs.declared.Reason.{Reason}
use Rattle.units.specs.declared.Refusal.TheVariants.{NoRoom}
use Rattle.units.specs.Answer.{Answer, accepted, refused, plain, if_zero, judged}
use Rattle.units.specs.Refusals.{why_at, reason_of}
use Rattle.units.specs.Meanings.{card_means}
use Rattle.units.proofs.Chains.{Named, named-is, named-when, found, past, number-of, none-when, judged-none, judged-some}
use Rattle.units.proofs.Lists.{length-lent}
use Rattle.tables.specs.Lens.{Tables, Front, copy_in, tables}
use Rattle.tables.specs.Entries.{entries_ok}
use Rattle.tables.specs.Check.{check}
use Rattle.tables.proofs.Orders.{or_left, or_right}
use Rattle.tables.proofs.Room.{Room}
use Rattle.tables.proofs.Copies.{lent-tables}
use Rattle.tables.proofs.EntryLaws.{entries-of}
use Rattle.tables.proofs.Good.{Good, room-ok, check-good}
use Rattle.checking.proofs.CheckWays.{named-check}
use Rattle.ground.specs.Ground.{Run, runs}
use Rattle.ground.specs.Search.{Checked, front_runs}
use Rattle.ground.specs.Answers.{run_count_of, rows_check, runs_of, ground_check, settle_rows, Rows, RowsEnd, rows_outcome, image_check, ground_outcome}

-- ---- the front table as the code lends it

abbrev pub lent : ℕ → List ℕ → List ℕ
lent B xs = take (B + (B + 16384) - B) (drop B xs)

module _ (B : ℕ) (xs : List ℕ) (h : (check B (length xs) (tables B xs)).number ≡ 0) where
  good : Good B (length xs) (tables B xs)
  good = check-good B (length xs) (tables B xs) h

  pub room_in : Room B (length xs)
  room_in = room-ok B (length xs) good.room

  pub front-in : B + (B + 16384) ≤ length xs
  front-in = omega (arith, room_in.low, room_in.seam, room_in.top)

  front-array : (copy_in B Front (lent B xs)).array ≡ (tables B xs).front.array
  front-array = ap (λ (t : Tables). t.front.array) (lent-tables B (length xs) xs room_in refl)

  pub runs-lent : front_runs B (length xs) (lent B xs) ≡ runs_of B (length xs) (tables B xs)
  runs-lent = ap (runs B (length xs)) front-array

  -- what the check has seen
  pub checked-lent : Checked B (length xs) (lent B xs) B
  unfolding copy_in
  checked-lent =
      record {
        room = good.room;
        inside = omega (arith, length-lent xs B (B + 16384) front-in);
        entries = ap (entries_ok B (length xs)) front-array ∙ entries-of B (length xs) _ good.entries;
      }

-- ---- both rows

-- where something refuses, the second
other : {X : Type 0} (k : ℕ) (a b : X) → (k ≡ 0 → ⊥) → b ≡ if_zero k a b
other zero a b d = absurd (d refl)
other (suc k) a b d = refl

module _ {A : Type 0} (w : Why) (a : A) (rs : List Run) (ss ls : List ℕ) where
  settle-kept : (w.number ≡ 0 → ⊥) → RowsEnd (settle_rows w a rs ss ls) a ss ls
  unfolding settle_rows
  settle-kept d = record { answer = refl; starts = other w.number _ ss d; lengths = other w.number _ ls d }

  settle-filled : {o p : List ℕ} → w.number ≡ 0 → o ≡ sets ss 0 (map (λ (r : Run). r.start) rs) → p ≡ sets ls 0 (map (λ (r : Run). r.blocks) rs) → RowsEnd (settle_rows w a rs ss ls) a o p
  unfolding settle_rows
  settle-filled z e f = rw z (record { answer = refl; starts = e; lengths = f })

-- ---- 15, and the rows of a card that was checked

pub short-rows : (p q m : ℕ) → ltb p m || ltb q m ≡ true → plain 15 ≡ rows_check p q m
unfolding rows_check
short-rows p q m t = rw t

pub long-rows : (p q m : ℕ) → ltb p m || ltb q m ≡ false → plain 0 ≡ rows_check p q m
unfolding rows_check
long-rows p q m t = rw t

named-rows : (p q m : ℕ) → Named (rows_check p q m)
unfolding rows_check
named-rows p q m = named-when (ltb p m || ltb q m) (plain 15) (named-is NoRoom)

pub rows_fit : (p q m : ℕ) → (rows_check p q m).number ≡ 0 → (m ≤ p) × (m ≤ q)
unfolding rows_check
rows_fit p q m z =
    let t = none-when (ltb p m || ltb q m) (plain 15) tt z in
    (ltb-false p m (or_left (ltb p m) (ltb q m) t), ltb-false q m (or_right (ltb p m) (ltb q m) t))

module _ (rs : List Run) (ss ls : List ℕ) {m : ℕ} {f : Why} (n : m ≡ length rs) (e : f ≡ rows_check (length ss) (length ls) m) where
  here : f ≡ rows_check (length ss) (length ls) (length rs)
  here = e ∙ ap (rows_check (length ss) (length ls)) n

  pub into-refused : {r : Reason} → (f.number ≡ 0 → ⊥) → r ≡ reason_of f → RowsEnd (rows_outcome rs ss ls) (refused (why_at r)) ss ls
  unfolding rows_outcome
  into-refused {r} d q =
      let w : Why = rows_check (length ss) (length ls) (length rs) in
      let z : (rows_check (length ss) (length ls) (length rs)).number ≡ 0 → ⊥ = λ z. d (number-of here ∙ z) in
      let n : why_at r ≡ rows_check (length ss) (length ls) (length rs) =
      ap why_at q ∙ ap (λ (x : Why). why_at (reason_of x)) here ∙ (named-rows (length ss) (length ls) (length rs)).name z in
      subst (λ (a : Answer ℕ). RowsEnd (settle_rows w (judged w (length rs)) rs ss ls) a ss ls) (judged-some (length rs) w z ∙ ap refused (sym n)) (settle-kept w (judged w (length rs)) rs ss ls z)

  pub into-filled : {o p : List ℕ} → f.number ≡ 0 → o ≡ sets ss 0 (map (λ (r : Run). r.start) rs) → p ≡ sets ls 0 (map (λ (r : Run). r.blocks) rs)
      → RowsEnd (rows_outcome rs ss ls) (accepted m) o p
  unfolding rows_outcome
  into-filled {o} {p} z a b =
      let w : Why = rows_check (length ss) (length ls) (length rs) in
      let y : (rows_check (length ss) (length ls) (length rs)).number ≡ 0 = sym (number-of here) ∙ z in
      subst (λ (a : Answer ℕ). RowsEnd (settle_rows w (judged w (length rs)) rs ss ls) a o p) (judged-none (length rs) w y ∙ ap accepted (sym n)) (settle-filled w (judged w (length rs)) rs ss ls y a b)

-- ---- the answer by its name

pub count-fine : (w : Why) (n : ℕ) → w.number ≡ 0 → Ok n ≡ run_count_of w n
unfolding run_count_of
count-fine w n z = rw z

pub count-refused : (w : Why) (n : ℕ) {r : Reason} → (w.number ≡ 0 → ⊥) → r ≡ reason_of w → Err r ≡ run_count_of w n
unfolding run_count_of
count-refused w n {r} d e = ap (λ (x : Reason). Err x) e ∙ by w.number d
  where
    by : (k : ℕ) → (k ≡ 0 → ⊥) → ◌≡◌ {A = Result ℕ Reason} (Err (reason_of w)) (if_zero k (Ok n) (Err (reason_of w)))
    by zero d = absurd (d refl)
    by (suc k) d = refl

-- where something refuses, a call that answers so ends as one that is refused for that reason
pub rows-answered : (w : Why) (n : ℕ) {r : Result ℕ Reason} {g : Rows (Answer ℕ)} {o p : List ℕ} → (w.number ≡ 0 → ⊥) → r ≡ run_count_of w n
    → RowsEnd g (refused (why_at (reason_of w))) o p → RowsEnd g (card_means r) o p
rows-answered w n {r} {g} {o} {p} d q k =
    record { answer = ap card_means (q ∙ sym (count-refused w n d refl)) ∙ k.answer; starts = k.starts; lengths = k.lengths }

-- ---- the call

module _ (B : ℕ) (xs ss ls : List ℕ) {f : Why} (e : f ≡ check B (length xs) (tables B xs)) where
  pub ground-refused : {r : Reason} → (f.number ≡ 0 → ⊥) → r ≡ reason_of f → RowsEnd (ground_outcome B xs ss ls) (refused (why_at r)) ss ls
  unfolding ground_outcome ground_check
  ground-refused {r} d q =
      let w : f ≡ image_check B xs ss ls = found _ e d in
      let n : Named f = subst Named (sym e) (named-check B (length xs) (tables B xs)) in
      let z : (image_check B xs ss ls).number ≡ 0 → ⊥ = λ z. d (number-of w ∙ z) in
      let a : judged (image_check B xs ss ls) (length (runs_of B (length xs) (tables B xs))) ≡ refused (why_at r) =
      judged-some _ (image_check B xs ss ls) z ∙ ap refused (sym (ap why_at q ∙ n.name d ∙ w)) in
      subst (λ (a : Answer ℕ). RowsEnd (ground_outcome B xs ss ls) a ss ls) a (settle-kept (image_check B xs ss ls) _ _ ss ls z)

  pub ground-given : {a : Answer ℕ} {o p : List ℕ} → f.number ≡ 0 → RowsEnd (rows_outcome (front_runs B (length xs) (lent B xs)) ss ls) a o p → RowsEnd (ground_outcome B xs ss ls) a o p
  unfolding ground_outcome ground_check rows_outcome
  ground-given {a} {o} {p} z g =
      let rs : List Run = runs_of B (length xs) (tables B xs) in
      let h : (check B (length xs) (tables B xs)).number ≡ 0 = sym (number-of e) ∙ z in
      let i : rows_check (length ss) (length ls) (length (runs_of B (length xs) (tables B xs))) ≡ image_check B xs ss ls = past e z refl in
      let k : RowsEnd (rows_outcome (runs_of B (length xs) (tables B xs)) ss ls) a o p = subst (λ (rs : List Run). RowsEnd (rows_outcome rs ss ls) a o p) (runs-lent B xs h) g in
      subst (λ (v : Why). RowsEnd (settle_rows v (judged v (length rs)) rs ss ls) a o p) i k
