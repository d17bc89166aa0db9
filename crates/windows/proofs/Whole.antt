-- The whole image that two windows stand for: its length, its windows, its tables, and what a store in a window is in it. No contract cites this file. Assumes nothing.
use mathlib.Core.Path.{◌≡◌, sym, ap, ◌∙◌}
use mathlib.Core.Bool.{true, false, not, ◌&&◌}
use mathlib.Core.List.{List, ◌++◌, append_assoc}
use Prim.Native.Nat.{ℕ, suc, ◌+◌, ◌*◌, ◌-◌, ◌^◌, ◌≤◌, ◌<◌}
use native.Mathlib.Nat.{mul-div_cancel, suc-mul}
use native.Mathlib.Omega.{arith}
use borrow.Author.Tests.{eqb-true, leb-false, not-false}
use lib.Dec.{eqb, leb}
use lib.ListN.{length, take, length-append}
use lib.Seq.{sets, length-sets, take_all, take_at, drop_at}
use Rattle.units.specs.Answer.{plain, when}
use Rattle.units.specs.Bytes.{part}
use Rattle.units.specs.Places.{good_size}
use Rattle.units.proofs.Chains.{else-first, else-second, none-when}
use Rattle.units.proofs.Lists.{sets-all, sets-left, sets-right}
use Rattle.tables.specs.Places.{blocks, back_array, back_header}
use Rattle.tables.specs.Lens.{Tables, Front, Back, copy_bytes, copies, tables_at, with_tables_at}
use Rattle.tables.specs.Entries.{zeros, set_entry}
use Rattle.tables.specs.Headers.{card_of}
use Rattle.tables.specs.Check.{room_check, guid_of, bad_slot}
use Rattle.tables.proofs.Orders.{and_left, and_right}
use Rattle.tables.proofs.Room.{Room}
use Rattle.tables.proofs.LensLaws.{Whole, whole-tables}
use Rattle.tables.proofs.Good.{room-ok, slot_ok, card-whole}
use Rattle.tables.proofs.EntryLaws.{length-zeros, length-set-entry}
use Rattle.tables.proofs.Copies.{copies-tables, part_at}
use Rattle.card.specs.Calls.{mbr, laid_image, changed}
use Rattle.card.proofs.LayWays.{length-mbr-of}
use Rattle.windows.specs.Windows.{head_long, tail_long, head_in, tail_in, whole, window_tables, length_check, window_check}

-- windows that are as long as a card of N blocks asks for, which has room for two tables
pub record Fits (B N : ℕ) (head tail : List ℕ) : Type 0 where
  pub room : Room B (N * B)
  pub roomy : (room_check B (N * B)).number ≡ 0
  pub width : N * B < 2 ^ 64
  pub head-long : length head ≡ head_long B
  pub tail-long : length tail ≡ tail_long B

pub long-by : (B h k : ℕ) → (length_check B h k).number ≡ 0 → (h ≡ head_long B) × (k ≡ tail_long B)
unfolding length_check
long-by B h k e =
    let q : eqb h (head_long B) && eqb k (tail_long B) ≡ true = not-false _ (none-when _ (plain 32) tt e) in
    (eqb-true h (head_long B) (and_left (eqb h (head_long B)) (eqb k (tail_long B)) q), eqb-true k (tail_long B) (and_right (eqb h (head_long B)) (eqb k (tail_long B)) q))

pub fits_by : (B N : ℕ) (head tail : List ℕ) → (window_check B N (length head) (length tail)).number ≡ 0 → Fits B N head tail
unfolding window_check
fits_by B N head tail e =
    let a = else-second (when (not (good_size B)) (plain 1)) _ e in
    let w = leb-false (2 ^ 64) (N * B) (none-when _ (plain 3) tt (else-first (when (leb (2 ^ 64) (N * B)) (plain 3)) _ a)) in
    let b = else-second (when (leb (2 ^ 64) (N * B)) (plain 3)) _ a in
    let r = else-first (room_check B (N * B)) _ b in
    let l = long-by B (length head) (length tail) (else-second (room_check B (N * B)) _ b) in
    record { room = room-ok B (N * B) r; roomy = r; width = w; head-long = l.0; tail-long = l.1 }

module _ (B N : ℕ) (r : Room B (N * B)) where
  pub block-count : blocks B (N * B) ≡ N
  block-count = mul-div_cancel N (omega (arith, r.least))

  -- the back table ends where the last block does
  pub back-ends : back_array B (N * B) + tail_long B ≡ N * B
  unfolding back_header
  back-ends =
      let s = r.seam in
      let c = r.count in
      let e : suc (blocks B (N * B) - 1) ≡ N = omega (arith, block-count) in
      let z : (blocks B (N * B) - 1) * B + B ≡ N * B = sym (suc-mul (blocks B (N * B) - 1) B) ∙ ap (λ (x : ℕ). x * B) e in
      omega arith

  module _ (head tail : List ℕ) (h : length head ≡ head_long B) (k : length tail ≡ tail_long B) where
    middle-long : length (zeros (N * B - (length head + length tail))) ≡ N * B - (head_long B + tail_long B)
    middle-long = length-zeros (N * B - (length head + length tail)) ∙ (rw (h, k))

    front_long : length (head ++ zeros (N * B - (length head + length tail))) ≡ back_array B (N * B)
    front_long = let l = r.low in simp length-append (omega (arith, middle-long, back-ends))

    pub length_whole : length (whole B N head tail) ≡ N * B
    unfolding whole
    length_whole = let l = r.low in simp length-append (omega (arith, middle-long, back-ends))

    pub head-whole : head_in B (whole B N head tail) ≡ head
    unfolding whole
    head-whole = take_at head (zeros (N * B - (length head + length tail)) ++ tail) (head_long B) h

    pub tail-whole : tail_in B (N * B) (whole B N head tail) ≡ tail
    unfolding whole
    tail-whole =
        let z : List ℕ = zeros (N * B - (length head + length tail)) in
        ap (λ (l : List ℕ). part l (back_array B (N * B)) (tail_long B)) (sym (append_assoc head z tail))
        ∙ ap (λ (l : List ℕ). take (tail_long B) l) (drop_at (head ++ z) tail (back_array B (N * B)) front_long)
        ∙ take_all (tail_long B) tail (omega arith)

    -- the front table's bytes
    pub front-whole : part (whole B N head tail) B (B + 16384) ≡ part head B (B + 16384)
    front-whole = sym (part_at (whole B N head tail) 0 (head_long B) B (B + 16384) B (omega arith) (omega arith)) ∙ ap (λ (l : List ℕ). part l B (B + 16384)) head-whole

    pub tables-whole : tables_at B (N * B) (whole B N head tail) ≡ window_tables B head tail
    tables-whole =
        let xs : List ℕ = whole B N head tail in
        sym (copies-tables B (N * B) xs r) ∙ ap (λ (l : List ℕ). copies B l (tail_in B (N * B) xs)) front-whole ∙ ap (λ (l : List ℕ). copies B (part head B (B + 16384)) l) tail-whole

    -- a store in the head, and one in the tail
    pub store-head : (at : ℕ) (vs : List ℕ) → at + length vs ≤ head_long B → sets (whole B N head tail) at vs ≡ whole B N (sets head at vs) tail
    unfolding whole
    store-head at vs q =
        sets-left head (zeros (N * B - (length head + length tail)) ++ tail) at vs (omega arith)
        ∙ ap (λ (m : ℕ). sets head at vs ++ (zeros (N * B - (m + length tail)) ++ tail)) (sym (length-sets head at vs))

    pub store_tail : (at o : ℕ) (vs : List ℕ) → at ≡ back_array B (N * B) + o → sets (whole B N head tail) at vs ≡ whole B N head (sets tail o vs)
    unfolding whole
    store_tail at o vs q =
        let m : ℕ = N * B - (length head + length tail) in
        let z : List ℕ = zeros (N * B - (length head + length tail)) in
        let e : at ≡ length (head ++ z) + o = q ∙ ap (λ (x : ℕ). x + o) (sym front_long) in
        ap (λ (l : List ℕ). sets l at vs) (sym (append_assoc head z tail))
        ∙ ap (λ (x : ℕ). sets ((head ++ z) ++ tail) x vs) e
        ∙ sets-right (head ++ z) tail o vs
        ∙ append_assoc head z (sets tail o vs)
        ∙ ap (λ (x : ℕ). head ++ (zeros (N * B - (length head + x)) ++ sets tail o vs)) (sym (length-sets tail o vs))

-- both tables put back
pub with-whole : (B N : ℕ) → Room B (N * B) → (head tail : List ℕ) → length head ≡ head_long B → length tail ≡ tail_long B → (t : Tables)
    → length (copy_bytes Front t.front) ≡ B + 16384 → length (copy_bytes Back t.back) ≡ B + 16384
    → with_tables_at B (N * B) (whole B N head tail) t ≡ whole B N (sets head B (copy_bytes Front t.front)) (copy_bytes Back t.back)
unfolding with_tables_at
with-whole B N r head tail h k t lf lb =
    let f : List ℕ = copy_bytes Front t.front in
    let b : List ℕ = copy_bytes Back t.back in
    let h' : length (sets head B f) ≡ head_long B = length-sets head B f ∙ h in
    ap (λ (l : List ℕ). sets l (back_array B (N * B)) b) (store-head B N r head tail h k B f (omega arith))
    ∙ store_tail B N r (sets head B f) tail h' k (back_array B (N * B)) 0 b (omega arith)
    ∙ ap (λ (l : List ℕ). whole B N (sets head B f) l) (sets-all tail b (omega arith))

-- tables with header blocks of B bytes and arrays of 16,384, by their bytes
pub both_long : (B : ℕ) (t : Tables) → Whole B t → (length (copy_bytes Front t.front) ≡ B + 16384) × (length (copy_bytes Back t.back) ≡ B + 16384)
both_long B t w = (simp length-append (omega (arith, w.front-header, w.front-array)), simp length-append (omega (arith, w.back-header, w.back-array)))

module _ (B N : ℕ) (head tail : List ℕ) (q : Fits B N head tail) where
  abbrev T : Tables
  T = window_tables B head tail

  -- what a put or a clear leaves
  module _ (s : ℕ) (e : List ℕ) (b : bad_slot s ≡ false) (le : length e ≡ 128) where
    abbrev C : Tables
    C = changed B (N * B) T s e

    changed-long : (length (copy_bytes Front C.front) ≡ B + 16384) × (length (copy_bytes Back C.back) ≡ B + 16384)
    unfolding changed
    changed-long =
        let l : length T.front.array ≡ 16384 =
        ap (λ (t : Tables). length t.front.array) (sym (tables-whole B N q.room head tail q.head-long q.tail-long))
        ∙ (whole-tables B (N * B) q.room (whole B N head tail) (length_whole B N q.room head tail q.head-long q.tail-long)).front-array in
        both_long B (changed B (N * B) T s e)
        (card-whole B (N * B) (guid_of T.front) (set_entry T.front.array (s - 1) e) (omega (arith, q.room.least)) (length-set-entry T.front.array (s - 1) e l (slot_ok s b).1 le))

    pub changed-whole : with_tables_at B (length (whole B N head tail)) (whole B N head tail) (changed B (length (whole B N head tail)) (tables_at B (length (whole B N head tail)) (whole B N head tail)) s e)
        ≡ whole B N (sets head B (copy_bytes Front C.front)) (copy_bytes Back C.back)
    changed-whole =
        let xs : List ℕ = whole B N head tail in
        ap (λ (n : ℕ). with_tables_at B n xs (changed B n (tables_at B n xs) s e)) (length_whole B N q.room head tail q.head-long q.tail-long)
        ∙ ap (λ (t : Tables). with_tables_at B (N * B) xs (changed B (N * B) t s e)) (tables-whole B N q.room head tail q.head-long q.tail-long)
        ∙ with-whole B N q.room head tail q.head-long q.tail-long C changed-long.0 changed-long.1

    pub head-changed : length (sets head B (copy_bytes Front C.front)) ≡ head_long B
    head-changed = length-sets head B (copy_bytes Front C.front) ∙ q.head-long

    pub tail-changed : length (copy_bytes Back C.back) ≡ tail_long B
    tail-changed = changed-long.1

  -- what lay leaves
  module _ (g : List ℕ) where
    abbrev L : Tables
    L = card_of B (N * B) g (zeros 16384)

    abbrev h₁ : List ℕ
    h₁ = sets head 0 (mbr (blocks B (N * B) - 1))

    laid-long : (length (copy_bytes Front L.front) ≡ B + 16384) × (length (copy_bytes Back L.back) ≡ B + 16384)
    laid-long = both_long B L (card-whole B (N * B) g (zeros 16384) (omega (arith, q.room.least)) (length-zeros 16384))

    one-long : length h₁ ≡ head_long B
    one-long = length-sets head 0 (mbr (blocks B (N * B) - 1)) ∙ q.head-long

    pub laid-whole : laid_image B (length (whole B N head tail)) (whole B N head tail) g ≡ whole B N (sets h₁ B (copy_bytes Front L.front)) (copy_bytes Back L.back)
    laid-whole =
        let xs : List ℕ = whole B N head tail in
        let m : List ℕ = mbr (blocks B (N * B) - 1) in
        ap (λ (n : ℕ). laid_image B n xs g) (length_whole B N q.room head tail q.head-long q.tail-long)
        ∙ ap (λ (l : List ℕ). with_tables_at B (N * B) l L)
        (store-head B N q.room head tail q.head-long q.tail-long 0 m (omega (arith, length-mbr-of (blocks B (N * B) - 1), q.room.least)))
        ∙ with-whole B N q.room h₁ tail one-long q.tail-long L laid-long.0 laid-long.1

    pub head-laid : length (sets h₁ B (copy_bytes Front L.front)) ≡ head_long B
    head-laid = length-sets h₁ B (copy_bytes Front L.front) ∙ one-long

    pub tail-laid : length (copy_bytes Back L.back) ≡ tail_long B
    tail-laid = laid-long.1
