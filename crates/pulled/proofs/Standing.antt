-- A card that stands: the table that the reader takes is lay's, block for block. It stands through every stage of an update and of a repair, and where the check accepts it both tables are lay's.
-- No contract cites this file. Assumes nothing.
use mathlib.Core.Path.{◌≡◌, refl, sym, ap, ◌∙◌, subst}
use mathlib.Core.Bool.{true, false}
use mathlib.Core.List.{List, ◌++◌}
use Prim.Native.Nat.{ℕ, zero, suc, ◌+◌, ◌-◌, ◌^◌, ◌≤◌, ◌<◌}
use native.Mathlib.Omega.{arith}
use lib.ListN.{length, take, replicate}
use lib.Seq.{length-take-le, take_at}
use Rattle.units.specs.Guids.{guid_at}
use Rattle.units.specs.Held.{Small}
use Rattle.units.proofs.Laws.{low-append, small-part}
use Rattle.crc32.specs.Crc.{crc}
use Rattle.crc32.specs.Register.{crc-fits}
use Rattle.header.specs.declared.Header.{Header}
use Rattle.header.specs.Format.{header_bytes}
use Rattle.header.specs.Writing.{stored, with_sums}
use Rattle.header.proofs.Laws.{length-header, FitHeader, fit-summed, small-header}
use Rattle.tables.specs.Places.{array_blocks}
use Rattle.tables.specs.Lens.{Side, Front, Back, Copy, Tables, copy_at, with_copy, with_array}
use Rattle.tables.specs.Entries.{zeros, set_entry}
use Rattle.tables.specs.Headers.{card_header, head_block, copy_of, card_of}
use Rattle.tables.specs.Check.{table_check, head_of, guid_of, check}
use Rattle.card.specs.Calls.{changed}
use Rattle.tables.proofs.Orders.{by-test}
use Rattle.tables.proofs.Room.{Room}
use Rattle.tables.proofs.LensLaws.{Whole}
use Rattle.tables.proofs.EntryLaws.{length-zeros, Entries}
use Rattle.tables.proofs.HeaderLaws.{fit-card, passed-header}
use Rattle.tables.proofs.Good.{Good, check-good, card-whole}
use Rattle.history.proofs.Changes.{small-zeros}
use Rattle.reader.specs.Reader.{passes, table, table_of, shown}
use Rattle.staged.specs.declared.Repair.{Repair}
use Rattle.staged.specs.Stages.{fixed, after_stages}
use Rattle.staged.specs.Repairs.{repair_of, repair_from, after_repair}
use Rattle.pulled.proofs.Readers.{Held, AllBytes, passes-zero, zero-passes, lay-guid, lay-passes, lay-shows, shown-front, shown-back}
use Rattle.pulled.proofs.Cuts.{after_more, after-1, after-2, after-3, after-4}
use Rattle.pulled.proofs.Repairs.{zeros-split, zeros-head, zeroed, repair-front-of, repair-back-of, repair-all, repair-more}

-- a header's block has zeros after its 92 bytes
abbrev pub Clean : ℕ → Copy → Type 0
Clean B c = c.header ≡ head_of c ++ zeros (B - 92)

-- the table that the reader takes is lay's: the front one, or the back one where the front does not pass
pub data Taken (B n : ℕ) (g arr : List ℕ) (t : Tables) : Type 0 where
  by_front : t.front ≡ copy_of B n Front g arr → Taken B n g arr t
  by-back : passes B n Front t.front ≡ false → t.back ≡ copy_of B n Back g arr → Taken B n g arr t

pub record Stands (B n : ℕ) (g arr : List ℕ) (t : Tables) : Type 0 where
  pub whole : Whole B t
  pub bytes : AllBytes t
  pub clean : (s : Side) → Clean B (copy_at s t)
  pub taken : Taken B n g arr t

-- what stands can be read: the numbers of its headers fit their fields, and its entries pass
pub record Sound (B n : ℕ) (g arr : List ℕ) : Type 0 where
  pub room : Room B n
  pub few : n < 2 ^ 64
  pub guid : Held g
  pub long : length arr ≡ 16384
  pub small : Small arr
  pub entries : Entries B n arr

-- ---- clean blocks

pub copy-clean : (B n : ℕ) (s : Side) (g arr : List ℕ) → Clean B (copy_of B n s g arr)
unfolding copy_of head_block zeros
copy-clean B n s g arr =
    let v : Header = stored (with_sums (card_header B n s (guid_at g 0)) (crc arr)) in
    ap (λ (x : List ℕ). x ++ replicate (B - 92) 0) (sym (take_at (header_bytes v) (replicate (B - 92) 0) 92 (length-header v)))

copy-eq : {h a h' a' : List ℕ} → h ≡ h' → a ≡ a' → ◌≡◌ {A = Copy} (record { header = h; array = a }) (record { header = h'; array = a' })
copy-eq p q = cc

copy_is : (B n : ℕ) (s : Side) (c : Copy) (g : List ℕ) → c.header ≡ (copy_of B n s g c.array).header → c ≡ copy_of B n s g c.array
unfolding copy_of
copy_is B n s c g e = copy-eq e refl

array-is : (B n : ℕ) (s : Side) (g arr : List ℕ) → (copy_of B n s g arr).array ≡ arr
unfolding copy_of
array-is B n s g arr = refl

-- a clean table whose header passes is lay's
sealed-copy : (B n : ℕ) (s : Side) (c : Copy) → 92 ≤ length c.header → Small c.header → Clean B c → (table_check B n s c).number ≡ 0 → c ≡ copy_of B n s (guid_of c) c.array
unfolding guid_of
sealed-copy B n s c l b k h =
    let x : List ℕ = head_of c in
    let q : length (head_of c) ≡ 92 = length-take-le 92 c.header l in
    let p = passed-header B n s (head_of c) c.array q (small-part c.header 0 92 b) h in
    copy_is B n s c (guid_of c) (k ∙ ap (λ (y : List ℕ). y ++ zeros (B - 92)) p ∙ sym (copy-clean B n s (guid_of c) c.array))

zeros-clean : (B : ℕ) (c : Copy) → 92 ≤ B → c.header ≡ zeros B → Clean B c
zeros-clean B c b e =
    let z : B ≡ 92 + (B - 92) = omega arith in
    e ∙ ap zeros z ∙ zeros-split 92 (B - 92) ∙ ap (λ (x : List ℕ). x ++ zeros (B - 92)) (sym (ap (λ (l : List ℕ). take 92 l) e ∙ zeros-head B b))

-- every byte of a header's block that lay writes is a byte
pub block-small : (B n : ℕ) (s : Side) (g arr : List ℕ) → Sound B n g arr → Small (copy_of B n s g arr).header
unfolding copy_of head_block zeros
block-small B n s g arr k =
    let h : Header = card_header B n s (guid_at g 0) in
    let f : FitHeader (stored (with_sums h (crc arr))) = fit-summed h (crc arr) (fit-card B n s (guid_at g 0) k.room k.few k.guid.held) (crc-fits arr k.small) in
    (low-append {xs = header_bytes (stored (with_sums h (crc arr)))} {ys = replicate (B - 92) 0} (record { each = small-header (stored (with_sums h (crc arr))) f }) (record { each = small-zeros (B - 92) })).each

tables-are : {a b : Copy} (t : Tables) → t.front ≡ a → t.back ≡ b → t ≡ record { front = a; back = b }
tables-are {a} {b} t p q = ap (λ (c : Copy). record { front = c; back = t.back }) p ∙ ap (λ (c : Copy). record { front = a; back = c }) q

-- ---- what a card that stands is

module _ {B n : ℕ} {g arr : List ℕ} {t : Tables} (k : Stands B n g arr t) (ok : Sound B n g arr) where
  lay-ok : (s : Side) → passes B n s (copy_of B n s g arr) ≡ true
  lay-ok s = lay-passes B n s g arr ok.guid ok.room ok.few ok.small ok.entries

  pub stands-shows : shown B n t ≡ table g arr
  stands-shows = by k.taken
    where
      by : Taken B n g arr t → shown B n t ≡ table g arr
      by (by_front f) =
          shown-front B n t (ap (λ (c : Copy). passes B n Front c) f ∙ lay-ok Front) ∙ ap table_of f ∙ lay-shows B n Front g arr ok.guid
      by (by-back p f) =
          shown-back B n t p (ap (λ (c : Copy). passes B n Back c) f ∙ lay-ok Back) ∙ ap table_of f ∙ lay-shows B n Back g arr ok.guid

  -- where the check accepts, both tables are lay's
  pub stands-card : (check B n t).number ≡ 0 → t ≡ card_of B n g arr
  stands-card h = by (check-good B n t h) k.taken
    where
      by : Good B n t → Taken B n g arr t → t ≡ card_of B n g arr
      by good (by-back q f) =
          let p : passes B n Front t.front ≡ true = zero-passes B n Front t.front good.front good.entries in
          let z : ◌≡◌ {A = ℕ} 0 1 = cc in
          absurd (omega arith)
      by good (by_front f) =
          let eg : guid_of t.back ≡ g = sym good.guids ∙ ap guid_of f ∙ lay-guid B n Front g arr ok.guid in
          let ea : t.back.array ≡ arr = good.arrays ∙ ap (λ (c : Copy). c.array) f ∙ array-is B n Front g arr in
          tables-are t f
          (sealed-copy B n Back t.back (omega (arith, k.whole.back-header, ok.room.least)) k.bytes.back-header (k.clean Back) good.back
          ∙ ap (λ (x : List ℕ). copy_of B n Back x t.back.array) eg
          ∙ ap (λ (x : List ℕ). copy_of B n Back g x) ea)

-- lay's tables stand
lay-bytes : (B n : ℕ) (g arr : List ℕ) → Sound B n g arr → AllBytes (card_of B n g arr)
unfolding copy_of
lay-bytes B n g arr ok = record { front-header = block-small B n Front g arr ok; front-array = ok.small; back-header = block-small B n Back g arr ok; back-array = ok.small }

pub card-stands : (B n : ℕ) (g arr : List ℕ) → Sound B n g arr → Stands B n g arr (card_of B n g arr)
card-stands B n g arr ok =
    record { whole = card-whole B n g arr (omega (arith, ok.room.least)) ok.long; bytes = lay-bytes B n g arr ok; clean = each; taken = by_front refl }
  where
    each : (s : Side) → Clean B (copy_at s (card_of B n g arr))
    each Front = copy-clean B n Front g arr
    each Back = copy-clean B n Back g arr

-- ---- through the stages of an update, from tables that the check accepts

module _ (B n : ℕ) (t : Tables) (s : ℕ) (e : List ℕ) (good : Good B n t) (w : Whole B t) (bytes : AllBytes t) (clean : (s : Side) → Clean B (copy_at s t))
    (ok : Sound B n (guid_of t.front) (set_entry t.front.array (s - 1) e)) where
  abbrev new : List ℕ
  new = set_entry t.front.array (s - 1) e

  abbrev kept : List ℕ
  kept = guid_of t.front

  long-head : 92 ≤ length t.front.header
  long-head = omega (arith, w.front-header, ok.room.least)

  old-front : t.front ≡ copy_of B n Front kept t.front.array
  old-front = sealed-copy B n Front t.front long-head bytes.front-header (clean Front) good.front

  new-stands : Stands B n kept new (card_of B n kept new)
  new-stands = card-stands B n kept new ok

  pub stages-old : (k : ℕ) → k ≤ 2 → Stands B n kept t.front.array (after_stages B n (fixed B n t s e) k t)
  unfolding after_stages
  stages-old zero h = record { whole = w; bytes = bytes; clean = clean; taken = by_front old-front }
  stages-old (suc zero) h = subst (λ (x : Tables). Stands B n kept t.front.array x) (sym (after-1 B n t s e good)) one
    where
      each : (s : Side) → Clean B (copy_at s (with_array Back new t))
      each Front = clean Front
      each Back = clean Back

      one : Stands B n kept t.front.array (with_array Back new t)
      one =
          record {
            whole = record { front-header = w.front-header; front-array = w.front-array; back-header = w.back-header; back-array = ok.long };
            bytes = record { front-header = bytes.front-header; front-array = bytes.front-array; back-header = bytes.back-header; back-array = ok.small };
            clean = each;
            taken = by_front old-front;
          }
  stages-old (suc (suc zero)) h = subst (λ (x : Tables). Stands B n kept t.front.array x) (sym (after-2 B n t s e good)) two
    where
      each : (s : Side) → Clean B (copy_at s (with_copy Back (copy_of B n Back kept new) t))
      each Front = clean Front
      each Back = copy-clean B n Back kept new

      two : Stands B n kept t.front.array (with_copy Back (copy_of B n Back kept new) t)
      two =
          let x = new-stands in
          record {
            whole = record { front-header = w.front-header; front-array = w.front-array; back-header = x.whole.back-header; back-array = x.whole.back-array };
            bytes = record { front-header = bytes.front-header; front-array = bytes.front-array; back-header = x.bytes.back-header; back-array = x.bytes.back-array };
            clean = each;
            taken = by_front old-front;
          }
  stages-old (suc (suc (suc k))) h = absurd (omega arith)

  -- the new array under the old front header: where that passes by accident, it is lay's table for the new array, as the sums are equal
  half : Copy
  half = record { header = t.front.header; array = new }

  accident : passes B n Front half ≡ true → half ≡ copy_of B n Front kept new
  unfolding half guid_of
  accident p = sealed-copy B n Front half long-head bytes.front-header (clean Front) (passes-zero B n Front half p)

  four-stands : Stands B n kept new (changed B n t s e)
  unfolding changed
  four-stands = new-stands

  pub stages-new : (k : ℕ) → 3 ≤ k → Stands B n kept new (after_stages B n (fixed B n t s e) k t)
  unfolding half
  stages-new zero h = absurd (omega arith)
  stages-new (suc zero) h = absurd (omega arith)
  stages-new (suc (suc zero)) h = absurd (omega arith)
  stages-new (suc (suc (suc zero))) h = subst (λ (x : Tables). Stands B n kept new x) (sym (after-3 B n t s e good)) three
    where
      each : (s : Side) → Clean B (copy_at s (record { front = half; back = copy_of B n Back kept new }))
      each Front = clean Front
      each Back = copy-clean B n Back kept new

      three : Stands B n kept new (record { front = half; back = copy_of B n Back kept new })
      three =
          let x = new-stands in
          record {
            whole = record { front-header = w.front-header; front-array = ok.long; back-header = x.whole.back-header; back-array = x.whole.back-array };
            bytes = record { front-header = bytes.front-header; front-array = ok.small; back-header = x.bytes.back-header; back-array = x.bytes.back-array };
            clean = each;
            taken = by-test (passes B n Front half) (λ p. by_front (accident p)) (λ p. by-back p refl);
          }
  stages-new (suc (suc (suc (suc k)))) h = subst (λ (x : Tables). Stands B n kept new x) (sym (after_more B n t s e k ∙ after-4 B n t s e good)) four-stands

-- ---- through the stages of a repair

module _ {B n : ℕ} {g arr : List ℕ} {t : Tables} (k : Stands B n g arr t) (ok : Sound B n g arr) where
  w : Whole B t
  w = k.whole

  big : 92 ≤ B
  big = omega (arith, ok.room.least)

  lay : Stands B n g arr (card_of B n g arr)
  lay = card-stands B n g arr ok

  passes-lay : (s : Side) → passes B n s (copy_of B n s g arr) ≡ true
  passes-lay s = lay-passes B n s g arr ok.guid ok.room ok.few ok.small ok.entries

  -- what stage one fixes
  fix-front : t.front ≡ copy_of B n Front g arr → repair_of B n t ≡ repair_from B n t false
  fix-front f = repair-front-of B n t (ap (λ (c : Copy). passes B n Front c) f ∙ passes-lay Front)

  -- the copy that is written, whatever it is meanwhile
  record Written (c : Copy) : Type 0 where
    clean : Clean B c
    header : length c.header ≡ B
    array : length c.array ≡ 16384
    small-header : Small c.header
    small-array : Small c.array

  -- the back one replaced while the front is lay's, and the front one while the back is
  back-new : t.front ≡ copy_of B n Front g arr → (c : Copy) → Written c → Stands B n g arr (with_copy Back c t)
  back-new f c z =
      record {
        whole = record { front-header = w.front-header; front-array = w.front-array; back-header = z.header; back-array = z.array };
        bytes = record { front-header = k.bytes.front-header; front-array = k.bytes.front-array; back-header = z.small-header; back-array = z.small-array };
        clean = each;
        taken = by_front f;
      }
    where
      each : (s : Side) → Clean B (copy_at s (with_copy Back c t))
      each Front = k.clean Front
      each Back = z.clean

  front-new : (c : Copy) → Written c → Taken B n g arr (with_copy Front c t) → Stands B n g arr (with_copy Front c t)
  front-new c z q =
      record {
        whole = record { front-header = z.header; front-array = z.array; back-header = w.back-header; back-array = w.back-array };
        bytes = record { front-header = z.small-header; front-array = z.small-array; back-header = k.bytes.back-header; back-array = k.bytes.back-array };
        clean = each;
        taken = q;
      }
    where
      each : (s : Side) → Clean B (copy_at s (with_copy Front c t))
      each Front = z.clean
      each Back = k.clean Back

  -- a table whose header's block is zeros, and lay's
  zeros-written : (c : Copy) → c.header ≡ zeros B → length c.array ≡ 16384 → Small c.array → Written c
  zeros-written c z l b =
      record {
        clean = zeros-clean B c big z;
        header = ap length z ∙ length-zeros B;
        array = l;
        small-header = subst Small (sym z) (small-zeros B);
        small-array = b;
      }

  lay-written : (s : Side) → Written (copy_of B n s g arr)
  lay-written Front =
      record { clean = copy-clean B n Front g arr; header = lay.whole.front-header; array = lay.whole.front-array; small-header = lay.bytes.front-header; small-array = lay.bytes.front-array }
  lay-written Back =
      record { clean = copy-clean B n Back g arr; header = lay.whole.back-header; array = lay.whole.back-array; small-header = lay.bytes.back-header; small-array = lay.bytes.back-array }

  array_of : (s : Side) (c : Copy) → c ≡ copy_of B n s g arr → c.array ≡ arr
  array_of s c f = ap (λ (c : Copy). c.array) f ∙ array-is B n s g arr

  guid-is : (s : Side) (c : Copy) → c ≡ copy_of B n s g arr → guid_of c ≡ g
  guid-is s c f = ap guid_of f ∙ lay-guid B n s g arr ok.guid

  -- lay's table for the GUID and the array of the good one is lay's for g and arr
  same_copy : (s o : Side) (c : Copy) → c ≡ copy_of B n s g arr → copy_of B n o (guid_of c) c.array ≡ copy_of B n o g arr
  same_copy s o c f = ap (λ (x : List ℕ). copy_of B n o x c.array) (guid-is s c f) ∙ ap (λ (x : List ℕ). copy_of B n o g x) (array_of s c f)

  pub repair-stands : (m : ℕ) → Stands B n g arr (after_repair B n (repair_of B n t) m t)
  repair-stands m = by k.taken
    where
      by : Taken B n g arr t → Stands B n g arr (after_repair B n (repair_of B n t) m t)
      by (by_front f) =
          subst (λ (x : Repair). Stands B n g arr (after_repair B n x m t)) (sym (fix-front f))
          (repair-all B n ok.room t w k.bytes false (λ (x : Tables). Stands B n g arr x) k
          (λ c z lc sc. back-new f c (zeros-written c z lc sc))
          (subst (λ (c : Copy). Stands B n g arr (with_copy Back c t)) (sym (same_copy Front Back t.front f))
          (back-new f (copy_of B n Back g arr) (lay-written Back))) m)
      by (by-back p f) =
          subst (λ (x : Repair). Stands B n g arr (after_repair B n x m t)) (sym (repair-back-of B n t p))
          (repair-all B n ok.room t w k.bytes true (λ (x : Tables). Stands B n g arr x) k
          (λ c z lc sc. front-new c (zeros-written c z lc sc) (by-back (zeroed B n Front c big z) f))
          (subst (λ (c : Copy). Stands B n g arr (with_copy Front c t)) (sym (same_copy Back Front t.back f))
          (front-new (copy_of B n Front g arr) (lay-written Front) (by_front refl))) m)

  -- a finished repair leaves lay's tables for the GUID and the array
  pub repair-card : (m : ℕ) → array_blocks B + 2 ≤ m → after_repair B n (repair_of B n t) m t ≡ card_of B n g arr
  repair-card m o =
      let z : m ≡ suc (suc (array_blocks B + (m - array_blocks B - 2))) = omega arith in
      ap (λ (j : ℕ). after_repair B n (repair_of B n t) j t) z ∙ by (m - array_blocks B - 2) k.taken
    where
      by : (j : ℕ) → Taken B n g arr t → after_repair B n (repair_of B n t) (suc (suc (array_blocks B + j))) t ≡ card_of B n g arr
      by j (by_front f) =
          ap (λ (x : Repair). after_repair B n x (suc (suc (array_blocks B + j))) t) (fix-front f)
          ∙ repair-more B n ok.room t w k.bytes false j
          ∙ ap (λ (c : Copy). with_copy Back c t) (same_copy Front Back t.front f)
          ∙ ap (λ (c : Copy). record { front = c; back = copy_of B n Back g arr }) f
      by j (by-back p f) =
          ap (λ (x : Repair). after_repair B n x (suc (suc (array_blocks B + j))) t) (repair-back-of B n t p)
          ∙ repair-more B n ok.room t w k.bytes true j
          ∙ ap (λ (c : Copy). with_copy Front c t) (same_copy Back Front t.back f)
          ∙ ap (λ (c : Copy). record { front = copy_of B n Front g arr; back = c }) f
