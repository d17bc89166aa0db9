-- A card read by the readers of the format: both headers are read, both arrays are found with their sums right, and each slot reads as what it holds.
-- No contract cites this file. Assumes nothing.
use mathlib.Core.Path.{◌≡◌, refl, sym, ap, ◌∙◌}
use mathlib.Core.Bool.{Bool, true, false, not}
use mathlib.Core.List.{List, ◌++◌, append_assoc}
use Prim.Native.Nat.{ℕ, ◌+◌, ◌*◌, ◌-◌, ◌^◌, ◌≤◌, ◌<◌}
use native.Mathlib.Omega.{arith}
use borrow.Author.Tests.{eq-eqb, le-leb, lt-leb, le-ltb}
use lib.ListN.{length, replicate, take, drop, take-append-drop}
use Rattle.units.specs.declared.Guid.{Guid}
use Rattle.units.specs.Answer.{accepted}
use Rattle.units.specs.Bytes.{part, all_zero}
use Rattle.units.specs.Guids.{guid_bytes}
use Rattle.units.specs.Places.{inside, inside_or_empty}
use Rattle.units.specs.Held.{GuidHeld}
use Rattle.units.proofs.Lists.{part-part}
use Rattle.crc32.specs.Crc.{crc}
use Rattle.crc32.specs.Register.{crc-fits}
use Rattle.header.specs.declared.Header.{Header}
use Rattle.header.specs.Format.{header_bytes}
use Rattle.header.specs.Reading.{header_read, primary_read, backup_read}
use Rattle.header.specs.Writing.{stored, with_sums}
use Rattle.header.proofs.Laws.{fit-summed, sum-right, stands-reads}
use Rattle.partition.specs.declared.Partition.{Partition}
use Rattle.partition.specs.Format.{entry_at, entry_bytes}
use Rattle.partition.specs.Array.{Found, array_found, partition_found, partition_read}
use Rattle.partition.proofs.Laws.{entry-drop, entry_here}
use Rattle.tables.specs.Places.{back_array, back_header}
use Rattle.tables.specs.Lens.{Tables, tables_at, Side, Front, Back}
use Rattle.tables.specs.Entries.{entry, used}
use Rattle.tables.specs.Headers.{copy_of, card_header, head_block, array_start}
use Rattle.history.specs.History.{Reads}
use Rattle.tables.proofs.Orders.{by-test}
use Rattle.tables.proofs.Room.{Room}
use Rattle.tables.proofs.EntryLaws.{zero-front, zeros-zero}
use Rattle.tables.proofs.Good.{room-ok}
use Rattle.tables.proofs.HeaderLaws.{block-twice, fit-card}
use Rattle.history.proofs.Steps.{Kept, Holds, small-array}

found-eq : {a b : Bool} {p q : Partition} → a ≡ b → p ≡ q → ◌≡◌ {A = Found} (record { present = a; partition = p }) (record { present = b; partition = q })
found-eq d e = cc

-- present is not all zero
pub present-is : (f : Found) → Kept f → not (all_zero (entry_bytes f.partition)) ≡ f.present
unfolding used
present-is f k = by-test f.present yes no
  where
    e : List ℕ
    e = entry_bytes f.partition

    yes : f.present ≡ true → not (all_zero (entry_bytes f.partition)) ≡ f.present
    yes t =
        by-test (all_zero (entry_bytes f.partition))
        (λ z.
        let w : all_zero (take 16 (entry_bytes f.partition)) ≡ true = zero-front 16 (entry_bytes f.partition) z in
        let s : not (all_zero (take 16 (entry_bytes f.partition))) ≡ f.present = k.seen in
        let o : ◌≡◌ {A = ℕ} 0 1 = cc in absurd (omega arith))
        (λ z. ap not z ∙ sym t)

    no : f.present ≡ false → not (all_zero (entry_bytes f.partition)) ≡ f.present
    no t = ap (λ (x : List ℕ). not (all_zero x)) (k.zero t) ∙ ap not zeros-zero ∙ sym t

-- the bytes of what a slot holds read as its record, wherever they stand
pub entry-reads : (xs : List ℕ) (at : ℕ) (f : Found) → Kept f → part xs at 128 ≡ entry_bytes f.partition → entry_at xs at ≡ f.partition
entry-reads xs at f k e =
    let r : List ℕ = drop 128 (drop at xs) in
    let d : drop at xs ≡ entry_bytes f.partition ++ drop 128 (drop at xs) = sym (take-append-drop 128 (drop at xs)) ∙ ap (λ (l : List ℕ). l ++ r) e in
    entry-drop xs at ∙ ap (λ (l : List ℕ). entry_at l 0) d ∙ entry_here f.partition r k.held.fields k.joins ∙ k.clear

module _ (B : ℕ) (xs : List ℕ) (g : Guid) (slots : ℕ → Found) (h : Holds B (length xs) (guid_bytes g) slots xs) (gh : GuidHeld g) (fits : length xs < 2 ^ 64) where
  room_of : Room B (length xs)
  room_of = room-ok B (length xs) h.state.room

  -- the header that stands on a side
  unfoldable header_on : Side → Header
  header_on s = stored (with_sums (card_header B (length xs) s g) (crc h.array))

  header-read : (s : Side) (at : ℕ) → part xs at B ≡ (copy_of B (length xs) s (guid_bytes g) h.array).header → header_read xs at ≡ accepted (header_on s)
  unfolding header_on copy_of head_block
  header-read s at q =
      stands-reads xs at (header_on s) (replicate (B - 92) 0 ++ drop B (drop at xs))
      (sym (take-append-drop B (drop at xs))
      ∙ ap (λ (l : List ℕ). l ++ drop B (drop at xs)) (q ∙ block-twice B (length xs) s g (crc h.array))
      ∙ append_assoc (header_bytes (header_on s)) (replicate (B - 92) 0) (drop B (drop at xs)))
      (fit-summed (card_header B (length xs) s g) (crc h.array) (fit-card B (length xs) s g room_of fits gh) (crc-fits h.array (small-array h)))
      (sum-right (card_header B (length xs) s g) (crc h.array))

  -- ---- the array

  module _ (s : Side) (at : ℕ) (a : array_start B (length xs) s * B ≡ at) (i : at + 16384 ≤ length xs) (q : part xs at 16384 ≡ h.array) where
    array-found : array_found xs (header_on s) B ≡ accepted (record { 0 = at })
    unfolding array_found header_on with_sums inside_or_empty inside
    array-found =
        rw (room_of.good, a, lt-leb (2 ^ 64) at (omega arith), le-leb (at + 16384) (length xs) i, q, eq-eqb (crc h.array) (crc h.array) refl)

    slot-bytes : (k : ℕ) → k < 128 → part xs (at + k * 128) 128 ≡ entry h.array k
    unfolding entry
    slot-bytes k l =
        let e : k * 128 ≡ 128 * k = omega arith in
        sym (part-part xs at 16384 (k * 128) 128 (omega arith)) ∙ ap (λ (x : List ℕ). part x (k * 128) 128) q ∙ ap (λ (j : ℕ). part h.array j 128) e

    slot-read : (k : ℕ) → 1 ≤ k → k ≤ 128 → partition_read xs (header_on s) B k ≡ accepted (slots k)
    unfolding partition_read partition_found header_on with_sums
    slot-read k o m =
        let b : part xs (at + (k - 1) * 128) 128 ≡ entry_bytes (slots k).partition = slot-bytes (k - 1) (omega arith) ∙ h.places k o m in
        let e : entry_at xs (at + (k - 1) * 128) ≡ (slots k).partition = entry-reads xs (at + (k - 1) * 128) (slots k) (h.kept k) b in
        let f : not (all_zero (part xs (at + (k - 1) * 128) 128)) ≡ (slots k).present = ap (λ (l : List ℕ). not (all_zero l)) b ∙ present-is (slots k) (h.kept k) in
        rw (array-found, le-ltb k 1 o, le-ltb 128 k m) (ap accepted (found-eq f e))

  -- ---- the two sides

  pub reads-front : Reads B g slots xs (B + B) (primary_read xs B)
  unfolding primary_read tables_at copy_of header_on with_sums
  reads-front =
      let r = room_of in
      let two : 2 * B ≡ B + B = omega arith in
      record {
        header = header_on Front;
        read = rw r.good (header-read Front B (ap (λ (t : Tables). t.front.header) h.state.tables));
        guid = refl;
        first = refl;
        last = refl;
        count = refl;
        found = array-found Front (B + B) two (omega arith) (ap (λ (t : Tables). t.front.array) h.state.tables);
        each = slot-read Front (B + B) two (omega arith) (ap (λ (t : Tables). t.front.array) h.state.tables);
      }

  pub reads-back : Reads B g slots xs (back_array B (length xs)) (backup_read xs B)
  unfolding backup_read tables_at copy_of header_on with_sums
  reads-back =
      let r = room_of in
      record {
        header = header_on Back;
        read =
            rw (r.good, le-ltb (length xs) (3 * B) r.enough, r.block)
            (header-read Back (back_header B (length xs)) (ap (λ (t : Tables). t.back.header) h.state.tables));
        guid = refl;
        first = refl;
        last = refl;
        count = refl;
        found = array-found Back (back_array B (length xs)) r.last (omega arith) (ap (λ (t : Tables). t.back.array) h.state.tables);
        each = slot-read Back (back_array B (length xs)) r.last (omega arith) (ap (λ (t : Tables). t.back.array) h.state.tables);
      }
