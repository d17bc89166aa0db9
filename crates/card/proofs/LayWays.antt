-- The laws of what lay stores: header blocks, the MBR, one table, and the whole card. No contract cites this file. Assumes nothing.
use mathlib.Core.Path.{◌≡◌, refl, sym, ap, ◌∙◌}
use mathlib.Core.Logic.{inr}
use mathlib.Core.List.{List}
use Prim.Native.Nat.{ℕ, zero, suc, ◌+◌, ◌-◌, ◌^◌, ◌≤◌, ◌<◌}
use native.Mathlib.Omega.{arith}
use borrow.Author.Tests.{ltb-true}
use lib.Dec.{ltb}
use lib.ListN.{length, get_or, length-append}
use lib.Seq.{sets}
use Rattle.units.specs.declared.Guid.{Guid}
use Rattle.units.specs.Answer.{Answer, pick, Ends}
use Rattle.units.specs.Guids.{guid_bytes}
use Rattle.units.proofs.Lists.{sets-comm}
use Rattle.crc32.specs.Crc.{crc}
use Rattle.mbr.specs.Format.{mbr_bytes, zero_record, fresh}
use Rattle.mbr.specs.Storing.{whole_stored}
use Rattle.mbr.proofs.Laws.{FitRecord, FitMbr, store-all, length-mbr}
use Rattle.tables.specs.Places.{blocks, back_array}
use Rattle.tables.specs.Lens.{Side, Front, Back, copy_bytes, with_tables_at}
use Rattle.tables.specs.Entries.{zeros}
use Rattle.tables.specs.Headers.{copy_of, card_of, head_block}
use Rattle.tables.specs.Check.{room_check}
use Rattle.tables.proofs.Orders.{by-pick}
use Rattle.tables.proofs.Room.{Room}
use Rattle.tables.proofs.EntryLaws.{length-zeros}
use Rattle.tables.proofs.Good.{room-ok, card-whole}
use Rattle.tables.proofs.HeaderLaws.{block-twice}
use Rattle.card.specs.Calls.{mbr}

-- the block that the code stores is the one that the tables name, for each array of that sum
pub head-block : (B n : ℕ) (s : Side) (g : Guid) (arr : List ℕ) {parts : ℕ} → parts ≡ crc arr → head_block B n s g parts ≡ (copy_of B n s (guid_bytes g) arr).header
unfolding copy_of
head-block B n s g arr e = ap (head_block B n s g) e ∙ sym (block-twice B n s g (crc arr))

-- a new MBR fits its fields
pub fit-fresh : (n : ℕ) → n < 2 ^ 32 → FitMbr (fresh n)
fit-fresh n h = record { boot = refl; sign = refl; unknown = omega arith; count = refl; records = each }
  where
    each : (i : ℕ) → FitRecord (get_or (fresh n).partitions i zero_record)
    each zero = record { start = omega arith; size = h }
    each (suc zero) = record { start = omega arith; size = omega arith }
    each (suc (suc zero)) = record { start = omega arith; size = omega arith }
    each (suc (suc (suc zero))) = record { start = omega arith; size = omega arith }
    each (suc (suc (suc (suc i)))) = record { start = omega arith; size = omega arith }

pub length-mbr-of : (k : ℕ) → length (mbr k) ≡ 512
unfolding mbr
length-mbr-of k =
    by-pick (λ (m : ℕ). length (mbr_bytes (fresh m)) ≡ 512) (ltb k 0xFFFFFFFF) k 0xFFFFFFFF
    (λ e. let l = ltb-true k 0xFFFFFFFF e in length-mbr (fresh k) (fit-fresh k (omega arith)))
    (λ _. length-mbr (fresh 0xFFFFFFFF) (fit-fresh 0xFFFFFFFF (omega arith)))

-- an image of 512 bytes or more takes the MBR
pub mbr-stored : (k : ℕ) (xs i : List ℕ) {m : ℕ} {a : Answer ℕ} → 512 ≤ length xs → m ≡ pick (ltb k 0xFFFFFFFF) k 0xFFFFFFFF
    → Ends (whole_stored xs (fresh m)) a i → i ≡ sets xs 0 (mbr k)
unfolding mbr
mbr-stored k xs i h e s =
    s.image ∙ rw e (ap (λ o. o.image) (store-all xs 0 (mbr k) 512 (length-mbr-of k) h))

-- a laid table's bytes are as long as a table
pub length-laid : (B n : ℕ) (s : Side) (g : Guid) → 92 ≤ B → length (copy_bytes s (copy_of B n s (guid_bytes g) (zeros 16384))) ≡ B + 16384
length-laid B n Front g h =
    let w = card-whole B n (guid_bytes g) (zeros 16384) h (length-zeros 16384) in
    simp length-append (omega (arith, w.front-header, w.front-array))
length-laid B n Back g h =
    let w = card-whole B n (guid_bytes g) (zeros 16384) h (length-zeros 16384) in
    simp length-append (omega (arith, w.back-header, w.back-array))

-- the stores in the code's order: the MBR, the back table, the front one
pub lay-laid : (B n : ℕ) (xs m y i : List ℕ) (g : Guid) {at : ℕ} → (room_check B n).number ≡ 0 → m ≡ sets xs 0 (mbr (blocks B n - 1)) → at ≡ back_array B n
    → y ≡ sets m at (copy_bytes Back (copy_of B n Back (guid_bytes g) (zeros 16384))) → i ≡ sets y B (copy_bytes Front (copy_of B n Front (guid_bytes g) (zeros 16384)))
    → i ≡ with_tables_at B n (sets xs 0 (mbr (blocks B n - 1))) (card_of B n (guid_bytes g) (zeros 16384))
unfolding with_tables_at
lay-laid B n xs m y i g h em ea ey ei =
    let r : Room B n = room-ok B n h in
    let f : List ℕ = copy_bytes Front (copy_of B n Front (guid_bytes g) (zeros 16384)) in
    let k : List ℕ = copy_bytes Back (copy_of B n Back (guid_bytes g) (zeros 16384)) in
    let lf : length (copy_bytes Front (copy_of B n Front (guid_bytes g) (zeros 16384))) ≡ B + 16384 = length-laid B n Front g (omega (arith, r.least)) in
    ei ∙ rw (ey, ea, em) (sets-comm (sets xs 0 (mbr (blocks B n - 1))) (back_array B n) k B f (inr (omega (arith, r.low, lf))))
