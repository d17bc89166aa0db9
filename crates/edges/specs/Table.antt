-- Document 01's "Cases at the edges", P1 to P14, as one table: what the definitions give beside what the document says. One test computes all of it; what its answer says is in
-- `proofs/Laws`. Assumes nothing.
use Rattle.std.specs.Prelude.{◌≡◌, refl, Bool, true, false, ◌&&◌, List, [], ◌∷◌, ◌++◌, ℕ, zero, suc, ◌-◌, ◌^◌, eqb, get_or, replicate}
use Rattle.units.specs.declared.Lba.{Lba}
use Rattle.units.specs.declared.Guid.{Guid}
use Rattle.units.specs.declared.Place.{Place}
use Rattle.units.specs.declared.Place.TheVariants as place
use Rattle.units.specs.Answer.{Answer, accepted, refused, number_of, refuse, and_then}
use Rattle.units.specs.Bytes.{le, num, bytes, same}
use Rattle.units.specs.Guids.{guid_at, nil_guid}
use Rattle.units.specs.Places.{good_size}
use Rattle.builder.specs.declared.HeaderBuilder.{HeaderBuilder}
use Rattle.header.specs.Reading.{backup_block}
use Rattle.builder.specs.Building.{new_builder, with_primary, with_backup_lba, with_last_usable, with_num_parts, with_part_size, built_with, built}
use Rattle.partition.specs.Lengths.{sectors_len}
use Rattle.mbr.specs.Format.{record_bytes, zero_record, fresh}

-- a case: what a definition gives, and what the document says
pub record Case : Type 0 where
  pub computed : Answer (List ℕ)
  pub expected : Answer (List ℕ)

abbrev says : Answer (List ℕ) → Answer (List ℕ) → Case
says x y = record { computed = x; expected = y }

-- two places are the same: no case of the document has one
unfoldable pub same_place : Place → Place → Bool
same_place place.Nowhere place.Nowhere = true
same_place place.Nowhere place.Front = false
same_place place.Nowhere place.Back = false
same_place place.Nowhere place.DiskGuid = false
same_place place.Nowhere (place.InSlot s) = false
same_place place.Front q = false
same_place place.Back q = false
same_place place.DiskGuid q = false
same_place (place.InSlot s) q = false

-- two answers are the same
unfoldable pub same_answer : Answer (List ℕ) → Answer (List ℕ) → Bool
same_answer (accepted xs) (accepted ys) = same xs ys
same_answer (accepted xs) (refused w) = false
same_answer (refused v) (accepted ys) = false
same_answer (refused v) (refused w) = eqb v.number w.number && (eqb v.slot.0 w.slot.0 && same_place v.place w.place)

-- every case of a table gives what the document says
unfoldable pub all_pass : List Case → Bool
all_pass [] = true
all_pass (c ∷ cs) = same_answer c.computed c.expected && all_pass cs

-- ---- the builder: the first and the last usable block, where the array starts, and the entry count

abbrev usable : ℕ → ℕ → ℕ → ℕ → Answer (List ℕ)
usable first last start count = accepted (first ∷ last ∷ start ∷ count ∷ [])

abbrev building : HeaderBuilder → ℕ → Answer (List ℕ)
building s b =
    and_then (built s b) (λ h. usable h.first_usable.0 h.last_usable.0 h.part_start.0 h.num_parts)

abbrev unset : HeaderBuilder
unset = new_builder nil_guid

-- a new builder with a backup block
abbrev with : ℕ → HeaderBuilder
with n = with_backup_lba unset (record { 0 = n })

abbrev backup : HeaderBuilder → HeaderBuilder
backup s = with_primary s false

-- P7's builder
abbrev far : HeaderBuilder
far = with_last_usable (with 67) (record { 0 = 100 })

-- the numbers that come back for 129 entries at 512 with each backup below n, the greatest first
unfoldable pub numbers : ℕ → List ℕ
numbers zero = []
numbers (suc n) = number_of (building (with_num_parts (with n) 129) 512) ∷ numbers n

-- ---- other values as lists

abbrev count : Answer ℕ → Answer (List ℕ)
count r = and_then r (λ n. accepted (n ∷ []))

abbrev block : Answer Lba → Answer (List ℕ)
block r = and_then r (λ l. accepted (l.0 ∷ []))

abbrev fields : Guid → List ℕ
fields g =
    g.time_low
    ∷ g.time_mid
    ∷ g.time_high
    ∷ g.tail.0
    ∷ g.tail.1
    ∷ g.tail.2
    ∷ g.tail.3
    ∷ g.tail.4
    ∷ g.tail.5
    ∷ g.tail.6
    ∷ g.tail.7
    ∷ []

-- ---- the table

unfoldable pub table : List Case
table =
    -- P1: B 512, backup 67: usable 34 to 34; backup array at 35. P2: backup 66
    says (building (with 67) 512) (usable 34 34 2 128)
    ∷ says (building (backup (with 67)) 512) (usable 34 34 35 128)
    ∷ says (building (with 66) 512) (refuse 10)
    -- P3: B 4,096, backup 11: usable 6 to 6. P4: backup 10
    ∷ says (building (with 11) 4096) (usable 6 6 2 128)
    ∷ says (building (backup (with 11)) 4096) (usable 6 6 7 128)
    ∷ says (building (with 10) 4096) (refuse 10)
    -- P5: backup never set. P6: B 512, backup 32
    ∷ says (building unset 512) (refuse 9)
    ∷ says (building unset 4096) (refuse 9)
    ∷ says (building (with 32) 512) (refuse 10)
    -- P7: B 512, backup 67, last usable set to 100
    ∷ says (building far 512) (usable 34 100 2 128)
    ∷ says (building (backup far) 512) (usable 34 100 101 128)
    -- P8: count set to 4. P9: count 129, B 512: smallest backup 69
    ∷ says (building (with_num_parts (with 67) 4) 512) (usable 34 34 2 128)
    ∷ says (building (with_num_parts (with 67) 4) 4096) (usable 6 62 2 128)
    ∷ says (accepted (numbers 69)) (accepted (replicate 68 10 ++ (9 ∷ [])))
    ∷ says (building (with_num_parts (with 69) 129) 512) (usable 35 35 2 129)
    -- P10: backup 67, 128 entries of 33,554,432 bytes, and of one byte less
    ∷ says (building (with_part_size (with 67) 33554432) 512) (refuse 3)
    ∷ says (building (with_part_size (with 67) 33554431) 512) (refuse 10)
    ∷ says (building (with_part_size (with 67) 33554432) 4096) (refuse 3)
    ∷ says (building (with_part_size (with 67) 33554431) 4096) (refuse 10)
    -- P11: blocks 34 to 34; 5 to 4; 0 to the largest
    ∷ says (count (sectors_len 34 34)) (accepted (1 ∷ []))
    ∷ says (count (sectors_len 5 4)) (refuse 20)
    ∷ says (count (sectors_len 0 (2 ^ 64 - 1))) (refuse 3)
    -- P12: L 1,535 and L 1,600 at 512
    ∷ says (block (backup_block 1535 512)) (refuse 8)
    ∷ says (block (backup_block 1600 512)) (accepted (2 ∷ []))
    -- P13: GUID bytes 00 to 0F
    ∷ says
    (accepted (fields (guid_at (0 ∷ 1 ∷ 2 ∷ 3 ∷ 4 ∷ 5 ∷ 6 ∷ 7 ∷ 8 ∷ 9 ∷ 10 ∷ 11 ∷ 12 ∷ 13 ∷ 14 ∷ 15 ∷ []) 0)))
    (accepted (0x03020100 ∷ 0x0504 ∷ 0x0706 ∷ 8 ∷ 9 ∷ 10 ∷ 11 ∷ 12 ∷ 13 ∷ 14 ∷ 15 ∷ []))
    -- P14: the default protective record, the first of a new MBR
    ∷ says
    (accepted (record_bytes (get_or (fresh 0xFFFFFFFF).partitions 0 zero_record)))
    (accepted (0x00 ∷ 0x00 ∷ 0x02 ∷ 0x00 ∷ 0xEE ∷ 0xFF ∷ 0xFF ∷ 0xFF ∷ 0x01 ∷ 0x00 ∷ 0x00 ∷ 0x00 ∷ 0xFF ∷ 0xFF ∷ 0xFF ∷ 0xFF ∷ []))
    ∷ []

-- all fourteen cases, by one computation
pub edges : all_pass table ≡ true
unfolding table numbers all_pass same_place same_answer same built built_with good_size sectors_len backup_block num le bytes
edges = refl
