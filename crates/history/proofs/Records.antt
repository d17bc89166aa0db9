-- The laws of a record as put stores it: its type, its blocks, and that what reads back is the record with its name cleared. No contract cites this file.
-- Assumes nothing.
use mathlib.Core.Path.{◌≡◌, refl, ap, ◌∙◌}
use mathlib.Core.List.{List, [], ◌∷◌, ◌++◌}
use Prim.Native.Nat.{ℕ, zero, suc, ◌+◌, ◌-◌, ◌^◌, ◌≤◌, ◌<◌}
use native.Mathlib.Omega.{arith}
use lib.ListN.{length, take, drop, get_or, replicate, get_or-append}
use lib.Seq.{take_at, length-take-le, get_or-take, get_or-append-add}
use Rattle.units.specs.Bytes.{bytes}
use Rattle.units.specs.Guids.{guid_bytes}
use Rattle.units.specs.Held.{Small, GuidHeld}
use Rattle.units.proofs.Lists.{drop-next}
use Rattle.units.proofs.Laws.{length-bytes, field-here, Low, low-append, low-bytes}
use Rattle.units.proofs.GuidLaws.{length-guid, low-guid}
use Rattle.partition.specs.declared.Flags.{Flags}
use Rattle.partition.specs.declared.Partition.{Partition}
use Rattle.partition.specs.Flags.{flags_of, joined}
use Rattle.partition.specs.Format.{unit_bytes, first_zero, cleared, entry_bytes, named, tidied, zero_partition}
use Rattle.partition.specs.Held.{PartitionHeld}
use Rattle.partition.proofs.FlagLaws.{none-reserved}
use Rattle.partition.proofs.Laws.{first-le, length-cleared, cleared-twice, length-entry}
use Rattle.tables.specs.Entries.{zeros, first_of, last_of, part_guid_of}
use Rattle.tables.proofs.Orders.{split}

-- ---- the fields of a record's bytes

-- 20 and 21 are about its blocks, 25 about its GUID
module _ (p : Partition) where
  at-16 : drop 16 (entry_bytes p) ≡ guid_bytes p.part_guid ++ (bytes 8 p.first_lba.0 ++ (bytes 8 p.last_lba.0 ++ (bytes 8 (joined p.flags) ++ unit_bytes p.name)))
  at-16 = drop-next (entry_bytes p) 0 (guid_bytes p.part_type_guid) _ 16 refl (omega (arith, length-guid p.part_type_guid))

  at-32 : drop 32 (entry_bytes p) ≡ bytes 8 p.first_lba.0 ++ (bytes 8 p.last_lba.0 ++ (bytes 8 (joined p.flags) ++ unit_bytes p.name))
  at-32 = drop-next (entry_bytes p) 16 (guid_bytes p.part_guid) _ 32 at-16 (ap (λ (k : ℕ). 16 + k) (length-guid p.part_guid))

  pub record-guid : part_guid_of (entry_bytes p) ≡ guid_bytes p.part_guid
  unfolding part_guid_of
  record-guid = ap (take 16) at-16 ∙ take_at (guid_bytes p.part_guid) _ 16 (length-guid p.part_guid)

  pub record-first : p.first_lba.0 < 2 ^ 64 → first_of (entry_bytes p) ≡ p.first_lba.0
  unfolding first_of
  record-first h = field-here (entry_bytes p) 32 8 p.first_lba.0 _ at-32 h

  pub record-last : p.last_lba.0 < 2 ^ 64 → last_of (entry_bytes p) ≡ p.last_lba.0
  unfolding last_of
  record-last h =
      field-here (entry_bytes p) 40 8 p.last_lba.0 _
      (drop-next (entry_bytes p) 32 (bytes 8 p.first_lba.0) _ 40 at-32 (ap (λ (k : ℕ). 32 + k) (length-bytes 8 p.first_lba.0))) h

-- ---- a name that was cleared

-- every element of a list of zeros is below a number that is not zero
zero-below : (m : ℕ) → 0 < m → (n i : ℕ) → get_or (replicate n 0) i 0 < m
zero-below m z zero i = z
zero-below m z (suc n) zero = z
zero-below m z (suc n) (suc i) = zero-below m z n i

cleared-units : (us : List ℕ) (m : ℕ) → 0 < m → ((i : ℕ) → get_or us i 0 < m) → (i : ℕ) → get_or (cleared us) i 0 < m
unfolding cleared
cleared-units us m z h i =
    let f : first_zero us ≤ length us = first-le us in
    let l : length (take (first_zero us) us) ≡ first_zero us = length-take-le (first_zero us) us f in
    split (first_zero us) i
    (λ q.
    let e : i ≡ length (take (first_zero us) us) + (i - first_zero us) = omega arith in
    rw e (rw (get_or-append-add (take (first_zero us) us) (replicate (length us - first_zero us) 0) (i - first_zero us) 0) (zero-below m z (length us - first_zero us) (i - first_zero us))))
    (λ q. rw (get_or-append (take (first_zero us) us) (replicate (length us - first_zero us) 0) 0 i (omega arith), get_or-take (first_zero us) us i 0 q) (h i))

pub held-named : (p : Partition) → PartitionHeld p → PartitionHeld (named p)
held-named p h =
    let f = h.fields in
    record {
      fields = record {
        type = f.type;
        guid = f.guid;
        first = f.first;
        last = f.last;
        flags = f.flags;
        long = length-cleared p.name ∙ f.long;
        units = cleared-units p.name (2 ^ 16) (omega arith) f.units;
      };
      type = h.type;
      guid = h.guid;
    }

pub named-twice : (p : Partition) → named (named p) ≡ named p
named-twice p =
    ap
    (λ (us : List ℕ). record { part_type_guid = p.part_type_guid; part_guid = p.part_guid; first_lba = p.first_lba; last_lba = p.last_lba; flags = p.flags; name = us })
    (cleared-twice p.name)

-- ---- what put stores

pub length-put : (p : Partition) → PartitionHeld p → length (entry_bytes (tidied p)) ≡ 128
length-put p h = length-entry (tidied p) (length-cleared p.name ∙ h.fields.long)

-- a record with no reserved flag is stored as it is, but for its name
pub tidied-is : (p : Partition) → p.flags.reserved ≡ 0 → tidied p ≡ named p
tidied-is p e =
    ap
    (λ (f : Flags). record { part_type_guid = p.part_type_guid; part_guid = p.part_guid; first_lba = p.first_lba; last_lba = p.last_lba; flags = f; name = cleared p.name })
    (none-reserved p.flags e)

-- ---- the record of an unused slot

pub held-zero : PartitionHeld zero_partition
unfolding flags_of
held-zero =
    let t : GuidHeld zero_partition.part_type_guid =
    record { fields = record { low = omega arith; mid = omega arith; high = omega arith }; tail = zero-below 256 (omega arith) 8 } in
    record {
      fields = record {
        type = t.fields;
        guid = t.fields;
        first = omega arith;
        last = omega arith;
        flags = record { reserved = omega arith; owner = omega arith };
        long = refl;
        units = zero-below (2 ^ 16) (omega arith) 36;
      };
      type = t;
      guid = t;
    }

pub named-zero : named zero_partition ≡ zero_partition
unfolding cleared first_zero
named-zero = refl

pub zero-bytes-of : entry_bytes zero_partition ≡ zeros 128
unfolding zeros bytes unit_bytes flags_of joined
zero-bytes-of = refl

-- ---- every byte of a record is a byte

low-units : (us : List ℕ) → Low (unit_bytes us)
unfolding unit_bytes
low-units [] = record { each = λ k. omega arith }
low-units (u ∷ us) = low-append (low-bytes 2 u) (low-units us)

pub small-record : (p : Partition) → PartitionHeld p → Small (entry_bytes p)
small-record p h =
    let low : Low (entry_bytes p) =
    low-append (low-guid p.part_type_guid h.type)
    (low-append (low-guid p.part_guid h.guid)
    (low-append (low-bytes 8 _)
    (low-append (low-bytes 8 _)
    (low-append (low-bytes 8 _) (low-units p.name))))) in
    low.each
