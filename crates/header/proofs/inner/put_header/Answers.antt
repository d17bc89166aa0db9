-- `header::inner::put_header` meets its contract: fifteen stores, each where the one before it ends, are one. from80 is what is stored from place 80 on.
-- Assumes nothing.
use mathlib.Core.List.{◌++◌}
use Prim.Native.Nat.{◌+◌}
use native.Mathlib.Omega.{arith}
use Rattle.units.specs.Bytes.{bytes}
use Rattle.units.specs.Guids.{guid_bytes}
use Rattle.units.proofs.Lists.{and_then}
use Rattle.units.proofs.Laws.{field_then}
use Rattle.units.proofs.GuidLaws.{length-guid}
use Rattle.header.specs.Format.{signature}
use Rattle.header.proofs.inner.put_header.Goals as goal

pub returns : goal.returns
returns c =
    let at = c.args.at in
    let h = c.args.h in
    let from88 = bytes 4 h.crc32_parts in
    let from84 = bytes 4 h.part_size ++ from88 in
    let from80 = bytes 4 h.num_parts ++ from84 in
    let from72 = bytes 8 h.part_start.0 ++ from80 in
    let from56 = guid_bytes h.disk_guid ++ from72 in
    let from48 = bytes 8 h.last_usable.0 ++ from56 in
    let from40 = bytes 8 h.first_usable.0 ++ from48 in
    let from32 = bytes 8 h.backup_lba.0 ++ from40 in
    let from24 = bytes 8 h.current_lba.0 ++ from32 in
    let from20 = bytes 4 h.reserved ++ from24 in
    let from16 = bytes 4 h.crc32 ++ from20 in
    let from12 = bytes 4 h.header_size_le ++ from16 in
    let from10 = bytes 2 h.revision.0 ++ from12 in
    let from8 = bytes 2 h.revision.1 ++ from10 in
    and_then _ at signature (at + 8) from8 (omega arith) c.put_bytes.ensures
    (field_then _ (at + 8) 2 h.revision.1 (at + 10) from10 (omega arith) c.put.ensures
    (field_then _ (at + 10) 2 h.revision.0 (at + 12) from12 (omega arith) c.put-2.ensures
    (field_then _ (at + 12) 4 h.header_size_le (at + 16) from16 (omega arith) c.put-3.ensures
    (field_then _ (at + 16) 4 h.crc32 (at + 20) from20 (omega arith) c.put-4.ensures
    (field_then _ (at + 20) 4 h.reserved (at + 24) from24 (omega arith) c.put-5.ensures
    (field_then _ (at + 24) 8 h.current_lba.0 (at + 32) from32 (omega arith) c.put-6.ensures
    (field_then _ (at + 32) 8 h.backup_lba.0 (at + 40) from40 (omega arith) c.put-7.ensures
    (field_then _ (at + 40) 8 h.first_usable.0 (at + 48) from48 (omega arith) c.put-8.ensures
    (field_then _ (at + 48) 8 h.last_usable.0 (at + 56) from56 (omega arith) c.put-9.ensures
    (and_then _ (at + 56) (guid_bytes h.disk_guid) (at + 72) from72 (omega (arith, length-guid h.disk_guid)) c.put_guid.ensures
    (field_then _ (at + 72) 8 h.part_start.0 (at + 80) from80 (omega arith) c.put-10.ensures
    (field_then _ (at + 80) 4 h.num_parts (at + 84) from84 (omega arith) c.put-11.ensures
    (field_then _ (at + 84) 4 h.part_size (at + 88) from88 (omega arith) c.put-12.ensures
    c.put-13.ensures)))))))))))))
