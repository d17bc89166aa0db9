-- `card::changing::record_check` meets its contract: one law for each way out. Assumes nothing.
use mathlib.Core.Path.{ap}
use native.Mathlib.Omega.{arith}
use Rattle.units.specs.declared.Lba.{Lba}
use Rattle.tables.proofs.Good.{room-ok}
use Rattle.card.specs.Calls.{record_check}
use Rattle.card.proofs.ChangeWays.{record-18, record-19, record-20, record-21, record-fine}
use Rattle.card.proofs.changing.record_check.Goals as goal

pub returns-then-bad_slot : goal.returns-then-bad_slot
unfolding record_check
returns-then-bad_slot c = let a = c.args in record-18 a.b a.len a.slot.0 a.e.now c.bad_slot.ensures c.if-bad_slot.true

pub returns-then-nil_type_at : goal.returns-then-nil_type_at
unfolding record_check
returns-then-nil_type_at c = let a = c.args in record-19 a.b a.len a.slot.0 a.e.now c.bad_slot.ensures c.if-bad_slot.false c.nil_type_at.ensures c.if-nil_type_at.true

pub returns-then-last-first : goal.returns-then-last-first
unfolding record_check
returns-then-last-first c =
    let a = c.args in
    record-20 a.b a.len a.slot.0 a.e.now c.bad_slot.ensures c.if-bad_slot.false c.nil_type_at.ensures c.if-nil_type_at.false
    c.first_at-first.ensures c.last_at-last.ensures c.if-last-first.true

pub first_usable-low-requires : goal.first_usable-low-requires
first_usable-low-requires c = let r = room-ok _ _ c.requires.0 in omega (arith, r.least)

pub returns-then-first-low : goal.returns-then-first-low
unfolding record_check
returns-then-first-low c =
    let a = c.args in
    record-21 a.b a.len a.slot.0 a.e.now c.bad_slot.ensures c.if-bad_slot.false c.nil_type_at.ensures c.if-nil_type_at.false
    c.first_at-first.ensures c.last_at-last.ensures c.if-last-first.false (ap (λ (l : Lba). l.0) c.first_usable-low.ensures) (ap (λ (l : Lba). l.0) c.last_usable-high.ensures) c.if-first-low.true

pub returns : goal.returns
unfolding record_check
returns c =
    let a = c.args in
    record-fine a.b a.len a.slot.0 a.e.now c.bad_slot.ensures c.if-bad_slot.false c.nil_type_at.ensures c.if-nil_type_at.false
    c.first_at-first.ensures c.last_at-last.ensures c.if-last-first.false (ap (λ (l : Lba). l.0) c.first_usable-low.ensures) (ap (λ (l : Lba). l.0) c.last_usable-high.ensures) c.if-first-low.false
