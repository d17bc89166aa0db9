-- `slot_map::clear` meets its contract: what the card's clear answers, and the map that its caller then has. Assumes nothing.
use Rattle.std.proofs.Common.{refl, ap, ◌∙◌}
use Rattle.std.specs.Prelude.{false, ℕ, set, Result}
use native.Mathlib.Omega.{arith}
use Rattle.units.specs.declared.Reason.{Reason}
use Rattle.units.specs.Answer.{Answer}
use Rattle.units.specs.Meanings.{card_means}
use Rattle.units.proofs.Results.{err-is}
use Rattle.history.specs.History.{taken}
use Rattle.slot_map.specs.declared.SlotMap.{SlotMap}
use Rattle.slot_map.specs.Bits.{map_of}
use Rattle.slot_map.specs.Map.{marked, verdict, kept}
use Rattle.slot_map.proofs.Ways.{cleared-slot, ends_as}
use Rattle.slot_map.proofs.clear.Goals as goal

pub with_bit-requires : goal.with_bit-requires
with_bit-requires c =
    let a = c.args in
    omega (arith, c.array_place.ensures, cleared-slot a.b a.img.now a.slot.0 c.in_ok-clear.ensures refl)

pub returns-in_err-clear : goal.returns-in_err-clear
returns-in_err-clear c =
    let a = c.args in
    let e = err-is _ _ c.from_residual.ensures.1 in
    let o = c.in_err-clear.ensures in
    record {
      ends = ends_as o (ap (λ (r : Result SlotMap Reason). card_means (verdict r)) e);
      map_value = ap (λ (r : Result SlotMap Reason). map_of (kept a.map r)) e ∙ ap (λ (r : Answer Unit). marked (taken r) a.slot.0 false (map_of a.map)) o.answer;
    }

pub returns : goal.returns
returns c =
    let a = c.args in
    let o = c.in_ok-clear.ensures in
    record {
      ends = o;
      map_value = c.with_bit.ensures ∙ ap (λ (i : ℕ). set (map_of a.map) i false) c.array_place.ensures ∙ ap (λ (r : Answer Unit). marked (taken r) a.slot.0 false (map_of a.map)) o.answer;
    }
