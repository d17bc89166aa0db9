-- `windows_reader::good_part` meets its contract. Assumes nothing.
use mathlib.Core.Path.{◌≡◌, sym, ap, ◌∙◌}
use mathlib.Core.Bool.{Bool}
use mathlib.Core.List.{List}
use Prim.Native.Nat.{ℕ, ◌+◌, ◌*◌}
use Rattle.tables.specs.Lens.{side_of}
use Rattle.reader.specs.Reader.{takes_back}
use Rattle.windows.specs.Windows.{window_tables}
use Rattle.windows.proofs.Ways.{if-zero, if-not}
use Rattle.windows_reader.specs.Parts.{array_from, good_from, reader_why}
use Rattle.units.proofs.Lists.{lent-part}
use Rattle.windows_reader.proofs.Ways.{fits, no_part, good-part}
use Rattle.windows_reader.proofs.good_part.Goals as goal

module _ (B N : ℕ) (head tail : List ℕ) (h t : ℕ × ℕ) {f : ℕ} (e : f ≡ (reader_why B N head tail).number) where
  no-from : (f ≡ 0 → ⊥) → (h.0, 0 + h.1) ≡ good_from B N head tail h t
  unfolding good_from
  no-from d = sym (if-not (reader_why B N head tail).number _ _ (λ z. d (e ∙ z)))

  good-from : f ≡ 0 → {back : Bool} → back ≡ takes_back B (N * B) (window_tables B head tail) → array_from B (side_of back) h t ≡ good_from B N head tail h t
  unfolding good_from
  good-from z k = ap (λ (b : Bool). array_from B (side_of b) h t) k ∙ sym (if-zero (reader_why B N head tail).number _ _ (sym e ∙ z))

pub returns-then-found-ne0 : goal.returns-then-found-ne0
returns-then-found-ne0 c = let a = c.args in record { result_value = lent-part a.head.now 0 0 ∙ no_part a.b a.blocks a.head.now a.tail.now c.choose_in-found.ensures.0 c.if-found-ne0.true; ref_ptr_value = no-from a.b a.blocks a.head.now a.tail.now a.head.ref_ptr a.tail.ref_ptr c.choose_in-found.ensures.0 c.if-found-ne0.true }

pub array_of-requires : goal.array_of-requires
array_of-requires c = let a = c.args in let q = fits a.b a.blocks a.head.now a.tail.now c.choose_in-found.ensures.0 c.if-found-ne0.false in (q.room.most, q.head-long, q.tail-long)

pub returns : goal.returns
returns c =
    let a = c.args in
    let k = c.choose_in-found.ensures in
    let z = c.if-found-ne0.false in
    record { result_value = c.array_of.ensures.result_value ∙ good-part a.b a.blocks a.head.now a.tail.now k.0 z (k.1 z); ref_ptr_value = c.array_of.ensures.ref_ptr_value ∙ good-from a.b a.blocks a.head.now a.tail.now a.head.ref_ptr a.tail.ref_ptr k.0 z (k.1 z) }
