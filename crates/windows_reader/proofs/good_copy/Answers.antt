-- `windows_reader::good_copy` meets its contract. Assumes nothing.
use mathlib.Core.Path.{sym, ap, ◌∙◌}
use Rattle.tables.specs.Lens.{side_of}
use Rattle.reader.specs.Reader.{taken_side}
use Rattle.windows_reader.proofs.Ways.{refuses, accepts}
use Rattle.windows_reader.proofs.good_copy.Goals as goal

pub returns-then-found-ne0 : goal.returns-then-found-ne0
returns-then-found-ne0 c = let a = c.args in refuses a.b a.blocks a.head.now a.tail.now c.choose_in-found.ensures.0 (taken_side a.b) c.if-found-ne0.true c.refusal.ensures

pub returns-then-found : goal.returns-then-found
returns-then-found c =
    let a = c.args in
    let k = c.choose_in-found.ensures in
    let z = c.if-found-ne0.false in
    accepts a.b a.blocks a.head.now a.tail.now k.0 z (taken_side a.b) (ap side_of (sym c.if-found.true ∙ k.1 z))

pub returns : goal.returns
returns c =
    let a = c.args in
    let k = c.choose_in-found.ensures in
    let z = c.if-found-ne0.false in
    accepts a.b a.blocks a.head.now a.tail.now k.0 z (taken_side a.b) (ap side_of (sym c.if-found.false ∙ k.1 z))
