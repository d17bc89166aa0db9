-- `reader::good_copy` meets its contract. Assumes nothing.
use mathlib.Core.Path.{sym, ap, ◌∙◌}
use Rattle.tables.specs.Lens.{side_of}
use Rattle.reader.proofs.Ways.{refuses, accepts}
use Rattle.reader.proofs.good_copy.Goals as goal

pub returns-then-found-ne0 : goal.returns-then-found-ne0
returns-then-found-ne0 c =
    let a = c.args in
    refuses a.b a.img.now c.choose-found.ensures.0 _ c.if-found-ne0.true c.refusal.ensures

pub returns-then-found : goal.returns-then-found
returns-then-found c =
    let a = c.args in
    accepts a.b a.img.now c.choose-found.ensures.0 c.if-found-ne0.false (ap side_of (sym c.if-found.true ∙ c.choose-found.ensures.1 c.if-found-ne0.false))

pub returns : goal.returns
returns c =
    let a = c.args in
    accepts a.b a.img.now c.choose-found.ensures.0 c.if-found-ne0.false (ap side_of (sym c.if-found.false ∙ c.choose-found.ensures.1 c.if-found-ne0.false))
