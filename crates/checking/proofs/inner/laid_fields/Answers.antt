-- `checking::inner::laid_fields` meets its contract. Assumes nothing.
use mathlib.Core.Path.{◌∙◌, ap}
use Rattle.tables.specs.Headers.{alike, laid_fields}
use Rattle.checking.proofs.inner.laid_fields.Goals as goal

pub returns : goal.returns
unfolding laid_fields
returns c = c.alike.ensures ∙ ap (alike _) c.card_header.ensures
