use Rattle.std.proofs.Common.{rules}
use Rattle.std.proofs.Output.{has_written_append}
use Rattle.lent_demo.specs.Texts.{usable_text, array_text}
use Rattle.lent_demo.proofs.builders.BuiltDisplay.fmt.Goals as goal

pub returns-clause-writes : goal.returns-clause-writes
returns-clause-writes g c = λ plain ok.
    let h = c.args.self.now.0 in
    let first = c.write.ensures.writes plain (search rules) in
    has_written_append _ _ (usable_text h) _ (array_text h) _ first (c.write-2.ensures.writes first.plain ok)
