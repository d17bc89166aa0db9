-- What C gets of the text calls: the number first, 0 for accepted, then the text's length, which is 0 beside a refusal. Assumes nothing.
use Rattle.std.specs.Prelude.{ℕ}
use Rattle.units.specs.Answer.{Answer}
use Rattle.answers_c.specs.Crossing.{crossed}
use Rattle.text_c.specs.declared.CardVersion.{CardVersion}
use Rattle.text_c.specs.declared.CardText.{CardText}

abbrev pub version : CardVersion
version = record { major = 0; minor = 1; patch = 0 }

abbrev pub text_to_c : Answer ℕ → CardText
text_to_c a = crossed (λ k n. record { number = k; length = n }) 0 a
