-- The answers of an update's stages as the C struct tells them: the verdict, and the state for the next stage beside it. Assumes nothing.
use Rattle.std.specs.Prelude.{replicate}
use Rattle.units.specs.Answer.{Answer, Beside, beside, Outcome, gives}
use Rattle.units.specs.Guids.{nil_guid}
use Rattle.staged.specs.declared.Update.{Update}

-- the state of zeros, which leads to no stage
abbrev pub zero_update : Update
zero_update = record { next = 0; slot = record { 0 = 0 }; b = 0; len = 0; entry = replicate 128 0; guid = nil_guid; parts = 0 }

-- an outcome as the struct tells it: beside a refusal stands that state
abbrev pub beside_zero : Outcome (Answer Update) → Outcome (Beside Update)
beside_zero o = gives (beside zero_update o.answer) o.image
