-- Why a replay stops, as the program says it.
use Rattle.std.specs.Prelude.{ℕ, List, codes}
use Rattle.replay_calls.specs.Texts.{no_more_text, unknown_kind_text}
use Rattle.replay.specs.declared.stop.Stop.{Stop}
use Rattle.replay.specs.declared.stop.Stop.TheVariants as stop

abbrev pub stop_text : Stop → List ℕ
stop_text stop.NoMore = no_more_text
stop_text stop.UnknownKind = unknown_kind_text
stop_text stop.LongImage = codes "an image of more than 65536 bytes"
stop_text stop.OutsideImage = codes "a store outside the image"
stop_text stop.TooManySteps = codes "a tape of more than 1000000 steps"
