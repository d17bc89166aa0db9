-- Assumes nothing.
use Rattle.std.proofs.Common.{ap}
use Rattle.slot_map.specs.Map.{made_means}
use Rattle.card_c.proofs.Laws.{map-no}
use Rattle.card_c.proofs.maps.CardMapMadeFromResultSlotMapReason.from.Goals as goal

pub returns-in-Err : goal.returns-in-Err
returns-in-Err c = map-no _ (ap made_means c.in-Err.is) c.from-k.ensures
