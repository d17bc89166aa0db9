-- Values as the code can hold them: each number fits its field. Assumes nothing.
use Rattle.std.specs.Prelude.{List, ℕ, ◌^◌, ◌<◌, get_or}
use Rattle.units.specs.declared.Guid.{Guid}
use Rattle.units.specs.Guids.{tail_bytes}

-- every element is a byte
abbrev pub Small : List ℕ → Type 0
Small xs = (k : ℕ) → get_or xs k 0 < 256

-- the numbers of a GUID fit their fields
pub record FitGuid (g : Guid) : Type 0 where
  pub low : g.time_low < 2 ^ 32
  pub mid : g.time_mid < 2 ^ 16
  pub high : g.time_high < 2 ^ 16

-- and its last eight bytes are bytes
pub record GuidHeld (g : Guid) : Type 0 where
  pub fields : FitGuid g
  pub tail : Small (tail_bytes g.tail)
