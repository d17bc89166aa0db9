-- What the digits so far come to, with those that are left behind it, is what all come to.
use Rattle.std.proofs.Common.{◌≡◌, ◌+◌, ◌-◌, ◌<◌, ◌^◌}
use Rattle.units.specs.Bytes.{part}
use Rattle.guid_text.specs.Hex.{hex_after}
use Rattle.guid_text.proofs.inner.hex_at.Given as goal

abbrev pub invariant-loop-c : goal.invariant-loop-c
invariant-loop-c l = (hex_after l.v (part l.text (l.at + l.c-index) (l.n - l.c-index)) ≡ hex_after 0 (part l.text l.at l.n)) × (l.v < 16 ^ l.c-index)
