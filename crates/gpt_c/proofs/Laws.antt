-- A record from bytes: how an answer crosses is in answers_c/proofs/Laws. No contract cites this file. Assumes nothing.
use mathlib.Core.Path.{◌≡◌}
use mathlib.Core.List.{List}
use Prim.Native.Nat.{ℕ, ◌≤◌, ◌<◌}
use borrow.Author.Tests.{lt-ltb, le-ltb}
use lib.ListN.{length}
use Rattle.units.specs.Answer.{accepted, refuse}
use Rattle.partition.specs.Format.{entry_at}
use Rattle.gpt_c.specs.Exports.{entry_parsed}

pub entry-short : (xs : List ℕ) → length xs < 128 → entry_parsed xs ≡ refuse 2
unfolding entry_parsed
entry-short xs h = rw (lt-ltb (length xs) 128 h)

pub entry_whole : (xs : List ℕ) → 128 ≤ length xs → entry_parsed xs ≡ accepted (entry_at xs 0)
unfolding entry_parsed
entry_whole xs h = rw (le-ltb (length xs) 128 h)
