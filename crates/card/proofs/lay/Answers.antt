-- `card::lay` meets its contract: refused as it was, else laid. Assumes nothing.
use mathlib.Core.Path.{◌≡◌, sym, ap, ◌∙◌}
use lib.ListN.{length}
use Rattle.units.specs.Answer.{plain}
use Rattle.tables.specs.Check.{room_check}
use Rattle.tables.proofs.Dropped.{bare-room}
use Rattle.checking.proofs.CheckWays.{named-room}
use Rattle.card.specs.Calls.{lay_at}
use Rattle.card.proofs.ChangeWays.{refuses, accepts}
use Rattle.card.proofs.lay.Goals as goal

pub returns-then-found-ne0 : goal.returns-then-found-ne0
unfolding lay_at
returns-then-found-ne0 c =
    let is-room : let a = c.args in plain c.room_check-found.result ≡ room_check a.b (length a.img.now) = let a = c.args in ap plain c.room_check-found.ensures ∙ sym (bare-room a.b (length a.img.now)).bare in
    let a = c.args in rw c.verdict.ensures (refuses (room_check a.b (length a.img.now)) (named-room a.b (length a.img.now)) is-room a.img.now _ c.if-found-ne0.true)

pub lay_card-requires : goal.lay_card-requires
lay_card-requires c = sym c.room_check-found.ensures ∙ c.if-found-ne0.false

pub returns : goal.returns
unfolding lay_at
returns c =
    let is-room : let a = c.args in plain c.room_check-found.result ≡ room_check a.b (length a.img.now) = let a = c.args in ap plain c.room_check-found.ensures ∙ sym (bare-room a.b (length a.img.now)).bare in
    let a = c.args in accepts (room_check a.b (length a.img.now)) (named-room a.b (length a.img.now)) is-room a.img.now _ c.if-found-ne0.false c.lay_card.ensures
