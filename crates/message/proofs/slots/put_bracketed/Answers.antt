use Rattle.std.proofs.Common.{arith, refl}
use Rattle.text.specs.Texts.{ascii}
use Rattle.units.proofs.Lists.{lent_back}
use Rattle.message.proofs.Laws.{bracket-stored, length-bracketed}
use Rattle.message.proofs.slots.put_bracketed.Goals as goal

pub returns : goal.returns
returns c =
    let a = c.args in
    let k = c.put_decimal-end.ensures in (
      omega (arith, length-bracketed a.slot),
      omega arith,
      bracket-stored a.out.now a.at a.slot (omega arith) (rw c.copy_from_slice.ensures.after (lent_back a.out.now (ascii " (slot ") a.at 7 (omega arith) refl)) k.2,
    )
