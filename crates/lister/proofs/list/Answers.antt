use Rattle.std.proofs.Common.{sym}
use Rattle.listing.proofs.Ways.{check-room}
use Rattle.lister.proofs.list.Goals as goal

pub print_slots-lines-requires : goal.print_slots-lines-requires
print_slots-lines-requires g c = check-room 512 c.args.img.now (sym c.in-Ok.ensures)
