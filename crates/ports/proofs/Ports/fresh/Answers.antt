-- `Ports::fresh`: each of the four is its family's.
use Rattle.ports.proofs.EveryRow.{each_seat}
use Rattle.ports.proofs.Ports.fresh.Goals as goal

pub returns : goal.returns
returns c = each_seat _ c.fresh-first.ensures c.fresh-second.ensures c.fresh-third.ensures c.fresh-fourth.ensures
