-- `start`: there is room for the header.
use Rattle.std.proofs.Common.{arith}
use Rattle.sbrlist.proofs.ProgramEnds.{started}
use Rattle.sbrlist.proofs.start.Goals as goal

pub returns : goal.returns
returns c = started _ _ c.title.result _ c.title.ensures (omega arith) c.unwrap_or.ensures
