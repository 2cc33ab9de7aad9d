-- `reader::fill`: each character taken in is one that the machine keeps, so the call goes on from there.
use Rattle.drives.specs.Inside.{Filled}
use Prim.Native.Nat.{◌+◌}
use Rattle.drives.proofs.reader.fill.Given as goal

abbrev pub invariant-loop-n : goal.invariant-loop-n
invariant-loop-n l = Filled l.count l.initial.held l.piece l.from (l.from + l.n) l.held
