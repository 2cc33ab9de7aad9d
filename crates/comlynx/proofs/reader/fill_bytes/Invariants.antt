-- `fill_bytes`: what it has passed is taken in.
use Rattle.comlynx.specs.Inside.{Filled}
use Rattle.comlynx.proofs.reader.fill_bytes.Given as goal

abbrev pub invariant-loop-i : goal.invariant-loop-i
invariant-loop-i l = Filled l.count l.initial.held l.piece l.from l.i l.held
