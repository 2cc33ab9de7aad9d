use Rattle.comlynx.specs.Inside.{Passed}
use Rattle.comlynx.proofs.search.either_from.Given as goal

abbrev pub invariant-loop-i : goal.invariant-loop-i
invariant-loop-i g l = Passed g.row.A g.row.B l.s l.from l.i
