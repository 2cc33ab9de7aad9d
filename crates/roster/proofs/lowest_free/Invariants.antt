-- `lowest_free` meets its promise: so far no place was free.
use Rattle.roster.specs.Roster.{free}
use Rattle.roster.proofs.SearchSteps.{Passed}
use Rattle.roster.proofs.lowest_free.Given as goal

abbrev pub invariant-loop-k : goal.invariant-loop-k
invariant-loop-k l = Passed free l.roster 0 l.k
