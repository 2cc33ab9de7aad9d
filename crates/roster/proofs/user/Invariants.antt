-- `user` meets its promise: so far no place was used by the serial, and the search goes on from here.
use Rattle.roster.specs.Roster.{used_by}
use Rattle.roster.proofs.SearchSteps.{Passed}
use Rattle.roster.proofs.user.Given as goal

abbrev pub invariant-loop-k : goal.invariant-loop-k
invariant-loop-k l = Passed (used_by l.serial) l.roster l.«from» l.k
