use Prim.Native.Nat.{◌-◌}
use lib.ListN.{length}
use Rattle.comlynx.specs.Inside.{Passed}
use Rattle.comlynx.proofs.search.past_runs.Given as goal

abbrev pub invariant-loop-i : goal.invariant-loop-i
invariant-loop-i g l = Passed g.row.A g.row.B l.s l.from l.i

abbrev pub decreases-loop-i : goal.decreases-loop-i
decreases-loop-i g l = length l.s - l.i
