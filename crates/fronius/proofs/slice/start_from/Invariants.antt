-- `slice::start_from`: what was passed holds no start, so the search goes on as if it began there.
use Rattle.fronius.proofs.FoundFromPlace.{Searched}
use Prim.Native.Nat.{◌≤◌}
use lib.ListN.{length}
use Rattle.fronius.proofs.slice.start_from.Given as goal

abbrev pub invariant-loop-i : goal.invariant-loop-i
invariant-loop-i l = (l.i ≤ length l.slice) × Searched l.slice l.from l.i
