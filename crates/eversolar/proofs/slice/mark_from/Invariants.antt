use Rattle.eversolar.specs.Rules.{sought}
use Prim.Native.Nat.{◌-◌, ◌≤◌}
use mathlib.Core.Path.{◌≡◌}
use lib.ListN.{length, drop}
use Rattle.eversolar.proofs.slice.mark_from.Given as goal

abbrev pub invariant-loop-i : goal.invariant-loop-i
invariant-loop-i l = (l.from ≤ l.i) × (l.i ≤ length l.slice) × (sought 0 (drop l.from l.slice) ≡ sought (l.i - l.from) (drop l.i l.slice))

abbrev pub decreases-loop-i : goal.decreases-loop-i
decreases-loop-i l = length l.slice - l.i
