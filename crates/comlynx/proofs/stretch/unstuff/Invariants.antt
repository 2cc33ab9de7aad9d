-- a front is taken in, and behind it stands an escape
use lib.ListN.{length, get_or}
use mathlib.Core.Path.{◌≡◌}
use Rattle.comlynx.specs.Wire.{escape}
use Rattle.comlynx.proofs.StretchUnstuffed.{SoFar}
use Prim.Native.Nat.{◌-◌, ◌<◌}
use Rattle.comlynx.proofs.stretch.unstuff.Given as goal

abbrev pub invariant-loop-i : goal.invariant-loop-i
invariant-loop-i l = SoFar l.stretch l.count l.held l.i × (l.i < length l.stretch → get_or l.stretch l.i 0 ≡ escape)

abbrev pub decreases-loop-i : goal.decreases-loop-i
decreases-loop-i l = length l.stretch - l.i
