-- `of_fronius`: no call uses more than its piece.
use Rattle.std.proofs.Common.{◌-◌, ◌≤◌, ◌≡◌, length}
use Rattle.fronius.specs.Machine.{held_max}
use Rattle.pace_in_place.proofs.of_fronius.Given as goal

abbrev pub invariant-loop-at : goal.invariant-loop-at
invariant-loop-at l = (l.at ≤ l.end) × (l.end ≤ length l.input) × (length l.lent ≡ length l.initial.lent) × (length l.held ≡ held_max)

abbrev pub decreases-loop-at : goal.decreases-loop-at
decreases-loop-at l = length l.input - l.at
