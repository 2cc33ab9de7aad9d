-- `of`: each turn asks from a later place.
use Rattle.std.proofs.Common.{◌-◌, length}
use Rattle.pace_slices.proofs.of.Given as goal

abbrev pub decreases-loop-at : goal.decreases-loop-at
decreases-loop-at g l = length l.input - l.at
