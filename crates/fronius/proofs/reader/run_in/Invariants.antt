-- `reader::run_in`: after i bytes the call that `enter` left is the one that goes on in the state that the locals are, and that state is in range.
use Rattle.stream.specs.Pieces.{scan_from}
use Rattle.fronius.specs.Machine.{next}
use Rattle.fronius.specs.Inside.{with_held}
use Rattle.fronius.proofs.StageRanges.{Range}
use Prim.Native.Nat.{◌-◌, ◌≤◌}
use mathlib.Core.Path.{◌≡◌}
use lib.ListN.{length}
use Rattle.fronius.proofs.reader.run_in.Given as goal

abbrev pub invariant-loop-i : goal.invariant-loop-i
invariant-loop-i l =
    (l.i ≤ length l.piece) × Range l.state.stage l.state.count l.state.len
    × (scan_from next (with_held l.state l.held) l.piece l.i ≡ scan_from next (with_held l.initial.state l.initial.held) l.piece l.initial.i)

abbrev pub decreases-loop-i : goal.decreases-loop-i
decreases-loop-i l = length l.piece - l.i
