use Rattle.stream.specs.Pieces.{scan, scan_from}
use Rattle.comlynx.specs.Machine.{next}
use Rattle.comlynx.specs.Inside.{with_held}
use Rattle.comlynx.proofs.StageRanges.{Range}
use Prim.Native.Nat.{◌-◌, ◌≤◌}
use mathlib.Core.Path.{◌≡◌}
use lib.ListN.{length}
use Rattle.comlynx.proofs.reader.run_in.Given as goal

abbrev pub invariant-loop-i : goal.invariant-loop-i
invariant-loop-i l =
    (l.i ≤ length l.piece) × Range l.state.stage l.state.came l.state.count
    × (scan_from next (with_held l.state l.held) l.piece l.i ≡ scan next (with_held l.initial.state l.initial.held) l.piece)

abbrev pub decreases-loop-i : goal.decreases-loop-i
decreases-loop-i l = length l.piece - l.i
