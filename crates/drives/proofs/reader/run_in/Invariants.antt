-- `reader::run_in`: after i bytes the call is the one that goes on in the state that the locals are, and that state is in range.
use Rattle.stream.specs.Pieces.{scan, scan_from}
use Rattle.drives.specs.Machine.{holding, next}
use Rattle.drives.proofs.StageRanges.{Range}
use Prim.Native.Nat.{◌-◌, ◌≤◌}
use mathlib.Core.Path.{◌≡◌}
use lib.ListN.{length}
use Rattle.drives.proofs.reader.run_in.Given as goal

abbrev pub invariant-loop-i : goal.invariant-loop-i
invariant-loop-i l =
    (l.i ≤ length l.piece) × Range l.stage l.count
    × (scan_from next (holding l.stage l.count l.held) l.piece l.i ≡ scan next (holding l.fn.stage l.fn.count l.initial.held) l.piece)

abbrev pub decreases-loop-i : goal.decreases-loop-i
decreases-loop-i l = length l.piece - l.i
