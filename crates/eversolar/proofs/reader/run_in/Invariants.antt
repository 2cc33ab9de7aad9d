use mathlib.Core.Path.{◌≡◌}
use lib.ListN.{length}
use Rattle.stream.specs.Pieces.{scan, scan_from}
use Rattle.eversolar.specs.Machine.{holding, next}
use Rattle.eversolar.proofs.StageRanges.{Range}
use Prim.Native.Nat.{◌-◌, ◌≤◌}
use Rattle.eversolar.proofs.reader.run_in.Given as goal

abbrev pub invariant-loop-i : goal.invariant-loop-i
invariant-loop-i l =
    (l.i ≤ length l.piece) × Range l.stage l.count l.len
    × (scan_from next (holding l.stage l.count l.len l.held) l.piece l.i ≡ scan next (holding l.fn.stage l.fn.count l.fn.len l.initial.held) l.piece)

abbrev pub decreases-loop-i : goal.decreases-loop-i
decreases-loop-i l = length l.piece - l.i
