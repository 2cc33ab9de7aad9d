use mathlib.Core.List.{List}
use Rattle.stream.specs.Pieces.{scan_from}
use Rattle.eversolar.specs.Machine.{holding, next}
use Prim.Native.Nat.{ℕ, ◌-◌, ◌<◌, ◌≤◌}
use mathlib.Core.Path.{◌≡◌}
use lib.ListN.{length}
use Rattle.eversolar.proofs.reader.hunt.Given as goal

abbrev pub invariant-loop-i : goal.invariant-loop-i
invariant-loop-i l =
    (l.from ≤ l.i) × (l.i ≤ length l.piece) × (l.stage < 2)
    × ((count len : ℕ) (held : List ℕ) → scan_from next (holding l.fn.stage count len held) l.piece l.from ≡ scan_from next (holding l.stage count len held) l.piece l.i)

abbrev pub decreases-loop-i : goal.decreases-loop-i
decreases-loop-i l = length l.piece - l.i
