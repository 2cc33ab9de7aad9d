-- `drain`: the loop keeps what `Kept` says.
use Prim.Native.Nat.{◌-◌}
use mathlib.Core.Path.{◌≡◌}
use lib.ListN.{length}
use Rattle.stream.specs.Call.{lent_least}
use Rattle.listing.proofs.DrainReadsPiece.{Kept}
use Rattle.listing.proofs.drain.drain.Given as goal

abbrev pub invariant-loop-at : goal.invariant-loop-at
invariant-loop-at g l =
    Kept g.F.Family.seat l.port (g.F.Family.state l.initial.reader) l.piece l.initial.out (g.F.Family.state l.reader) l.at l.wrote l.messages l.damages l.out
    × (length l.lent ≡ lent_least)

abbrev pub decreases-loop-at : goal.decreases-loop-at
decreases-loop-at g l = length l.piece - l.at
