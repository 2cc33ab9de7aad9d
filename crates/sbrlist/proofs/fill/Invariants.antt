-- `fill`: its calls of `step` go on from each other; packets are counted, so that it ends.
use Rattle.std.proofs.Common.{◌+◌, ◌-◌, ◌≤◌, length}
use Rattle.listing.specs.Steps.{packets_max, room_least}
use Rattle.sbrlist.specs.Run.{Counts}
use Rattle.sbrlist.proofs.CallsGoOn.{Going}
use Rattle.sbrlist.proofs.fill.Given as goal

abbrev pub invariant-loop : goal.invariant-loop
invariant-loop l =
    (l.used ≤ length l.input) × (l.at + room_least ≤ length l.out) × Counts l.fn.s.listing.packets l.s.listing.packets l.used
    × Going l.fn.s.listing l.input l.ended l.initial.out l.s.listing l.used l.at l.out

abbrev pub decreases-loop : goal.decreases-loop
decreases-loop l = packets_max - l.s.listing.packets
