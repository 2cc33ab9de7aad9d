-- `list`: the run goes on by what `fill`, `flush` and `read_on` did, as far as it goes; `left` falls with each turn.
use Rattle.std.proofs.Common.{◌-◌, ◌≤◌, ◌≡◌, length}
use Rattle.sbrlist.specs.Run.{part, Ran}
use Rattle.sbrlist.proofs.ProgramEnds.{left}
use Rattle.sbrlist.proofs.list.Given as goal

abbrev pub invariant-loop-heard : goal.invariant-loop-heard
invariant-loop-heard g l =
    (l.from ≤ l.to) × (l.to ≤ length l.input) × (length l.input ≡ length l.initial.input) × Ran (part l.from l.to l.input) l.ended l.s.listing

abbrev pub decreases-loop-heard : goal.decreases-loop-heard
decreases-loop-heard g l = left l.s.listing.packets (l.to - l.from) l.ended
