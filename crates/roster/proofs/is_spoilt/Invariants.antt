-- `is_spoilt` meets its promise: what is asked of all places is asked of those from here on.
use mathlib.Core.Path.{◌≡◌}
use lib.ListN.{drop}
use Rattle.roster.specs.Roster as Roster
use Rattle.roster.specs.Bytes.{places_of}
use Rattle.roster.proofs.is_spoilt.Given as goal

abbrev pub invariant-loop-k : goal.invariant-loop-k
invariant-loop-k l = Roster.sound (places_of l.roster) ≡ Roster.sound (drop l.k (places_of l.roster))
