-- `gather` meets its promise: so many places were written, each as it is lent.
use Rattle.std.proofs.Common.{◌≡◌, ◌<◌, ℕ, length, get_or}
use Rattle.roster.specs.Roster.{free_place}
use Rattle.roster.specs.Bytes.{roster_size, places_of}
use Rattle.roster_places.proofs.gather.Given as goal

abbrev pub invariant-loop-k : goal.invariant-loop-k
invariant-loop-k l =
    (length l.all ≡ roster_size) × ((j : ℕ) → j < l.k → get_or (places_of l.all) j free_place ≡ get_or l.ps j free_place)
