-- `find` meets its promise: 18, then 17, then by the search.
use native.Mathlib.Omega.{arith}
use Rattle.roster.specs.Roster.{used_by}
use Rattle.roster.proofs.SoundTest.{fine_size}
use Rattle.roster.proofs.SearchSteps.{found_within}
use Rattle.roster.proofs.CallEnds.{find_mapped}
use Rattle.roster.proofs.find.Goals as goal

pub user-requires : goal.user-requires
user-requires c = (fine_size _ c.in_ok-usable.ensures.0, omega arith, c.in_ok-usable.ensures.1)

pub map-requires : goal.map-requires
map-requires c = λ k e. found_within (used_by c.args.serial.now) c.args.roster.now 0 k (fine_size _ c.in_ok-usable.ensures.0) (rw e at c.user.ensures)

pub returns : goal.returns
returns c = find_mapped c.args.roster.now c.args.serial.now c.in_ok-usable.ensures.0 c.in_ok-usable.ensures.1 c.user.result c.map.result c.user.ensures c.map.ensures.cases
