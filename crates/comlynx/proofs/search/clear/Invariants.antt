use mathlib.Core.Path.{◌≡◌}
use mathlib.Core.Bool.{true}
use Rattle.comlynx.specs.Inside.{Clear}
use Rattle.comlynx.proofs.search.clear.Given as goal

abbrev pub invariant-loop-x : goal.invariant-loop-x
invariant-loop-x g l = l.good ≡ true → Clear g.row.A g.row.B l.run 0 l.x-index
