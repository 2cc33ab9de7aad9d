-- `same` meets its promise: the bytes compared so far are equal, and the rest decides.
use mathlib.Core.Bool.{◌&&◌}
use mathlib.Core.Path.{◌≡◌}
use lib.ListN.{drop}
use Rattle.numbers.specs.Lists as Lists
use Rattle.roster.proofs.same.Given as goal

abbrev pub invariant-loop-i : goal.invariant-loop-i
invariant-loop-i l = Lists.same l.a l.b ≡ (l.equal && Lists.same (drop l.i l.a) (drop l.i l.b))
