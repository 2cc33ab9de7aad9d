use lib.ListN.{drop}
use Rattle.comlynx.specs.Rules.{within}
use Prim.Native.Nat.{ℕ, ◌+◌, ◌-◌}
use mathlib.Core.Path.{◌≡◌}
use mathlib.Core.List.{[]}
use Rattle.comlynx.proofs.slice.past_flags.Given as goal

abbrev pub invariant-loop-i : goal.invariant-loop-i
invariant-loop-i l = (at : ℕ) → within at [] (drop l.from l.slice) ≡ within (at + (l.i - l.from)) [] (drop l.i l.slice)
