use lib.ListN.{take}
use Rattle.numbers.specs.Lists.{total}
use Prim.Native.Nat.{◌*◌, ◌≤◌}
use mathlib.Core.Path.{◌≡◌}
use Rattle.eversolar.proofs.reader.total_of.Given as goal

abbrev pub invariant-loop-b : goal.invariant-loop-b
invariant-loop-b l = (l.sum ≡ total (take l.b-index l.s)) × (l.sum ≤ 255 * l.b-index)
