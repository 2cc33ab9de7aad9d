use Rattle.comlynx.specs.Wire.{stuffed}
use Prim.Native.Nat.{◌+◌}
use mathlib.Core.Path.{◌≡◌}
use lib.ListN.{length, drop}
use Rattle.comlynx.proofs.writer.stuffed_len.Given as goal

abbrev pub invariant-loop-b : goal.invariant-loop-b
invariant-loop-b l = l.n + length (stuffed (drop l.b-index l.s)) ≡ length (stuffed l.s)
