use lib.Seq.{sets}
use Rattle.comlynx.specs.Wire.{stuffed}
use Prim.Native.Nat.{◌+◌}
use mathlib.Core.Path.{◌≡◌}
use lib.ListN.{length, drop}
use Rattle.comlynx.proofs.writer.put_stuffed.Given as goal

abbrev pub invariant-loop-b : goal.invariant-loop-b
invariant-loop-b l =
    (l.to + length (stuffed (drop l.b-index l.s)) ≡ l.at + length (stuffed l.s)) × (length l.lent ≡ length l.initial.lent)
    × (sets l.lent l.to (stuffed (drop l.b-index l.s)) ≡ sets l.initial.lent l.at (stuffed l.s))
