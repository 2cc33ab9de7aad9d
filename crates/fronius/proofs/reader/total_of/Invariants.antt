-- `reader::total_of`: the sum so far is that of the bytes passed, modulo 256.
use Rattle.numbers.specs.Lists.{total}
use Prim.Native.Nat.{◌%◌}
use mathlib.Core.Path.{◌≡◌}
use lib.ListN.{take}
use Rattle.fronius.proofs.reader.total_of.Given as goal

abbrev pub invariant-loop-b : goal.invariant-loop-b
invariant-loop-b l = l.sum ≡ total (take l.b-index l.s) % 256
