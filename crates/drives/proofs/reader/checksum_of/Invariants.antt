-- `reader::checksum_of`: the sum so far and the characters left add up to that of all, modulo 256.
use Rattle.numbers.specs.Lists.{total}
use Prim.Native.Nat.{◌+◌, ◌%◌}
use mathlib.Core.Path.{◌≡◌}
use lib.ListN.{drop}
use Rattle.drives.proofs.reader.checksum_of.Given as goal

abbrev pub invariant-loop-c : goal.invariant-loop-c
invariant-loop-c l = (l.sum + total (drop l.c-index l.s)) % 256 ≡ total l.s % 256
