-- `reader::all_hex`: the characters passed are good, and those left are in the set, where all are.
use Rattle.drives.specs.Wire.{all_hex}
use mathlib.Core.Path.{◌≡◌}
use mathlib.Core.Bool.{◌&&◌}
use lib.ListN.{drop}
use Rattle.drives.proofs.reader.all_hex.Given as goal

abbrev pub invariant-loop-c : goal.invariant-loop-c
invariant-loop-c l = l.good && all_hex (drop l.c-index l.s) ≡ all_hex l.s
