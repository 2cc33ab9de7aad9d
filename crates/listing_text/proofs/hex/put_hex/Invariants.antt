-- `put_hex` meets its promise: what is left to put, put now, makes what was to be put.
use Prim.Native.Nat.{◌+◌, ◌*◌}
use mathlib.Core.Path.{◌≡◌}
use lib.ListN.{length, drop}
use lib.Seq.{sets}
use Rattle.listing_text.specs.Lines.{hex}
use Rattle.listing_text.proofs.hex.put_hex.Given as goal

abbrev pub invariant-loop-b : goal.invariant-loop-b
invariant-loop-b l =
    (l.p ≡ l.at + 2 * l.b-index) × (length l.lent ≡ length l.initial.lent) × (sets l.lent l.p (hex (drop l.b-index l.bytes)) ≡ sets l.initial.lent l.at (hex l.bytes))
