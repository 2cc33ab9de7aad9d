-- `low_of` meets its promise: what stands in the table.
use native.Mathlib.Omega.{arith}
use Prim.Native.Nat.{◌%◌}
use Rattle.listing_text.proofs.FieldLengths.{digit_at}
use Rattle.listing_text.proofs.hex.low_of.Goals as goal

pub bounds-t-b : goal.bounds-t-b
bounds-t-b c = omega arith

pub returns : goal.returns
returns c = rw c.requires (digit_at (c.args.b % 16) (omega arith))
