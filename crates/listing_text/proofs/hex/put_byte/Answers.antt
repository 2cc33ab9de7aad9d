-- `put_byte` meets its promise: what stands in the table.
use native.Mathlib.Omega.{arith}
use lib.ListN.{length-set}
use Rattle.listing_text.proofs.PutsJoin.{digits_put}
use Rattle.listing_text.proofs.hex.put_byte.Goals as goal

pub bounds-lent-at-2 : goal.bounds-lent-at-2
bounds-lent-at-2 c = simp length-set (omega arith)

pub returns : goal.returns
returns c =
    let high = c in
    let a = high.args in
    rw (high.high_of.ensures, c.low_of.ensures) (digits_put a.lent.now a.at a.b)
