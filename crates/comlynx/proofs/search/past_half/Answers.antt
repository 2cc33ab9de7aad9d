use Prim.Native.Nat.{◌+◌}
use Rattle.comlynx.proofs.SearchedParts.{clear_part}
use native.Mathlib.Omega.{arith}
use Rattle.comlynx.proofs.search.past_half.Goals as goal

pub returns-then-clear : goal.returns-then-clear
returns-then-clear g c =
    let a = c.args in
    (omega arith, omega arith, clear_part g.row.A g.row.B a.s.now a.from (a.from + 8) (omega arith) (c.clear.ensures c.if-clear.true))
