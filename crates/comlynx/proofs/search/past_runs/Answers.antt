use Prim.Native.Nat.{◌+◌}
use Rattle.comlynx.proofs.SearchedParts.{clear_part, passed_on}
use native.Mathlib.Omega.{arith}
use Rattle.comlynx.proofs.search.past_runs.Goals as goal

pub loop-i-preserved : goal.loop-i-preserved
loop-i-preserved g c =
    let l = c.loop-i in
    let s = c.args.s.now in
    passed_on g.row.A g.row.B s c.args.from l.i _ l.invariant (omega arith, omega arith, clear_part g.row.A g.row.B s l.i (l.i + 16) (omega arith) (c.clear.ensures c.if-not-clear.false))
