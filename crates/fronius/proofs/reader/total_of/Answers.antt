use Rattle.fronius.proofs.MachineMoves.{total_more}
use native.Mathlib.Omega.{arith}
use Rattle.fronius.proofs.reader.total_of.Goals as goal

pub loop-b-preserved : goal.loop-b-preserved
loop-b-preserved c =
    let more = total_more c.args.s.now c.loop-b.b-index c.loop-b-test.true in
    omega (arith, more, c.loop-b.invariant)
