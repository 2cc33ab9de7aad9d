use Rattle.eversolar.proofs.MachineMoves.{total_more}
use native.Mathlib.Omega.{arith}
use Rattle.eversolar.proofs.reader.total_of.Goals as goal

pub loop-b-preserved : goal.loop-b-preserved
loop-b-preserved c =
    let l = c.loop-b in
    let more = total_more c.args.s.now l.b-index c.loop-b-test.true in
    (omega (arith, more, l.invariant), omega (arith, l.invariant))
