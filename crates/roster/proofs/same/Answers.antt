use native.Mathlib.Omega.{arith}
use Rattle.roster.proofs.SearchSteps.{same_next, same_end}
use Rattle.roster.proofs.same.Goals as goal

pub loop-i-preserved : goal.loop-i-preserved
loop-i-preserved c = same_next c.args.a.now c.args.b.now c.loop-i.i c.loop-i.equal (omega arith) (omega arith) c.loop-i.invariant

pub returns : goal.returns
returns c = same_end c.args.a.now c.args.b.now c.loop-i.i c.loop-i.equal (omega arith) (omega arith) c.loop-i.invariant
