use native.Mathlib.Omega.{arith}
use borrow.Author.Tests.{eq-eqb, ne_eqb}
use Rattle.roster.specs.Roster.{free}
use Rattle.roster.proofs.SearchSteps.{passed_here, passed_more, passed_all}
use Rattle.roster.proofs.lowest_free.Goals as goal

pub returns-then-roster-at-eq-FREE : goal.returns-then-roster-at-eq-FREE
unfolding free
returns-then-roster-at-eq-FREE c =
    passed_here free c.args.roster.now c.requires 0 c.loop-k.k c.loop-k-test.true c.loop-k.invariant (eq-eqb _ _ c.if-roster-at-eq-FREE.true)

pub loop-k-preserved : goal.loop-k-preserved
unfolding free
loop-k-preserved c =
    passed_more free c.args.roster.now c.requires 0 c.loop-k.k c.loop-k-test.true c.loop-k.invariant (ne_eqb _ _ c.if-roster-at-eq-FREE.false)

pub returns : goal.returns
returns c = passed_all free c.args.roster.now c.requires 0 c.loop-k.k (omega arith) c.loop-k-test.false (omega arith) c.loop-k.invariant
