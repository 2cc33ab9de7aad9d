use mathlib.Core.Path.{sym, ◌∙◌}
use native.Mathlib.Omega.{arith}
use Rattle.roster.specs.Roster.{used_by}
use Rattle.roster.proofs.SearchSteps.{passed_here, passed_more, passed_all}
use Rattle.roster.proofs.user.Goals as goal

pub returns-then-used_by : goal.returns-then-used_by
returns-then-used_by c =
    passed_here (used_by c.args.serial.now) c.args.roster.now c.requires.0 c.args.«from» c.loop-k.k c.loop-k-test.true c.loop-k.invariant (sym c.used_by.ensures ∙ c.if-used_by.true)

pub loop-k-preserved : goal.loop-k-preserved
loop-k-preserved c =
    passed_more (used_by c.args.serial.now) c.args.roster.now c.requires.0 c.args.«from» c.loop-k.k c.loop-k-test.true c.loop-k.invariant (sym c.used_by.ensures ∙ c.if-used_by.false)

pub returns : goal.returns
returns c =
    passed_all (used_by c.args.serial.now) c.args.roster.now c.requires.0 c.args.«from» c.loop-k.k (omega arith) c.loop-k-test.false (omega arith) c.loop-k.invariant
