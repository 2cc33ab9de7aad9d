use borrow.Author.Tests.{le-leb, lt-leb, eq-eqb, ne_eqb}
use Rattle.comlynx.specs.Machine.{in_range}
use Rattle.comlynx.proofs.reader.State.in_range.Goals as goal

pub returns-then-self-eq-BEFORE : goal.returns-then-self-eq-BEFORE
unfolding in_range
returns-then-self-eq-BEFORE c = simp (eq-eqb _ _ c.if-self-eq-BEFORE.true)

pub returns-then-self-gt-BROKEN : goal.returns-then-self-gt-BROKEN
unfolding in_range
returns-then-self-gt-BROKEN c = simp (ne_eqb _ _ c.if-self-eq-BEFORE.false, lt-leb _ _ c.if-self-gt-BROKEN.true)

pub returns : goal.returns
unfolding in_range
returns c = simp (ne_eqb _ _ c.if-self-eq-BEFORE.false, le-leb _ _ c.if-self-gt-BROKEN.false)
