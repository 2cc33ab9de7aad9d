-- `reader::State::in_range`: at each return the tests that led there pick the case of `inRange`.
use borrow.Author.Tests.{le-leb, lt-leb, eq-eqb, ne_eqb}
use Rattle.fronius.specs.Machine.{in_range}
use Rattle.fronius.proofs.reader.State.in_range.Goals as goal

pub returns-then-self-gt-STARTS : goal.returns-then-self-gt-STARTS
unfolding in_range
returns-then-self-gt-STARTS c = simp (eq-eqb _ _ c.if-self-eq-AT_START.true, lt-leb _ _ c.if-self-gt-STARTS.true)

pub returns-then-self-eq-AT_START : goal.returns-then-self-eq-AT_START
unfolding in_range
returns-then-self-eq-AT_START c = simp (eq-eqb _ _ c.if-self-eq-AT_START.true, le-leb _ _ c.if-self-gt-STARTS.false)

pub returns-then-self-ne-IN_BODY : goal.returns-then-self-ne-IN_BODY
unfolding in_range
returns-then-self-ne-IN_BODY c = simp (ne_eqb _ _ c.if-self-eq-AT_START.false, ne_eqb _ _ c.if-self-ne-IN_BODY.true)

pub returns-then-self-gt-PAYLOAD : goal.returns-then-self-gt-PAYLOAD
unfolding in_range
returns-then-self-gt-PAYLOAD c = simp (ne_eqb _ _ c.if-self-eq-AT_START.false, eq-eqb _ _ c.if-self-ne-IN_BODY.false, lt-leb _ _ c.if-self-gt-PAYLOAD.true)

pub returns : goal.returns
unfolding in_range
returns c = simp (ne_eqb _ _ c.if-self-eq-AT_START.false, eq-eqb _ _ c.if-self-ne-IN_BODY.false, le-leb _ _ c.if-self-gt-PAYLOAD.false)
