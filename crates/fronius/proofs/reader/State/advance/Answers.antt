-- `reader::State::advance`: at each return the tests that led there pick the case of `advance_of`.
use borrow.Author.Tests.{lt-ltb, le-ltb, eq-eqb, ne_eqb}
use Rattle.fronius.specs.Machine.{advance_of}
use Rattle.fronius.proofs.reader.State.advance.Goals as goal

pub returns-then-b-eq-MARK : goal.returns-then-b-eq-MARK
unfolding advance_of
returns-then-b-eq-MARK c = simp (eq-eqb _ _ c.if-self-eq-AT_START.true, lt-ltb _ _ c.if-self-lt-STARTS.true, eq-eqb _ _ c.if-b-eq-MARK.true)

pub returns-then-self-lt-STARTS : goal.returns-then-self-lt-STARTS
unfolding advance_of
returns-then-self-lt-STARTS c = simp (eq-eqb _ _ c.if-self-eq-AT_START.true, lt-ltb _ _ c.if-self-lt-STARTS.true, ne_eqb _ _ c.if-b-eq-MARK.false)

pub returns-then-b-eq-MARK-2 : goal.returns-then-b-eq-MARK-2
unfolding advance_of
returns-then-b-eq-MARK-2 c = simp (eq-eqb _ _ c.if-self-eq-AT_START.true, le-ltb _ _ c.if-self-lt-STARTS.false, eq-eqb _ _ c.if-b-eq-MARK-2.true)

pub returns-then-b-lt-MARK : goal.returns-then-b-lt-MARK
unfolding advance_of
returns-then-b-lt-MARK c = simp (c.from.ensures, eq-eqb _ _ c.if-self-eq-AT_START.true, le-ltb _ _ c.if-self-lt-STARTS.false, ne_eqb _ _ c.if-b-eq-MARK-2.false, lt-ltb _ _ c.if-b-lt-MARK.true)

pub returns-then-self-eq-AT_START : goal.returns-then-self-eq-AT_START
unfolding advance_of
returns-then-self-eq-AT_START c = simp (eq-eqb _ _ c.if-self-eq-AT_START.true, le-ltb _ _ c.if-self-lt-STARTS.false, ne_eqb _ _ c.if-b-eq-MARK-2.false, le-ltb _ _ c.if-b-lt-MARK.false)

pub returns-then-self : goal.returns-then-self
unfolding advance_of
returns-then-self c = simp (ne_eqb _ _ c.if-self-eq-AT_START.false, lt-ltb _ _ c.if-self.true)

pub returns : goal.returns
unfolding advance_of
returns c = simp (ne_eqb _ _ c.if-self-eq-AT_START.false, le-ltb _ _ c.if-self.false)
