use borrow.Author.Tests.{eq-eqb, ne_eqb}
use Rattle.comlynx.specs.Machine.{advance_of}
use Rattle.comlynx.proofs.reader.State.advance.Goals as goal

pub returns-then-b-eq-FLAG : goal.returns-then-b-eq-FLAG
unfolding advance_of
returns-then-b-eq-FLAG c = simp (eq-eqb _ _ c.if-self-eq-BEFORE.true, eq-eqb _ _ c.if-b-eq-FLAG.true)

pub returns-then-self-eq-BEFORE : goal.returns-then-self-eq-BEFORE
unfolding advance_of
returns-then-self-eq-BEFORE c = simp (eq-eqb _ _ c.if-self-eq-BEFORE.true, ne_eqb _ _ c.if-b-eq-FLAG.false)

pub returns-then-self-eq0 : goal.returns-then-self-eq0
unfolding advance_of
returns-then-self-eq0 c = simp (ne_eqb _ _ c.if-self-eq-BEFORE.false, eq-eqb _ _ c.if-self-eq-INSIDE.true, eq-eqb _ _ c.if-b-eq-FLAG-2.true, eq-eqb _ _ c.if-self-eq0.true)

pub returns-then-b-eq-FLAG-2 : goal.returns-then-b-eq-FLAG-2
unfolding advance_of
returns-then-b-eq-FLAG-2 c = simp (ne_eqb _ _ c.if-self-eq-BEFORE.false, eq-eqb _ _ c.if-self-eq-INSIDE.true, eq-eqb _ _ c.if-b-eq-FLAG-2.true, ne_eqb _ _ c.if-self-eq0.false)

pub returns-then-b-eq-ESCAPE : goal.returns-then-b-eq-ESCAPE
unfolding advance_of
returns-then-b-eq-ESCAPE c = simp (ne_eqb _ _ c.if-self-eq-BEFORE.false, eq-eqb _ _ c.if-self-eq-INSIDE.true, ne_eqb _ _ c.if-b-eq-FLAG-2.false, eq-eqb _ _ c.if-b-eq-ESCAPE.true)

pub returns-then-self-eq-INSIDE : goal.returns-then-self-eq-INSIDE
unfolding advance_of
returns-then-self-eq-INSIDE c = simp (ne_eqb _ _ c.if-self-eq-BEFORE.false, eq-eqb _ _ c.if-self-eq-INSIDE.true, ne_eqb _ _ c.if-b-eq-FLAG-2.false, ne_eqb _ _ c.if-b-eq-ESCAPE.false) c.keep.ensures

pub returns-then-b-eq-FLAG-3 : goal.returns-then-b-eq-FLAG-3
unfolding advance_of
returns-then-b-eq-FLAG-3 c = simp (ne_eqb _ _ c.if-self-eq-BEFORE.false, ne_eqb _ _ c.if-self-eq-INSIDE.false, eq-eqb _ _ c.if-self-eq-ESCAPED.true, eq-eqb _ _ c.if-b-eq-FLAG-3.true)

pub returns-then-b-eq-FLAG_PAIR : goal.returns-then-b-eq-FLAG_PAIR
unfolding advance_of
returns-then-b-eq-FLAG_PAIR c = simp (ne_eqb _ _ c.if-self-eq-BEFORE.false, ne_eqb _ _ c.if-self-eq-INSIDE.false, eq-eqb _ _ c.if-self-eq-ESCAPED.true, ne_eqb _ _ c.if-b-eq-FLAG-3.false, eq-eqb _ _ c.if-b-eq-FLAG_PAIR.true) c.keep-then-b-eq-FLAG_PAIR.ensures

pub returns-then-b-eq-ESCAPE_PAIR : goal.returns-then-b-eq-ESCAPE_PAIR
unfolding advance_of
returns-then-b-eq-ESCAPE_PAIR c = simp (ne_eqb _ _ c.if-self-eq-BEFORE.false, ne_eqb _ _ c.if-self-eq-INSIDE.false, eq-eqb _ _ c.if-self-eq-ESCAPED.true, ne_eqb _ _ c.if-b-eq-FLAG-3.false, ne_eqb _ _ c.if-b-eq-FLAG_PAIR.false, eq-eqb _ _ c.if-b-eq-ESCAPE_PAIR.true) c.keep-then-b-eq-ESCAPE_PAIR.ensures

pub returns-then-self-eq-ESCAPED : goal.returns-then-self-eq-ESCAPED
unfolding advance_of
returns-then-self-eq-ESCAPED c = simp (ne_eqb _ _ c.if-self-eq-BEFORE.false, ne_eqb _ _ c.if-self-eq-INSIDE.false, eq-eqb _ _ c.if-self-eq-ESCAPED.true, ne_eqb _ _ c.if-b-eq-FLAG-3.false, ne_eqb _ _ c.if-b-eq-FLAG_PAIR.false, ne_eqb _ _ c.if-b-eq-ESCAPE_PAIR.false)

pub returns-then-b-eq-FLAG-4 : goal.returns-then-b-eq-FLAG-4
unfolding advance_of
returns-then-b-eq-FLAG-4 c = simp (ne_eqb _ _ c.if-self-eq-BEFORE.false, ne_eqb _ _ c.if-self-eq-INSIDE.false, ne_eqb _ _ c.if-self-eq-ESCAPED.false, eq-eqb _ _ c.if-b-eq-FLAG-4.true)

pub returns : goal.returns
unfolding advance_of
returns c = simp (ne_eqb _ _ c.if-self-eq-BEFORE.false, ne_eqb _ _ c.if-self-eq-INSIDE.false, ne_eqb _ _ c.if-self-eq-ESCAPED.false, ne_eqb _ _ c.if-b-eq-FLAG-4.false)
