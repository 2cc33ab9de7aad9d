-- `width` meets its promise: by its one test.
use native.Mathlib.Omega.{arith}
use borrow.Author.Tests.{eq-eqb, ne_eqb}
use Rattle.listing_text.specs.Inside.{width_of}
use Rattle.listing_text.proofs.hex.width.Goals as goal

pub returns-then-n-eq0 : goal.returns-then-n-eq0
unfolding width_of
returns-then-n-eq0 c = record { value = simp (eq-eqb _ _ c.if-n-eq0.true); upper_bound = omega arith }

pub returns-else-n-eq0 : goal.returns-else-n-eq0
unfolding width_of
returns-else-n-eq0 c = record { value = simp (ne_eqb _ _ c.if-n-eq0.false); upper_bound = omega arith }
