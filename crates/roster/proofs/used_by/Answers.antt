-- `used_by` meets its promise: by the mark, then by the serial as it is lent.
use Prim.Native.Nat.{ℕ}
use mathlib.Core.List.{List}
use mathlib.Core.Path.{◌∙◌, ap}
use borrow.Author.Tests.{eq-eqb, ne_eqb}
use Rattle.numbers.specs.Lists as Lists
use Rattle.roster.specs.Roster.{used, used_by}
use Rattle.roster.proofs.SearchSteps.{serial_there}
use Rattle.roster.proofs.used_by.Goals as goal

pub returns-then-roster-at-ne-USED : goal.returns-then-roster-at-ne-USED
unfolding used_by used
returns-then-roster-at-ne-USED c = simp (ne_eqb _ _ c.if-roster-at-ne-USED.true)

pub returns : goal.returns
unfolding used_by used
returns c =
    let s = c in
    let there = c.same.ensures ∙ ap (λ (t : List ℕ). Lists.same t s.args.serial.now) (serial_there s.args.roster.now s.args.k) in
    simp (eq-eqb _ _ c.if-roster-at-ne-USED.false) there
