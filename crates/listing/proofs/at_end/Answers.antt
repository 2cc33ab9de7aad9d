-- `at_end` meets its promise: by its one test.
use mathlib.Core.Path.{refl, ap}
use Rattle.listing.specs.Steps.{wants_more, at_end}
use Rattle.listing.specs.Inside.{finish}
use Rattle.listing.proofs.StepMakes.{nothing}
use Rattle.listing.proofs.at_end.Goals as goal

pub returns-then-ended : goal.returns-then-ended
unfolding at_end
returns-then-ended c =
    let l = c.args.l in
    let p = c.put_last-wrote.ensures in
    rw c.if-ended.true (rw c.finished.ensures (ap (finish l) p.0, p.1, λ x. x))

pub returns : goal.returns
unfolding at_end
returns c =
    let a = c.args in
    rw c.if-ended.false (nothing a.l (wants_more a.l) a.out.now c.wants_more.result refl refl c.wants_more.ensures)
