use Rattle.fronius.proofs.FoundFromPlace.{searched_on, start_found, no_start}
use native.Mathlib.Omega.{arith}
use Rattle.fronius.proofs.slice.start_from.Goals as goal

pub returns-then-slice-i : goal.returns-then-slice-i
returns-then-slice-i c =
    let l = c.loop-i in
    start_found c.args.slice.now c.args.from l.i (omega arith) (omega arith) c.if-slice-i.true l.invariant.1

pub loop-i-preserved : goal.loop-i-preserved
loop-i-preserved c =
    let l = c.loop-i in
    (omega arith, searched_on c.args.slice.now c.args.from l.i (omega arith) (omega arith) c.if-slice-i.false l.invariant.1)

pub returns : goal.returns
returns c =
    let l = c.loop-i in
    no_start c.args.slice.now c.args.from l.i (omega arith) l.invariant.0 (omega arith) l.invariant.1
