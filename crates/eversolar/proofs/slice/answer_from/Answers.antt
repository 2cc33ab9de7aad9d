use Rattle.eversolar.proofs.SearchFindsFrame.{judged_there}
use Rattle.eversolar.proofs.slice.answer_from.Goals as goal

pub returns : goal.returns
returns c =
    let s = c.args.slice.now in
    let mark = c.in-Some.mark in
    let there = c.in-Some.ensures in
    rw c.from-len.ensures (judged_there s mark c.args.lent.now c.args.place there.0 c.requires.0 c.requires.1 c.requires.2 c.judge_at-answer.result _ there.1 (rw c.from-len.ensures at c.judge_at-answer.ensures))
