-- `slice::answer_from`: what is found from the place on is what is found from the length on.
use Rattle.fronius.proofs.FoundIsAnswered.{answers_from}
use Rattle.fronius.proofs.slice.answer_from.Goals as goal

pub returns : goal.returns
returns c =
    let a = c.args in
    answers_from a.slice.now a.lent.now _ a.place c.start_from-start.result c.past_marks-at.result c.frame_at.result c.start_from-start.ensures c.past_marks-at.ensures c.frame_at.ensures
