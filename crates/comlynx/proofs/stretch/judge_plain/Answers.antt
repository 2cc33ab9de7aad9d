-- the stretch is judged: as what, and what the answer delivers
use mathlib.Core.Path.{ap, ◌∙◌}
use mathlib.Core.Option.{some}
use native.Mathlib.Omega.{arith}
use Rattle.stream.specs.Event.{Event, gives}
use Rattle.stream.specs.Call.{delivered, retold}
use Rattle.comlynx.specs.Wire.{Message}
use Rattle.comlynx.specs.Machine.{closed}
use Rattle.comlynx.specs.Reader.{header}
use Rattle.comlynx.proofs.JudgedIsDelivered.{AnswerDelivers, closed_delivers}
use Rattle.comlynx.proofs.StretchUnstuffed.{plain_judged}
use Rattle.comlynx.proofs.stretch.judge_plain.Goals as goal
use Rattle.comlynx.proofs.stretch.judge_plain.Goals.{After-judge_closed-answer}

deliverable : (c : After-judge_closed-answer)
    → (let a = c.args in AnswerDelivers a.stretch.now a.lent.now c.judge_closed-answer.result (some (closed c.plus.result c.min-count.result a.stretch.now)))
deliverable c =
    let a = c.args in
    closed_delivers c.min-count.result c.plus.result a.stretch.now a.lent.now c.judge_closed-answer.result (omega (arith, c.min-count.ensures)) c.judge_closed-answer.ensures

pub deliver-requires : goal.deliver-requires
deliver-requires c =
    let d = deliverable (goal.at.deliver-requires c).After-judge_closed-answer in
    (d.0, d.1, c.requires.1)

pub returns : goal.returns
returns c =
    let a = c.args in
    let is = plain_judged a.stretch.now c.min-count.result c.plus.result c.requires.0 c.min-count.ensures (omega (arith, c.plus.ensures)) in (
      c.judge_closed-answer.ensures ∙ ap (λ (e : Event Message). retold header (gives e)) is,
      c.deliver.ensures ∙ (deliverable (goal.at.returns c).After-judge_closed-answer).2 ∙ ap (λ (e : Event Message). delivered (λ (m : Message). m.payload) (gives e) a.lent.now) is,
    )
