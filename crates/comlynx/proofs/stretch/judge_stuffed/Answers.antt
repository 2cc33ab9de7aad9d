-- the stretch is unstuffed and judged: what the answer delivers
use mathlib.Core.Path.{ap, ◌∙◌}
use borrow.Author.Rules.{rules}
use mathlib.Core.Option.{some}
use Rattle.stream.specs.Event.{Event, Told, outcome}
use Rattle.stream.specs.Call.{delivered, retold}
use Rattle.comlynx.specs.Wire.{Message}
use Rattle.comlynx.specs.Reader.{header}
use Rattle.comlynx.specs.Inside.{event_of}
use Rattle.comlynx.proofs.JudgedIsDelivered.{AnswerDelivers, end_delivers}
use Rattle.comlynx.proofs.stretch.judge_stuffed.Goals as goal
use Rattle.comlynx.proofs.stretch.judge_stuffed.Goals.{After-judge-answer}

deliverable : (c : After-judge-answer) → AnswerDelivers c.unstuff-end.new.held c.args.lent.now c.judge-answer.result (some (event_of c.unstuff-end.result c.unstuff-end.new.held))
deliverable c = end_delivers c.unstuff-end.result c.unstuff-end.new.held c.args.lent.now c.judge-answer.result (search rules) c.judge-answer.ensures

pub deliver-requires : goal.deliver-requires
deliver-requires c =
    let d = deliverable (goal.at.deliver-requires c).After-judge-answer in
    (d.0, d.1, c.requires.1)

pub returns : goal.returns
returns c =
    let is = ap (λ (e : Event Message). outcome (some e)) c.unstuff-end.ensures in (
      c.judge-answer.ensures ∙ ap (retold header) is,
      c.deliver.ensures ∙ (deliverable (goal.at.returns c).After-judge-answer).2 ∙ ap (λ (t : Told Message). delivered (λ (m : Message). m.payload) t c.args.lent.now) is,
    )
