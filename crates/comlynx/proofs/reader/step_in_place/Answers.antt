use Rattle.std.proofs.Common.{◌≡◌, ℕ, true, List, length, sym, ap, ◌∙◌, arith, rules}
use Rattle.stream.specs.Event.{outcome}
use Rattle.stream.specs.Pieces.{scan}
use Rattle.stream.proofs.PromiseOfStep.{shows, steps_scan}
use Rattle.stream.proofs.InPlaceIsStep.{whole_full}
use Rattle.comlynx.specs.Wire.{body_max}
use Rattle.comlynx.specs.Machine.{holding, next}
use Rattle.comlynx.specs.Reader.{in_range, whole, header, number, told, shown}
use Rattle.comlynx.specs.Inside.{with_held, event_at}
use Rattle.comlynx.specs.declared.reader.Reader.{Reader}
use Rattle.comlynx.proofs.JudgedIsDelivered.{AnswerDelivers, number_told, run_delivers}
use Rattle.comlynx.proofs.reader.step_in_place.Goals as goal
use Rattle.comlynx.proofs.reader.step_in_place.Goals.{After-run_in-ran, After-answer_to-answer}

-- where a run has ended: the state put together before it, which was whole, and the state after it
abbrev state : After-run_in-ran → Reader
state c = holding c.args.stage c.args.came c.args.count c.args.held.now

abbrev after : After-run_in-ran → Reader
after c = with_held c.run_in-ran.result.state c.run_in-ran.new.held

is_whole : (c : After-run_in-ran) → whole (state c) ≡ true
is_whole c =
    let there : length c.args.held.now ≡ body_max = search rules in
    whole_full (λ (t : Reader). t.held) body_max in_range (state c) there ∙ sym c.in_range.ensures ∙ c.if-not-in_range.false

-- what the answer to it delivers
answered : (c : After-answer_to-answer) → length c.run_in-ran.new.held ≡ body_max
    → AnswerDelivers c.run_in-ran.new.held c.args.lent.now c.answer_to-answer.result (event_at c.run_in-ran.result.end c.run_in-ran.new.held)
answered c f = run_delivers c.run_in-ran.result.end c.run_in-ran.new.held c.args.lent.now c.answer_to-answer.result f c.answer_to-answer.ensures

pub deliver-requires : goal.deliver-requires
deliver-requires c =
    let full : length c.run_in-ran.new.held ≡ body_max = search rules in
    let j = answered (goal.at.deliver-requires c).After-answer_to-answer full in
    (j.0, j.1, omega arith)

pub returns : goal.returns
returns c =
    let g = goal.at.returns c in
    let r = g.After-run_in-ran in
    let full : length c.run_in-ran.new.held ≡ body_max = search rules in
    let a = c.args in
    let x = c.answer_to-answer in
    let n = c.run_in-ran in
    steps_scan next whole header (λ m. m.payload) shown (state r) a.piece.now a.lent.now _ (record { reader = after r; answer = x.result; used = n.result.used }) _ (is_whole r) (omega arith)
    (ap (λ (l : List ℕ). scan next (holding a.stage a.came a.count l) a.piece.now) (sym c.in-Some.ensures.cases.same) ∙ n.ensures.scanned)
    (shows header (after r) (number x.result) (told x.result) (outcome (event_at n.result.end n.new.held)) n.result.used (number_told x.result) x.ensures)
    (c.deliver.ensures ∙ (answered g.After-answer_to-answer full).2)
    (whole_full (λ (t : Reader). t.held) body_max in_range (after r) full ∙ n.ensures.ranged)
