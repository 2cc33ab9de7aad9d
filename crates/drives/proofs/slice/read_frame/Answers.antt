-- `slice::read_frame`: the characters are judged as held ones are, and what is judged is delivered.
use mathlib.Core.Option.{some}
use Rattle.stream.specs.Event.{Event}
use Rattle.drives.specs.Wire.{Message}
use Rattle.drives.specs.Rules.{judge}
use Rattle.drives.specs.Machine.{count_max, closed}
use Rattle.drives.specs.Inside.{JudgedAs}
use Rattle.drives.specs.declared.reader.Answer.{Answer}
use Rattle.drives.proofs.JudgedIsDelivered.{AnswerDelivers, frame_delivers}
use Rattle.drives.proofs.RuleInSlice.{whole_judged}
use native.Mathlib.Omega.{arith}
use Prim.Native.Nat.{ℕ, min}
use mathlib.Core.Path.{◌≡◌, ◌∙◌, ap, subst}
use mathlib.Core.List.{List}
use lib.ListN.{length}
use Rattle.drives.proofs.slice.read_frame.Goals as goal

-- where the frame is judged, its characters counted: what the frame comes to, and what is delivered of it
comes_to : (opening count : ℕ) (came : List ℕ) → count ≡ min (length came) count_max → closed opening count came ≡ judge opening came
comes_to opening count came e = ap (λ (n : ℕ). closed opening n came) e ∙ whole_judged opening came

handed : (opening count : ℕ) (came lent : List ℕ) (answer : Answer) → count ≡ min (length came) count_max → JudgedAs (some (closed opening count came)) answer
    → AnswerDelivers came lent answer (some (judge opening came))
handed opening count came lent answer e j =
    subst (λ (v : Event Message). AnswerDelivers came lent answer (some v)) (comes_to opening count came e)
    (frame_delivers opening count came lent answer (omega arith) j)

pub deliver-requires : goal.deliver-requires
deliver-requires c =
    let a = c.args in
    let d = handed a.opening c.min-count.result a.came.now a.lent.now c.judge_frame-answer.result (omega (arith, c.min-count.ensures)) c.judge_frame-answer.ensures in
    (d.0, d.1, c.requires)

pub returns : goal.returns
returns c =
    let a = c.args in
    let n : c.min-count.result ≡ min (length a.came.now) count_max = omega (arith, c.min-count.ensures) in (
      subst (λ (e : Event Message). JudgedAs (some e) c.judge_frame-answer.result) (comes_to a.opening c.min-count.result a.came.now n) c.judge_frame-answer.ensures,
      c.deliver.ensures ∙ (handed a.opening c.min-count.result a.came.now a.lent.now c.judge_frame-answer.result n c.judge_frame-answer.ensures).2,
    )
