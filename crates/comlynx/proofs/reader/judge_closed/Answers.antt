use Prim.Native.Nat.{ℕ}
use mathlib.Core.Path.{sym, ◌∙◌, ap}
use mathlib.Core.Option.{some}
use lib.ListN.{take}
use Rattle.comlynx_checksum.specs.Checksum.{checksum_of}
use Rattle.stream.specs.Event.{Event, gives}
use Rattle.stream.specs.Call.{retold}
use Rattle.comlynx.specs.Wire.{Message}
use Rattle.std.specs.Prelude.{Result}
use Rattle.answers.specs.declared.Damage.{Damage}
use Rattle.comlynx.specs.Machine.{closed}
use Rattle.comlynx.specs.Reader.{told, header}
use Rattle.comlynx.specs.declared.reader.Header.{Header}
use Rattle.comlynx.specs.Inside.{JudgedAs, answer_of}
use Rattle.comlynx.proofs.reader.judge_closed.Goals.{After-judge_frame}
use Rattle.comlynx.proofs.JudgedIsDelivered.{closes}
use Rattle.comlynx.proofs.reader.judge_closed.Goals as goal

-- where the two bytes that are due are known: what is found by them tells what the stretch comes to
found : (c : After-judge_frame) → JudgedAs (some (closed c.args.came c.args.count c.args.held.now)) (answer_of c.args.came c.judge_frame.result)
found c =
    let a = c.args in
    let sum = c.of_first-sum.ensures ∙ ap (λ (k : ℕ). checksum_of (take k a.held.now)) c.saturating_sub.ensures in
    c.judge_frame.ensures a.came
    ∙ ap (λ (x : Event Message). retold header (gives x)) (sym (closes a.count a.came c.of_first-sum.result a.held.now c.sent_of-due.result c.requires sum c.sent_of-due.ensures))

pub returns-in-Ok : goal.returns-in-Ok
returns-in-Ok c = ap (λ (r : Result Header Damage). told (answer_of c.args.came r)) (sym c.in-Ok.is) ∙ found (goal.at.returns-in-Ok c).After-judge_frame

pub returns-in-Err : goal.returns-in-Err
returns-in-Err c = ap told c.damaged.ensures ∙ ap (λ (r : Result Header Damage). told (answer_of c.args.came r)) (sym c.in-Err.is) ∙ found (goal.at.returns-in-Err c).After-judge_frame
