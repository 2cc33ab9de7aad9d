-- the state put together is whole, as it was tested; what is judged of the run's end is delivered
use mathlib.Core.Path.{◌≡◌, sym, ◌∙◌}
use mathlib.Core.Bool.{true}
use lib.ListN.{length}
use native.Mathlib.Omega.{arith}
use Rattle.stream.specs.Event.{outcome}
use Rattle.stream.proofs.PromiseOfStep.{shows, steps_scan}
use Rattle.stream.proofs.InPlaceIsStep.{whole_full}
use Rattle.eversolar.specs.Machine.{held_max, holding, next}
use Rattle.eversolar.specs.Reader.{in_range, whole, header, number, told, shown}
use Rattle.eversolar.specs.Inside.{event_of}
use Rattle.eversolar.specs.declared.reader.Reader.{Reader}
use Rattle.eversolar.proofs.JudgedIsDelivered.{number_told, delivers}
use Rattle.eversolar.proofs.reader.step_in_place.Goals as goal

pub deliver-requires : goal.deliver-requires
deliver-requires c =
    let ran = c.run_in-ran in
    let judged = delivers ran.result.end ran.new.held c.args.lent.now c.judge-answer.result ran.ensures.fits ran.array_long c.judge-answer.ensures in
    (judged.0, judged.1, omega (arith, c.if-lent-lt-LENT.false))

pub returns : goal.returns
returns c =
    let a = c.args in
    let state : Reader = holding a.stage a.count a.len a.held.now in
    let chunk = c.in-Some.ensures.cases in
    let is_whole : whole state ≡ true = whole_full (λ (s : Reader). s.held) held_max in_range state chunk.long ∙ sym c.in_range.ensures ∙ c.if-not-in_range.false in
    let held = c.run_in-ran.new.held in
    let ran = c.run_in-ran.result in
    let full : length held ≡ held_max = c.run_in-ran.array_long in
    let after : Reader = holding ran.stage ran.count ran.len held in
    let answer = c.judge-answer.result in
    let judged = delivers ran.end held a.lent.now answer c.run_in-ran.ensures.fits full c.judge-answer.ensures in
    steps_scan next whole header (λ m. m.payload) shown state a.piece.now a.lent.now _ (record { reader = after; answer = answer; used = ran.used }) _ is_whole (omega (arith, c.if-lent-lt-LENT.false))
    (rw chunk.same at c.run_in-ran.ensures.scanned)
    (shows header after (number answer) (told answer) (outcome (event_of ran.end held)) ran.used (number_told answer) c.judge-answer.ensures)
    (c.deliver.ensures ∙ judged.2)
    (whole_full (λ (s : Reader). s.held) held_max in_range after full ∙ c.run_in-ran.ensures.ranged)
