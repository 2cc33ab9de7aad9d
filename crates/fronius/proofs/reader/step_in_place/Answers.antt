-- `reader::step_in_place`: spoilt, no room, or the scan that `run_in` made, judged and delivered.
use Rattle.std.proofs.Common.{◌≡◌, ℕ, Bool, true, List, length, refl, sym, ap, ◌∙◌, arith, rules}
use mathlib.Core.Bool.{◌&&◌}
use lib.Dec.{eqb}
use Rattle.stream.specs.Event.{outcome}
use Rattle.stream.specs.Pieces.{scan}
use Rattle.stream.proofs.PromiseOfStep.{shows, steps_spoilt, steps_no_room, steps_scan}
use Rattle.stream.proofs.InPlaceIsStep.{whole_full, whole_sound}
use Rattle.fronius.specs.Machine.{held_max, holding, next}
use Rattle.fronius.specs.Machine as Machine
use Rattle.fronius.specs.Reader.{in_range, whole, header, number, told, shown}
use Rattle.fronius.specs.Inside.{event_of}
use Rattle.fronius.specs.declared.reader.Reader.{Reader}
use Rattle.fronius.specs.declared.reader.Answer.TheVariants.{Refused}
use Rattle.answers.specs.declared.Refusal.TheVariants.{NoRoom, Spoilt}
use Rattle.fronius.proofs.JudgedIsDelivered.{DeliveredBy, number_told, delivers}
use Rattle.fronius.proofs.reader.step_in_place.Goals.{Else-not-whole, After-judge-answer}
use Rattle.fronius.proofs.reader.step_in_place.Goals as goal

-- whether the state put together is whole, as it was tested
tested : (stage count len : ℕ) (held : List ℕ) (t : Bool) → t ≡ Machine.in_range stage count len → whole (holding stage count len held) ≡ (eqb (length held) held_max && t)
tested stage count len held t e = ap (λ (b : Bool). eqb (length held) held_max && b) (sym e)

is_whole : (c : Else-not-whole) → whole (holding c.args.stage c.args.count c.args.len c.args.held.now) ≡ true
is_whole c = tested _ _ _ c.args.held.now _ c.in_range.ensures ∙ c.if-not-whole.false

all_there : (c : Else-not-whole) → (length c.args.held.now ≡ held_max) × (in_range (holding c.args.stage c.args.count c.args.len c.args.held.now) ≡ true)
all_there c = whole_sound (λ s. s.held) held_max in_range (holding c.args.stage c.args.count c.args.len c.args.held.now) (is_whole c)

-- what the run leaves in the held bytes is judged, and delivered
judged : (c : After-judge-answer) → length c.run_in-ran.new.held ≡ held_max
    → DeliveredBy c.judge-answer.result (event_of c.run_in-ran.result.end c.run_in-ran.new.held) c.run_in-ran.new.held c.args.lent.now
judged c full = delivers c.run_in-ran.result.end c.run_in-ran.new.held c.args.lent.now c.judge-answer.result c.run_in-ran.ensures.fits full c.judge-answer.ensures

pub returns-then-not-whole : goal.returns-then-not-whole
returns-then-not-whole c =
    let a = c.args in
    let s = holding a.stage a.count a.len a.held.now in
    steps_spoilt next whole header (λ m. m.payload) shown s a.piece.now a.lent.now (record { reader = s; answer = Refused Spoilt; used = 0 })
    (tested _ _ _ a.held.now _ c.in_range.ensures ∙ c.if-not-whole.true) refl

pub returns-then-lent-lt-LENT : goal.returns-then-lent-lt-LENT
returns-then-lent-lt-LENT c =
    let a = c.args in
    let s = holding a.stage a.count a.len a.held.now in
    steps_no_room next whole header (λ m. m.payload) shown s a.piece.now a.lent.now (record { reader = s; answer = Refused NoRoom; used = 0 })
    (is_whole (goal.at.returns-then-lent-lt-LENT c).Else-not-whole) (omega arith) refl

pub deliver-requires : goal.deliver-requires
deliver-requires c =
    let full : length c.run_in-ran.new.held ≡ held_max = search rules in
    let j = judged (goal.at.deliver-requires c).After-judge-answer full in
    (j.0, j.1, omega arith)

pub returns : goal.returns
returns c =
    let w = (goal.at.returns c).Else-not-whole in
    let r = c.run_in-ran in
    let full : length r.new.held ≡ held_max = search rules in
    let a = c.args in
    let after = holding r.result.state.stage r.result.state.count r.result.state.len r.new.held in
    let said = c.judge-answer.result in
    steps_scan next whole header (λ m. m.payload) shown (holding a.stage a.count a.len a.held.now) a.piece.now a.lent.now _ (record { reader = after; answer = said; used = r.result.used }) _ (is_whole w) (omega arith)
    (ap (λ (l : List ℕ). scan next (holding a.stage a.count a.len l) a.piece.now) (sym c.in-Some.ensures.cases.same) ∙ r.ensures.scanned)
    (shows header after (number said) (told said) (outcome (event_of r.result.end r.new.held)) r.result.used (number_told said) c.judge-answer.ensures)
    (c.deliver.ensures ∙ (judged (goal.at.returns c).After-judge-answer full).2)
    (whole_full (λ (t : Reader). t.held) held_max in_range after full ∙ r.ensures.ranged)
