-- `reader::step_in_place`: spoilt, no room, or the scan that `run_in` made, judged and delivered.
use mathlib.Core.List.{List}
use lib.Dec.{eqb}
use Rattle.stream.specs.Event.{outcome}
use Rattle.stream.specs.Pieces.{scan}
use Rattle.stream.proofs.PromiseOfStep.{shows, steps_spoilt, steps_no_room, steps_scan}
use Rattle.stream.proofs.InPlaceIsStep.{whole_full, whole_sound}
use Rattle.drives.specs.Machine as Machine
use Rattle.drives.specs.Machine.{held_max, holding, next}
use Rattle.drives.specs.Reader.{in_range, whole, header, number, told, shown}
use Rattle.drives.specs.Inside.{event_of}
use Rattle.drives.specs.declared.reader.Reader.{Reader}
use Rattle.drives.specs.declared.reader.Answer.TheVariants.{Refused}
use Rattle.answers.specs.declared.Refusal.TheVariants.{NoRoom, Spoilt}
use Rattle.drives.proofs.JudgedIsDelivered.{number_told, end_delivers}
use native.Mathlib.Omega.{arith}
use Rattle.std.proofs.Common.{rules}
use Prim.Native.Nat.{ℕ}
use mathlib.Core.Path.{◌≡◌, refl, sym, ◌∙◌, ap}
use mathlib.Core.Bool.{Bool, true, ◌&&◌}
use lib.ListN.{length}
use Rattle.drives.proofs.reader.step_in_place.Goals as goal

-- whether the state put together is whole, as it was tested
tested : (stage count : ℕ) (held : List ℕ) (b w : Bool) → b ≡ Machine.in_range stage count → (eqb (length held) held_max && b) ≡ w → whole (holding stage count held) ≡ w
tested stage count held b w e h = ap (λ (x : Bool). eqb (length held) held_max && x) (sym e) ∙ h

all_there : (stage count : ℕ) (held : List ℕ) → whole (holding stage count held) ≡ true → (length held ≡ held_max) × (in_range (holding stage count held) ≡ true)
all_there stage count held h = whole_sound (λ s. s.held) held_max in_range (holding stage count held) h

pub returns-then-not-whole : goal.returns-then-not-whole
returns-then-not-whole c =
    let a = c.args in
    let s = holding a.stage a.count a.held.now in
    steps_spoilt next whole header (λ m. m.payload) shown s a.piece.now a.lent.now (record { reader = s; answer = Refused Spoilt; used = 0 })
    (tested a.stage a.count a.held.now _ _ c.in_range.ensures c.if-not-whole.true) refl

pub returns-then-lent-lt-LENT : goal.returns-then-lent-lt-LENT
returns-then-lent-lt-LENT c =
    let a = c.args in
    let s = holding a.stage a.count a.held.now in
    steps_no_room next whole header (λ m. m.payload) shown s a.piece.now a.lent.now (record { reader = s; answer = Refused NoRoom; used = 0 })
    (tested a.stage a.count a.held.now _ _ c.in_range.ensures c.if-not-whole.false) (omega arith) refl

pub run_in-ran-requires : goal.run_in-ran-requires
run_in-ran-requires c =
    let a = c.args in
    (all_there a.stage a.count a.held.now (tested a.stage a.count a.held.now _ _ c.in_range.ensures c.if-not-whole.false)).1

pub judge-answer-requires : goal.judge-answer-requires
judge-answer-requires c = c.run_in-ran.ensures.fits

pub deliver-requires : goal.deliver-requires
deliver-requires c =
    let full : length c.run_in-ran.new.held ≡ held_max = search rules in
    let d = end_delivers c.run_in-ran.result.end c.run_in-ran.new.held c.args.lent.now c.judge-answer.result full c.judge-answer.ensures in
    (d.0, d.1, omega (arith, c.if-lent-lt-LENT.false))

pub returns : goal.returns
returns c =
    let a = c.args in
    let w = tested a.stage a.count a.held.now _ _ c.in_range.ensures c.if-not-whole.false in
    let r = c.run_in-ran.result in
    let held = c.run_in-ran.new.held in
    let full : length c.run_in-ran.new.held ≡ held_max = search rules in
    let after = holding r.stage r.count held in
    let answer = c.judge-answer.result in
    steps_scan next whole header (λ m. m.payload) shown (holding a.stage a.count a.held.now) a.piece.now a.lent.now _
    (record { reader = after; answer = answer; used = r.used }) _ w (omega (arith, c.if-lent-lt-LENT.false))
    (ap (λ (l : List ℕ). scan next (holding a.stage a.count l) a.piece.now) (sym c.in-Some.ensures.cases.same) ∙ c.run_in-ran.ensures.scanned)
    (shows header after (number answer) (told answer) (outcome (event_of r.end held)) r.used (number_told answer) c.judge-answer.ensures)
    (c.deliver.ensures ∙ (end_delivers r.end held a.lent.now answer full c.judge-answer.ensures).2)
    (whole_full (λ (t : Reader). t.held) held_max in_range after full ∙ c.run_in-ran.ensures.ranged)
