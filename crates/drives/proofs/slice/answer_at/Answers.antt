-- `slice::answer_at`: refused by the test that fails first, or answered from the place.
use Rattle.stream.proofs.SlicesAsStreams.{answers_too_long, answers_past_end, answers_no_room, answers_rule}
use Rattle.drives.specs.Rules.{rule}
use Rattle.drives.specs.Reader.{header}
use Rattle.drives.specs.Slice.{known_at, shown}
use Rattle.drives.specs.declared.reader.Answer.TheVariants.{Refused}
use Rattle.answers.specs.declared.Refusal.TheVariants.{NoRoom, SliceTooLong, PlacePastEnd}
use native.Mathlib.Omega.{arith}
use mathlib.Core.Path.{refl}
use lib.ListN.{drop}
use Rattle.drives.proofs.slice.answer_at.Goals as goal

pub returns-then-slice-gt-SLICE : goal.returns-then-slice-gt-SLICE
returns-then-slice-gt-SLICE c =
    let a = c.args in
    answers_too_long rule known_at header (λ m. m.payload) shown a.slice.now a.lent.now a.place (record { answer = Refused SliceTooLong; place = 0 }) (omega arith) refl

pub returns-then-slice-place : goal.returns-then-slice-place
returns-then-slice-place c =
    let a = c.args in
    answers_past_end rule known_at header (λ m. m.payload) shown a.slice.now a.lent.now a.place (record { answer = Refused PlacePastEnd; place = 0 }) (omega arith) (omega arith) refl

pub returns-then-lent-lt-LENT : goal.returns-then-lent-lt-LENT
returns-then-lent-lt-LENT c =
    let a = c.args in
    answers_no_room rule known_at header (λ m. m.payload) shown a.slice.now a.lent.now a.place (record { answer = Refused NoRoom; place = 0 }) (omega arith) (omega arith) (omega arith) refl

pub returns : goal.returns
returns c =
    let d = c in
    let a = d.args in
    let e = d.answer_from.ensures in
    answers_rule rule known_at header (λ m. m.payload) shown a.slice.now a.lent.now _ a.place d.answer_from.result (rule tt (drop a.place a.slice.now))
    (omega arith) (omega arith) (omega arith) refl e.0 e.1
