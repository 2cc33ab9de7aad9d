-- For each public call: two results, and two later contents of what was lent, that its promise allows are one.
-- Assumes nothing.
use Prim.Native.Nat.{ℕ}
use mathlib.Core.Path.{◌≡◌, refl, sym, ap, ◌∙◌}
use mathlib.Core.List.{List}
use lib.ListN.{length}
use lib.Dec.{ltb}
use Rattle.numbers.proofs.Alike.{alike_by_back}
use Rattle.answers.specs.Written.{Written}
use Rattle.answers.proofs.NumbersHaveCases.{refusals, damages}
use Rattle.answers.proofs.WriterPromise.{writes_one}
use Rattle.stream.specs.Event.{message, damage, Told, done, gives, refuses}
use Rattle.stream.specs.Call.{Seen}
use Rattle.stream.specs.Slice.{Asked}
use Rattle.stream.proofs.PromiseOfStep.{steps_one}
use Rattle.stream.proofs.SlicesAsStreams.{answers_one}
use Rattle.eversolar.specs.Wire.{Message, payload_max, wire}
use Rattle.eversolar.specs.Rules.{rule}
use Rattle.eversolar.specs.Machine.{holding, next}
use Rattle.eversolar.specs.Reader.{in_range, whole, header, told, shown, together, IsFresh, IsStep, IsStepInPlace}
use Rattle.eversolar.specs.Slice.{known_at, IsAnswerAt}
use Rattle.eversolar.specs.Slice as Slice
use Rattle.eversolar.specs.Writer.{IsWritten}
use Rattle.eversolar.specs.declared.reader.Reader.{Reader}
use Rattle.eversolar.specs.declared.reader.Header.{Header}
use Rattle.eversolar.specs.declared.reader.Step.{Step}
use Rattle.eversolar.specs.declared.reader.StepInPlace.{StepInPlace}
use Rattle.eversolar.specs.declared.reader.Answer.{Answer}
use Rattle.eversolar.specs.declared.slice.Found.{Found}
use Rattle.eversolar.specs.declared.reader.Answer.TheVariants.{Done, Message as Read, Damaged, Refused}

pub fresh_one : (r s : Reader) → IsFresh r → IsFresh s → r ≡ s
fresh_one r s x y = x ∙ sym y

-- what is told has a way back, so answers that are told alike are one
back : Told Header → Answer
back done = Done
back (gives (message h)) = Read h
back (gives (damage n lost)) = Damaged (damages.back n) lost
back (refuses n) = Refused (refusals.back n)

back_told : (a : Answer) → back (told a) ≡ a
unfolding back
back_told Done = refl
back_told (Read h) = refl
back_told (Damaged d lost) = ap (λ what. Damaged what lost) (damages.case d)
back_told (Refused r) = ap Refused (refusals.case r)

told_alike : (a b : Answer) → told a ≡ told b → a ≡ b
told_alike = alike_by_back told back back_told

-- a step that is shown alike is one
shown_alike : (q r : Step) → shown q ≡ shown r → q ≡ r
shown_alike q r e =
    let state = ap (λ (v : Seen Reader Header). v.state) e in
    let answer = told_alike q.answer r.answer (ap (λ (v : Seen Reader Header). v.told) e) in
    let used = ap (λ (v : Seen Reader Header). v.used) e in
    ap {B = Step} (λ (s : Reader). record { reader = s; answer = q.answer; used = q.used }) state
    ∙ ap {B = Step} (λ a. record { reader = r.reader; answer = a; used = q.used }) answer
    ∙ ap {B = Step} (λ (n : ℕ). record { reader = r.reader; answer = r.answer; used = n }) used

pub step_one : (s : Reader) (piece lent a b : List ℕ) (q r : Step) → IsStep s piece lent q a → IsStep s piece lent r b → (q ≡ r) × (a ≡ b)
step_one s piece lent a b q r x y =
    let one = steps_one next in_range header (λ m. m.payload) shown s piece lent a b q r x y in
    (shown_alike q r one.0, one.1)

-- what is put together alike has the same parts
apart : Step → StepInPlace
apart r = record { stage = r.reader.stage; count = r.reader.count; len = r.reader.len; answer = r.answer; used = r.used }

pub step_in_place_one : (stage count len : ℕ) (held piece lent x y a b : List ℕ) (q r : StepInPlace)
    → IsStepInPlace stage count len held piece lent q x a → IsStepInPlace stage count len held piece lent r y b → (q ≡ r) × (x ≡ y) × (a ≡ b)
unfolding apart
step_in_place_one stage count len held piece lent x y a b q r f g =
    let one = steps_one next whole header (λ m. m.payload) shown (holding stage count len held) piece lent a b (together x q) (together y r) f g in
    let same = shown_alike (together x q) (together y r) one.0 in
    (ap apart same, ap (λ (s : Step). s.reader.held) same, one.1)

pub answer_at_one : (slice : List ℕ) (place : ℕ) (lent a b : List ℕ) (q r : Found) → IsAnswerAt slice place lent q a → IsAnswerAt slice place lent r b → (q ≡ r) × (a ≡ b)
answer_at_one slice place lent a b q r x y =
    let one = answers_one rule known_at header (λ m. m.payload) Slice.shown slice lent a b place q r x y in
    let answer = told_alike q.answer r.answer (ap (λ (v : Asked Header). v.told) one.0) in
    let at = ap (λ (v : Asked Header). v.place) one.0 in
    (ap {B = Found} (λ v. record { answer = v; place = q.place }) answer ∙ ap {B = Found} (λ (n : ℕ). record { answer = r.answer; place = n }) at, one.1)

pub write_one : (source_first source_second destination_first destination_second control function : ℕ) (payload lent a b : List ℕ) (v w : Written)
    → IsWritten source_first source_second destination_first destination_second control function payload lent v a
    → IsWritten source_first source_second destination_first destination_second control function payload lent w b → (v ≡ w) × (a ≡ b)
write_one source_first source_second destination_first destination_second control function payload lent a b v w x y =
    let m : Message = record { source_first = source_first; source_second = source_second; destination_first = destination_first; destination_second = destination_second; control = control; function = function; payload = payload } in
    writes_one (ltb payload_max (length payload)) (wire m) lent a b v w x y
