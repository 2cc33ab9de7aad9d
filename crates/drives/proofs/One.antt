-- For each public call: two results, and two later contents of what was lent, that its promise allows are one.
-- Assumes nothing.
use Prim.Native.Nat.{ℕ}
use mathlib.Core.Path.{◌≡◌, refl, sym, ap, ◌∙◌}
use mathlib.Core.List.{List}
use Rattle.numbers.proofs.Alike.{alike_by_back}
use Rattle.answers.specs.Written.{Written}
use Rattle.answers.proofs.NumbersHaveCases.{refusals, damages, written_alike}
use Rattle.stream.specs.Event.{message, damage, Told, done, gives, refuses}
use Rattle.stream.specs.Call.{Seen}
use Rattle.stream.specs.Slice.{Asked}
use Rattle.stream.proofs.PromiseOfStep.{steps_one}
use Rattle.stream.proofs.SlicesAsStreams.{answers_one}
use Rattle.drives.specs.Rules.{rule}
use Rattle.drives.specs.Machine.{holding, next}
use Rattle.drives.specs.Reader.{in_range, whole, header, told, shown, together, IsFresh, IsStep, IsStepInPlace}
use Rattle.drives.specs.Slice.{known_at, shown as shownAt, IsAnswerAt}
use Rattle.drives.specs.Writer.{IsWritten}
use Rattle.drives.specs.declared.reader.Reader.{Reader}
use Rattle.drives.specs.declared.reader.Header.{Header}
use Rattle.drives.specs.declared.reader.Step.{Step}
use Rattle.drives.specs.declared.reader.StepInPlace.{StepInPlace}
use Rattle.drives.specs.declared.slice.Found.{Found}
use Rattle.drives.specs.declared.reader.Answer.{Answer}
use Rattle.drives.specs.declared.reader.Answer.TheVariants.{Done, Message as Read, Damaged, Refused}

pub fresh_one : (r s : Reader) → IsFresh r → IsFresh s → r ≡ s
fresh_one r s x y = x ∙ sym y

-- what is told has a way back, so answers that are told alike are one
back : Told Header → Answer
back done = Done
back (gives (message h)) = Read h
back (gives (damage n lost)) = Damaged (damages.back n) lost
back (refuses n) = Refused (refusals.back n)

back_told : (a : Answer) → back (told a) ≡ a
unfolding back
back_told Done = refl
back_told (Read h) = refl
back_told (Damaged d lost) = ap (λ what. Damaged what lost) (damages.case d)
back_told (Refused r) = ap Refused (refusals.case r)

told_alike : (a b : Answer) → told a ≡ told b → a ≡ b
told_alike = alike_by_back told back back_told

-- a step that is shown alike is one
shown_alike : (q r : Step) → shown q ≡ shown r → q ≡ r
shown_alike q r e =
    let state = ap (λ (v : Seen Reader Header). v.state) e in
    let answer = told_alike q.answer r.answer (ap (λ (v : Seen Reader Header). v.told) e) in
    let used = ap (λ (v : Seen Reader Header). v.used) e in
    ap {B = Step} (λ (s : Reader). record { reader = s; answer = q.answer; used = q.used }) state
    ∙ ap {B = Step} (λ a. record { reader = r.reader; answer = a; used = q.used }) answer
    ∙ ap {B = Step} (λ (n : ℕ). record { reader = r.reader; answer = r.answer; used = n }) used

pub step_one : (s : Reader) (piece lent a b : List ℕ) (q r : Step) → IsStep s piece lent q a → IsStep s piece lent r b → (q ≡ r) × (a ≡ b)
step_one s piece lent a b q r x y =
    let one = steps_one next in_range header (λ m. m.payload) shown s piece lent a b q r x y in
    (shown_alike q r one.0, one.1)

-- what is put together alike has the same parts
apart : Step → StepInPlace
apart r = record { stage = r.reader.stage; count = r.reader.count; answer = r.answer; used = r.used }

pub step_in_place_one : (stage count : ℕ) (held piece lent x y a b : List ℕ) (q r : StepInPlace)
    → IsStepInPlace stage count held piece lent q x a → IsStepInPlace stage count held piece lent r y b → (q ≡ r) × (x ≡ y) × (a ≡ b)
unfolding apart
step_in_place_one stage count held piece lent x y a b q r f g =
    let one = steps_one next whole header (λ m. m.payload) shown (holding stage count held) piece lent a b (together x q) (together y r) f g in
    let same = shown_alike (together x q) (together y r) one.0 in
    (ap apart same, ap (λ (s : Step). s.reader.held) same, one.1)

-- an answer with its place that is shown alike is one
found_alike : (q r : Found) → shownAt q ≡ shownAt r → q ≡ r
found_alike q r e =
    let answer = told_alike q.answer r.answer (ap (λ (v : Asked Header). v.told) e) in
    let place = ap (λ (v : Asked Header). v.place) e in
    ap {B = Found} (λ a. record { answer = a; place = q.place }) answer ∙ ap {B = Found} (λ (n : ℕ). record { answer = r.answer; place = n }) place

pub answer_at_one : (slice lent a b : List ℕ) (place : ℕ) (q r : Found) → IsAnswerAt slice place lent q a → IsAnswerAt slice place lent r b → (q ≡ r) × (a ≡ b)
answer_at_one slice lent a b place q r x y =
    let one = answers_one rule known_at header (λ m. m.payload) shownAt slice lent a b place q r x y in
    (found_alike q r one.0, one.1)

pub write_one : (opening first second letter : ℕ) (payload lent a b : List ℕ) (v w : Written)
    → IsWritten opening first second letter payload lent v a → IsWritten opening first second letter payload lent w b → (v ≡ w) × (a ≡ b)
write_one opening first second letter payload lent a b v w x y = (written_alike v w (x.0 ∙ sym y.0), x.1 ∙ sym y.1)
