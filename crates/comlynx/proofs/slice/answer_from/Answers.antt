-- by what the rule finds
use mathlib.Core.Path.{◌≡◌, refl, sym, ap, ap₂, ◌∙◌, subst}
use mathlib.Core.Option.{Option, none, some}
use mathlib.Core.List.{List}
use lib.ListN.{length, drop}
use Rattle.stream.specs.Event.{Event, Told, gives}
use Rattle.stream.specs.Event as Event
use Rattle.stream.specs.Call.{delivered, retold}
use Rattle.stream.specs.Rule.{Settled}
use Rattle.stream.specs.Slice.{Asked, asked_of, answered, retells}
use Rattle.comlynx.specs.Wire.{Message}
use Rattle.comlynx.specs.Rules.{judge, rule}
use Rattle.comlynx.specs.Reader.{number, told, header}
use Rattle.comlynx.specs.Slice.{known_at, shown}
use Rattle.comlynx.specs.Inside.{AnswerFrom}
use Rattle.comlynx.specs.declared.reader.Header.{Header}
use Rattle.comlynx.specs.declared.reader.Answer.{Answer}
use Rattle.comlynx.specs.declared.reader.Answer.TheVariants.{Done}
use Rattle.comlynx.specs.declared.slice.Found.{Found}
use Rattle.comlynx.proofs.SearchedParts.{part}
use Rattle.comlynx.proofs.StretchJudged.{judged}
use Rattle.comlynx.proofs.FlagsSearched.{none_found, one_found, some_between}
use Prim.Native.Nat.{ℕ, ◌+◌, ◌-◌}
use native.Mathlib.Omega.{arith}
use Rattle.comlynx.proofs.slice.answer_from.Goals as goal

by_found : (slice lent later : List ℕ) (place : ℕ) (r : Found) (o : Option (Settled (Event Message))) → rule (known_at slice place) (drop place slice) ≡ o
    → shown r ≡ retells header (answered place (length slice) o) → later ≡ delivered (λ (m : Message). m.payload) (answered place (length slice) o).told lent
    → AnswerFrom slice place lent r later
by_found slice lent later place r o e x y =
    subst (λ (p : Option (Settled (Event Message))). (shown r ≡ retells header (answered place (length slice) p)) × (later ≡ delivered (λ (m : Message). m.payload) (answered place (length slice) p).told lent))
    (sym e) (x, y)

-- an answer that tells t, at the place after it
shows : (r : Answer) (place after : ℕ) (t : Told Message) → number r ≡ Event.number t → told r ≡ retold header t → place ≡ after
    → shown (record { answer = r; place = place }) ≡ retells header (asked_of t after)
shows r place after t n k e =
    ap {B = Asked Header} (λ (x : ℕ). record { number = x; told = told r; place = place }) n
    ∙ ap₂ {C = Asked Header} (λ (x : Told Header) (y : ℕ). record { number = Event.number t; told = x; place = y }) k e

pub returns-then-slice-close : goal.returns-then-slice-close
returns-then-slice-close c =
    let s = c.args.slice.now in
    let a = c.args in
    by_found s a.lent.now a.lent.now a.place (record { answer = Done; place = length s }) none
    (none_found s a.place c.opened.result c.past_flags-first.result c.byte_from-close.result c.opened.ensures c.past_flags-first.ensures c.byte_from-close.ensures c.if-slice-close.true)
    refl refl

pub returns : goal.returns
returns c =
    let s = c.args.slice.now in
    let a = c.args in
    let first = c.past_flags-first.result in
    let close = c.byte_from-close.result in
    let p = c.past_flags-first.ensures in
    let q = c.byte_from-close.ensures in
    let w = part first close s in
    let lt = c.if-slice-close.false in
    let some-there = some_between s first close q lt (p.3 (omega (arith, q.0.0))) in
    let whole = judged w a.lent.now c.requires.1 (λ z. omega (arith, some-there)) in
    let is = c.judge_stretch-answer.ensures in
    let after : a.place + (close + 1 - a.place) ≡ close + 1 = omega (arith, c.opened.ensures.0, p.0, q.0.0) in
    by_found s a.lent.now _ a.place (record { answer = c.judge_stretch-answer.result; place = close + 1 }) (some (record { event = judge w; used = close + 1 - a.place }))
    (one_found s a.place c.opened.result first close c.opened.ensures p q lt)
    (shows c.judge_stretch-answer.result (close + 1) (a.place + (close + 1 - a.place)) (gives (judge w)) (is.0 ∙ ap Event.number whole) (is.1 ∙ ap (retold header) whole) (sym after))
    (is.2 ∙ ap (λ (t : Told Message). delivered (λ (m : Message). m.payload) t a.lent.now) whole)
