-- What an answer tells by its number, and what a judged frame tells and delivers.
-- Assumes nothing.
use Rattle.std.specs.Prelude.{Option as Maybe, None, Some}
use Prim.Native.Nat.{ℕ, min, ◌+◌, ◌-◌, ◌≤◌, ◌<◌}
use mathlib.Core.Path.{◌≡◌, refl, sym, ap, ◌∙◌, subst}
use mathlib.Core.Bool.{Bool, true, false}
use mathlib.Core.Option.{Option, none, some}
use mathlib.Core.List.{List}
use lib.ListN.{length, take, drop, get_or, length-drop}
use lib.Seq.{get_or-take, length-take-le, take-take}
use native.Mathlib.Omega.{arith}
use Rattle.answers.specs.Answer.{need}
use Rattle.answers.specs.declared.Damage.TheVariants.{WrongBodyLength, WrongCharacter, WrongSum}
use Rattle.stream.proofs.ListLaws.{drop_take}
use Rattle.stream.proofs.HeldIsDelivered.{Delivers, delivers_held}
use Rattle.stream.specs.Event.{Event, message, damage, Told, gives, outcome}
use Rattle.stream.specs.Event as Event
use Rattle.stream.specs.Call.{retold, delivered}
use Rattle.stream.specs.Delivery as Delivery
use Rattle.drives.specs.Wire.{Message, proper, message_of}
use Rattle.drives.specs.Rules.{sized, agrees, judged}
use Rattle.drives.specs.Machine.{held_max, closed}
use Rattle.drives.specs.Reader.{number, told, header}
use Rattle.drives.specs.Inside.{event_of, JudgedAs, Small, There, given}
use Rattle.drives.specs.declared.reader.Header.{Header}
use Rattle.drives.specs.declared.reader.Answer.{Answer}
use Rattle.drives.specs.declared.reader.Answer.TheVariants.{Done, Message as Read, Damaged, Refused}
use Rattle.drives.specs.declared.reader.Closed.{Closed}
use Rattle.drives.proofs.FrameLimits.{sized_bounds}

-- an answer's number is that of what it tells
pub number_told : (a : Answer) → number a ≡ Event.number (told a)
number_told Done = refl
number_told (Read h) = refl
number_told (Damaged what lost) = refl
number_told (Refused why) = refl

-- the header that is read off the held bytes, behind an opening byte
abbrev pub held_header : (opening len : ℕ) → List ℕ → Header
held_header opening len held = record {
  opening = opening;
  station_first = get_or held 0 0;
  station_second = get_or held 1 0;
  letter = get_or held 2 0;
  len = len;
}

-- ---- the first `count` held bytes as a message

-- those behind the letter
pub behind_letter : (count : ℕ) (held : List ℕ) → 3 ≤ count → drop 3 (take count held) ≡ take (count - 3) (drop 3 held)
behind_letter count held h =
    let e : count ≡ 3 + (count - 3) = omega arith in
    ap (λ (k : ℕ). drop 3 (take k held)) e ∙ drop_take 3 (count - 3) held

-- as many are there as a message may have, or all of them
module _ (opening count : ℕ) (held : List ℕ) (there : min count held_max ≤ length held) (fits : sized opening (count + 2) ≡ true) where
  least : 5 ≤ count
  least = (sized_bounds opening count fits).0

  pub all_there : count ≤ length held
  all_there = omega (arith, there, (sized_bounds opening count fits).1)

  at_place : (i : ℕ) → i < count → get_or (take count held) i 0 ≡ get_or held i 0
  at_place i h = get_or-take count held i 0 h

  held_bytes : (message_of opening (take count held)).payload ≡ take (count - 5) (drop 3 held)
  held_bytes =
      ap (λ (k : ℕ). take (k - 5) (drop 3 (take count held))) (length-take-le count held all_there)
      ∙ ap (take (count - 5)) (behind_letter count held (omega (arith, least)))
      ∙ take-take (count - 5) (count - 3) (drop 3 held) (omega (arith, least))

  held_length : length (message_of opening (take count held)).payload ≡ count - 5
  held_length = ap length held_bytes ∙ length-take-le (count - 5) (drop 3 held) (simp length-drop (omega (arith, least, all_there)))

  held_header_lem : header (message_of opening (take count held)) ≡ held_header opening (count - 5) held
  held_header_lem = rw (at_place 0 (omega (arith, least)), at_place 1 (omega (arith, least)), at_place 2 (omega (arith, least)), held_length)

-- ---- what a frame is judged as, test by test

module _ (opening count : ℕ) (held : List ℕ) where
  pub judged_length : sized opening (count + 2) ≡ false → JudgedAs (some (closed opening count held)) (Damaged WrongBodyLength (count + 2))
  unfolding judged
  judged_length e = rw e

  module _ (fits : sized opening (count + 2) ≡ true) where
    pub judged_character : proper (take count held) ≡ false → JudgedAs (some (closed opening count held)) (Damaged WrongCharacter (count + 2))
    unfolding judged
    judged_character e = rw (fits, e)

    module _ (in_sets : proper (take count held) ≡ true) where
      pub judged_sum : agrees (take count held) ≡ false → JudgedAs (some (closed opening count held)) (Damaged WrongSum (count + 2))
      unfolding judged
      judged_sum e = rw (fits, in_sets, e)

      pub judged_message : min count held_max ≤ length held → agrees (take count held) ≡ true
          → JudgedAs (some (closed opening count held)) (Read (held_header opening (count - 5) held))
      unfolding judged
      judged_message there e =
          rw (fits, in_sets, e)
          (ap (λ (h : Header). gives (message h)) (sym (held_header_lem opening count held there fits)))

-- ---- what a judged frame delivers, and what the end of a run does

-- what is told is small and there, and what is delivered by it is what t delivers
abbrev HandsOver : List ℕ → List ℕ → Told Header → Told Message → Type 0
HandsOver held lent told t = Delivery.Small (λ (h : Header). 3 + h.len) (length held) told × Delivers header (λ m. m.payload) (λ h. h.len) 37 3 held lent told t

frame_hands_over : (opening count : ℕ) (held lent : List ℕ) → min count held_max ≤ length held
    → (let t : Told Message = gives (closed opening count held) in HandsOver held lent (retold header t) t)
unfolding judged
frame_hands_over opening count held lent l = go (sized opening (count + 2)) (proper (take count held)) (agrees (take count held)) refl
  where
    m : Message
    m = message_of opening (take count held)

    go : (f p a : Bool) → sized opening (count + 2) ≡ f
        → (let t : Told Message = gives (need f (damage 3 (count + 2)) (need p (damage 21 (count + 2)) (need a (damage 6 (count + 2)) (message m)))) in HandsOver held lent (retold header t) t)
    go false p a f = (tt, (tt, refl))
    go true false a f = (tt, (tt, refl))
    go true true false f = (tt, (tt, refl))
    go true true true f =
        let n : length m.payload ≡ count - 5 = held_length opening count held l f in
        let b = sized_bounds opening count f in (
          omega (arith, n, b.0, all_there opening count held l f),
          delivers_held header (λ m. m.payload) (λ h. h.len) 37 3 held lent m (omega (arith, n, b.1))
              (ap (λ (k : ℕ). take k (drop 3 held)) n ∙ sym (held_bytes opening count held l f)),
        )

-- as an answer tells it
abbrev pub AnswerDelivers : List ℕ → List ℕ → Answer → Option (Event Message) → Type 0
AnswerDelivers held lent a e = Small a × There a held × (given a held lent ≡ delivered (λ (m : Message). m.payload) (outcome e) lent)

answers : (held lent : List ℕ) (a : Answer) (e : Option (Event Message)) → JudgedAs e a → HandsOver held lent (retold header (outcome e)) (outcome e) → AnswerDelivers held lent a e
answers held lent a e j h =
    let x = subst (λ (t : Told Header). HandsOver held lent t (outcome e)) (sym j) h in
    (x.1.0, x.0, x.1.1)

pub frame_delivers : (opening count : ℕ) (held lent : List ℕ) (a : Answer) → min count held_max ≤ length held → JudgedAs (some (closed opening count held)) a
    → AnswerDelivers held lent a (some (closed opening count held))
frame_delivers opening count held lent a l j = answers held lent a (some (closed opening count held)) j (frame_hands_over opening count held lent l)

pub end_delivers : (end : Maybe Closed) (held lent : List ℕ) (a : Answer) → length held ≡ held_max → JudgedAs (event_of end held) a → AnswerDelivers held lent a (event_of end held)
end_delivers None held lent a l j = answers held lent a none j (tt, (tt, refl))
end_delivers (Some end) held lent a l j = frame_delivers end.opening end.count held lent a (omega arith) j
