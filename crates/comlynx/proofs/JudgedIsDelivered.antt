-- What an answer tells by its number, and what a judged stretch tells and delivers.
-- Assumes nothing.
use Rattle.std.specs.Prelude.{Option as Maybe, None, Some}
use Prim.Native.Nat.{ℕ, min, ◌+◌, ◌-◌, ◌*◌, ◌≤◌, ◌<◌}
use mathlib.Core.Path.{◌≡◌, refl, sym, ap, ◌∙◌, subst}
use mathlib.Core.Bool.{Bool, true, false}
use mathlib.Core.Option.{Option, none, some}
use mathlib.Core.List.{List}
use lib.ListN.{length, take, drop, get_or, length-drop}
use lib.Seq.{get_or-take, length-take-le, take-take}
use lib.Dec.{eqb, leb}
use borrow.Author.Tests.{eq-eqb, ne_eqb, leb-true}
use native.Mathlib.Omega.{arith}
use Rattle.numbers.proofs.TestLaws.{both}
use Rattle.answers.specs.Answer.{need}
use Rattle.answers.specs.declared.Damage.TheVariants.{WrongBodyLength, WrongStart, WrongSize, WrongSum}
use Rattle.comlynx_checksum.specs.Checksum.{checksum_of, agrees, IsSentOf}
use Rattle.comlynx_checksum.specs.declared.Sent.{Sent}
use Rattle.comlynx_checksum.proofs.SentAgrees.{agrees_by_bytes, sent_low, sent_high}
use Rattle.stream.proofs.ListLaws.{drop_take}
use Rattle.stream.specs.Event.{Event, message, damage, Told, gives, outcome}
use Rattle.stream.specs.Event as Event
use Rattle.stream.specs.Call.{retold, delivered}
use Rattle.stream.specs.Delivery as Delivery
use Rattle.stream.proofs.HeldIsDelivered.{Delivers, delivers_held}
use Rattle.comlynx.specs.Wire.{Message, payload_max, body_least, body_max, message_of}
use Rattle.comlynx.specs.Rules.{sized, begins, judged}
use Rattle.comlynx.specs.Machine.{closed}
use Rattle.comlynx.specs.Reader.{number, told, header}
use Rattle.comlynx.specs.Inside.{event_of, event_at, due, JudgedAs, Judges, Small, There, given}
use Rattle.comlynx.specs.declared.reader.Header.{Header}
use Rattle.comlynx.specs.declared.reader.Closed.{Closed}
use Rattle.comlynx.specs.declared.reader.Closed.TheVariants.{Whole, Broken}
use Rattle.comlynx.specs.declared.reader.Answer.{Answer}
use Rattle.comlynx.specs.declared.reader.Answer.TheVariants.{Done, Message as Read, Damaged, Refused}

-- an answer's number is that of what it tells
pub number_told : (a : Answer) → number a ≡ Event.number (told a)
number_told Done = refl
number_told (Read h) = refl
number_told (Damaged what lost) = refl
number_told (Refused why) = refl

-- the header that is read off the held bytes
abbrev pub held_header : ℕ → List ℕ → Header
held_header len held = record { source = get_or held 2 0 * 256 + get_or held 3 0; destination = get_or held 4 0 * 256 + get_or held 5 0; kind = get_or held 7 0; len = len }

-- ---- a length in bounds

pub sized_bounds : (n : ℕ) → sized n ≡ true → (body_least ≤ n) × (n ≤ body_max)
sized_bounds n e = let t = both (leb body_least n) (leb n body_max) e in (leb-true body_least n t.0, leb-true n body_max t.1)

-- ---- the first n held bytes as a body

-- as many are there as a body may have, or all of them
module _ (n : ℕ) (held : List ℕ) (there : min n body_max ≤ length held) (fits : sized n ≡ true) where
  least : body_least ≤ n
  least = (sized_bounds n fits).0

  pub all_there : n ≤ length held
  all_there = omega (arith, there, (sized_bounds n fits).1)

  taken : length (take n held) ≡ n
  taken = length-take-le n held all_there

  at_place : (i : ℕ) → i < n → get_or (take n held) i 0 ≡ get_or held i 0
  at_place i h = get_or-take n held i 0 h

  begins_taken : begins (take n held) ≡ begins held
  begins_taken = rw (at_place 0 (omega (arith, least)), at_place 1 (omega (arith, least)))

  size_taken : get_or (take n held) 6 0 ≡ get_or held 6 0
  size_taken = at_place 6 (omega (arith, least))

  held_bytes : take (length (take n held) - body_least) (drop 8 (take n held)) ≡ take (n - body_least) (drop 8 held)
  held_bytes =
      let e : n ≡ 8 + (n - 8) = omega (arith, least) in
      ap (λ (k : ℕ). take (k - body_least) (drop 8 (take n held))) taken
      ∙ ap (λ (k : ℕ). take (n - body_least) (drop 8 (take k held))) e
      ∙ ap (take (n - body_least)) (drop_take 8 (n - 8) held)
      ∙ take-take (n - body_least) (n - 8) (drop 8 held) (omega (arith, least))

  held_length : length (take (length (take n held) - body_least) (drop 8 (take n held))) ≡ n - body_least
  held_length = ap length held_bytes ∙ length-take-le (n - body_least) (drop 8 held) (simp length-drop (omega (arith, least, all_there)))

  held_header_lem : header (message_of (take n held)) ≡ held_header (n - body_least) held
  held_header_lem =
      rw (
        at_place 2 (omega (arith, least)),
        at_place 3 (omega (arith, least)),
        at_place 4 (omega (arith, least)),
        at_place 5 (omega (arith, least)),
        at_place 7 (omega (arith, least)),
        held_length,
      )

  -- the checksum agrees where the last two are those that are due
  agrees_due : (sum : ℕ) (d : Sent) → sum ≡ checksum_of (take (n - 2) held) → IsSentOf sum d → agrees (take n held) ≡ due n d.low d.high held
  agrees_due sum d e s =
      let last : n - 2 + 1 ≡ n - 1 = omega (arith, least) in
      let same : checksum_of (take (n - 2) (take n held)) ≡ sum = ap checksum_of (take-take (n - 2) n held (omega arith)) ∙ sym e in
      agrees_by_bytes (take n held) (n - 2) (omega (arith, taken, least))
      ∙ rw (same, ← sent_low sum d s, ← sent_high sum d s, at_place (n - 2) (omega (arith, least)), last, at_place (n - 1) (omega (arith, least)))

module _ (n came low high : ℕ) (held : List ℕ) (there : min n body_max ≤ length held) where
  pub judged_length : sized n ≡ false → Judges n came low high held (Damaged WrongBodyLength came)
  unfolding judged
  judged_length e = rw e

  module _ (fits : sized n ≡ true) where
    pub judged_start : begins held ≡ false → Judges n came low high held (Damaged WrongStart came)
    unfolding judged
    judged_start e = rw (fits, begins_taken n held there fits, e)

    module _ (starts : begins held ≡ true) where
      pub judged_size : (get_or held 6 0 ≡ n - body_least → ⊥) → Judges n came low high held (Damaged WrongSize came)
      unfolding judged
      judged_size e = rw (fits, begins_taken n held there fits, starts, size_taken n held there fits, ne_eqb (get_or held 6 0) (n - body_least) e)

      pub judged_sum : get_or held 6 0 ≡ n - body_least → due n low high held ≡ false → Judges n came low high held (Damaged WrongSum came)
      unfolding judged
      judged_sum e d = rw (fits, begins_taken n held there fits, starts, size_taken n held there fits, eq-eqb (get_or held 6 0) (n - body_least) e, d)

      pub judged_message : get_or held 6 0 ≡ n - body_least → due n low high held ≡ true → Judges n came low high held (Read (held_header (n - body_least) held))
      unfolding judged
      judged_message e d =
          rw (fits, begins_taken n held there fits, starts, size_taken n held there fits, eq-eqb (get_or held 6 0) (n - body_least) e, d)
          (ap (λ (h : Header). gives (message h)) (sym (held_header_lem n held there fits)))

-- a stretch that closes, judged by what is due
pub closes : (n came sum : ℕ) (held : List ℕ) (d : Sent) → min n body_max ≤ length held → sum ≡ checksum_of (take (n - 2) held) → IsSentOf sum d
    → closed came n held ≡ judged came n (due n d.low d.high held) (take n held)
unfolding judged
closes n came sum held d there e s = go (sized n) refl
  where
    go : (t : Bool) → sized n ≡ t → closed came n held ≡ judged came n (due n d.low d.high held) (take n held)
    go true f = ap (λ (r : Bool). judged came n r (take n held)) (agrees_due n held there f sum d e s)
    go false f = rw f

-- ---- what a stretch that closes delivers, and what the end of a run does

-- what is told is small and there, and what is delivered by it is what t delivers
abbrev HandsOver : List ℕ → List ℕ → Told Header → Told Message → Type 0
HandsOver held lent told t = Delivery.Small (λ (h : Header). 8 + h.len) (length held) told × Delivers header (λ m. m.payload) (λ h. h.len) payload_max 8 held lent told t

stretch_hands_over : (n came : ℕ) (right : Bool) (held lent : List ℕ) → min n body_max ≤ length held
    → (let t : Told Message = gives (judged came n right (take n held)) in HandsOver held lent (retold header t) t)
unfolding judged
stretch_hands_over n came right held lent there = go (sized n) (begins (take n held)) (eqb (get_or (take n held) 6 0) (n - body_least)) right refl
  where
    m : Message
    m = message_of (take n held)

    go : (f s z r : Bool) → sized n ≡ f
        → (let t : Told Message = gives (need f (damage 3 came) (need s (damage 4 came) (need z (damage 5 came) (need r (damage 6 came) (message m))))) in HandsOver held lent (retold header t) t)
    go false s z r f = (tt, (tt, refl))
    go true false z r f = (tt, (tt, refl))
    go true true false r f = (tt, (tt, refl))
    go true true true false f = (tt, (tt, refl))
    go true true true true f =
        let count : length m.payload ≡ n - body_least = held_length n held there f in
        let b = sized_bounds n f in (
          omega (arith, count, b.0, all_there n held there f),
          delivers_held header (λ m. m.payload) (λ h. h.len) payload_max 8 held lent m (omega (arith, count, b.1))
              (ap (λ (k : ℕ). take k (drop 8 held)) count ∙ sym (held_bytes n held there f)),
        )

-- as an answer tells it
abbrev pub AnswerDelivers : List ℕ → List ℕ → Answer → Option (Event Message) → Type 0
AnswerDelivers held lent a e = Small a × There a held × (given a held lent ≡ delivered (λ (m : Message). m.payload) (outcome e) lent)

answers : (held lent : List ℕ) (a : Answer) (e : Option (Event Message)) → JudgedAs e a → HandsOver held lent (retold header (outcome e)) (outcome e) → AnswerDelivers held lent a e
answers held lent a e j h =
    let x = subst (λ (t : Told Header). HandsOver held lent t (outcome e)) (sym j) h in
    (x.1.0, x.0, x.1.1)

pub closed_delivers : (n came : ℕ) (held lent : List ℕ) (a : Answer) → min n body_max ≤ length held → JudgedAs (some (closed came n held)) a
    → AnswerDelivers held lent a (some (closed came n held))
closed_delivers n came held lent a there j = answers held lent a (some (closed came n held)) j (stretch_hands_over n came (agrees (take n held)) held lent there)

pub end_delivers : (e : Closed) (held lent : List ℕ) (a : Answer) → length held ≡ body_max → JudgedAs (some (event_of e held)) a → AnswerDelivers held lent a (some (event_of e held))
end_delivers (Whole n came) held lent a full j = closed_delivers n came held lent a (omega arith) j
end_delivers (Broken came) held lent a full j = answers held lent a (some (damage 2 came)) j (tt, (tt, refl))

pub run_delivers : (e : Maybe Closed) (held lent : List ℕ) (a : Answer) → length held ≡ body_max → JudgedAs (event_at e held) a → AnswerDelivers held lent a (event_at e held)
run_delivers None held lent a full j = answers held lent a none j (tt, (tt, refl))
run_delivers (Some e) held lent a full j = end_delivers e held lent a full j
