-- What an answer tells by its number, and what a judged frame tells and delivers.
-- Assumes nothing.
use Rattle.std.specs.Prelude.{Option as Maybe, None, Some}
use Prim.Native.Nat.{ℕ, ◌+◌, ◌≤◌}
use mathlib.Core.Path.{◌≡◌, refl, sym, ap, subst}
use mathlib.Core.Bool.{Bool, true, false, cond}
use mathlib.Core.List.{List}
use lib.ListN.{length, take, drop, get_or, length-drop}
use lib.Seq.{get_or-take, length-take-le}
use lib.Dec.{eqb}
use borrow.Author.Tests.{eq-eqb, ne_eqb}
use native.Mathlib.Omega.{arith}
use Rattle.answers.specs.declared.Damage.TheVariants.{WrongSum}
use Rattle.stream.specs.Event.{Event, message, damage, Told, gives, outcome}
use Rattle.stream.specs.Event as Event
use Rattle.stream.specs.Call.{retold, delivered}
use Rattle.stream.specs.Delivery as Delivery
use Rattle.stream.proofs.HeldIsDelivered.{delivers_held}
use Rattle.eversolar_words.specs.Words.{word}
use Rattle.eversolar.specs.Wire.{Message, payload_max, earlier_of, checksum, message_of}
use Rattle.eversolar.specs.Rules.{judged}
use Rattle.eversolar.specs.Machine.{held_max}
use Rattle.eversolar.specs.Reader.{number, told, header}
use Rattle.eversolar.specs.Inside.{judged_frame, event_of, Fits, JudgedAs, Small, There, given}
use Rattle.eversolar.specs.declared.reader.Header.{Header}
use Rattle.eversolar.specs.declared.reader.Answer.{Answer}
use Rattle.eversolar.specs.declared.reader.Answer.TheVariants.{Done, Message as Read, Damaged, Refused}
use Rattle.eversolar.specs.declared.reader.Closed.{Closed}

-- an answer's number is that of what it tells
pub number_told : (a : Answer) → number a ≡ Event.number (told a)
number_told Done = refl
number_told (Read h) = refl
number_told (Damaged what lost) = refl
number_told (Refused why) = refl

-- the header that is read off the held bytes
abbrev pub held_header : ℕ → List ℕ → Header
held_header len held = record {
  source_first = get_or held 0 0;
  source_second = get_or held 1 0;
  destination_first = get_or held 2 0;
  destination_second = get_or held 3 0;
  control = get_or held 4 0;
  function = get_or held 5 0;
  len = len;
}

-- the sum that the held bytes have, and the one that came with them
abbrev pub right_sum : ℕ → List ℕ → ℕ
right_sum len held = checksum (earlier_of (take 6 held) len (take len (drop 7 held)))

abbrev pub came_sum : ℕ → ℕ → List ℕ → ℕ
came_sum len last held = word (get_or held (7 + len) 0) last

-- ---- the message that is held

abbrev held_message : ℕ → List ℕ → Message
held_message len held = message_of (take 6 held) (take len (drop 7 held))

module _ (len : ℕ) (held : List ℕ) (room : 7 + len ≤ length held) where
  held_length : length (take len (drop 7 held)) ≡ len
  held_length = length-take-le len (drop 7 held) (simp length-drop (omega arith))

  held_header_lem : header (held_message len held) ≡ held_header len held
  held_header_lem =
      rw (get_or-take 6 held 0 0 (omega arith), get_or-take 6 held 1 0 (omega arith), get_or-take 6 held 2 0 (omega arith), get_or-take 6 held 3 0 (omega arith), get_or-take 6 held 4 0 (omega arith), get_or-take 6 held 5 0 (omega arith), held_length)

  pub judged_right : (last : ℕ) → came_sum len last held ≡ right_sum len held → JudgedAs (judged_frame len last held) (Read (held_header len held))
  unfolding judged
  judged_right last e = rw (eq-eqb (came_sum len last held) (right_sum len held) e) (ap (λ (h : Header). gives (message h)) (sym held_header_lem))

  pub judged_wrong : (last : ℕ) → (came_sum len last held ≡ right_sum len held → ⊥) → JudgedAs (judged_frame len last held) (Damaged WrongSum (11 + len))
  unfolding judged
  judged_wrong last n = rw (ne_eqb (came_sum len last held) (right_sum len held) n)

-- ---- what a judged frame delivers, and so the end of a run

-- of what is told, and told of its header: the data are few, all held, and delivered
abbrev Hands : List ℕ → List ℕ → Told Header → Told Message → Type 0
Hands held lent h t =
    Delivery.Small (λ (x : Header). x.len) payload_max h × Delivery.Small (λ (x : Header). 7 + x.len) (length held) h
    × (Delivery.given (λ (x : Header). x.len) 7 h held lent ≡ delivered (λ (m : Message). m.payload) t lent)

frame_hands : (len last : ℕ) (held lent : List ℕ) → len ≤ payload_max → 7 + len ≤ length held → Hands held lent (retold header (outcome (judged_frame len last held))) (outcome (judged_frame len last held))
unfolding judged
frame_hands len last held lent small room = go (eqb (came_sum len last held) (right_sum len held))
  where
    go : (t : Bool) → (let e : Event Message = cond t (message (held_message len held)) (damage 6 (11 + len)) in Hands held lent (retold header (gives e)) (gives e))
    go true =
        let n = held_length len held room in
        let d = delivers_held header (λ m. m.payload) (λ h. h.len) payload_max 7 held lent (held_message len held) (omega (arith, n)) (ap (λ (k : ℕ). take k (drop 7 held)) n) in
        (d.0, omega (arith, n), d.1)
    go false = (tt, tt, refl)

end_hands : (end : Maybe Closed) (held lent : List ℕ) → Fits end → length held ≡ held_max → Hands held lent (retold header (outcome (event_of end held))) (outcome (event_of end held))
end_hands None held lent f l = (tt, tt, refl)
end_hands (Some closed) held lent f l = frame_hands closed.len closed.last held lent f (omega arith)

pub frame_delivers : (len last : ℕ) (held lent : List ℕ) (a : Answer) → len ≤ payload_max → 7 + len ≤ length held → JudgedAs (judged_frame len last held) a
    → Small a × There a held × (given a held lent ≡ delivered (λ (m : Message). m.payload) (outcome (judged_frame len last held)) lent)
frame_delivers len last held lent a small room e = subst (λ (s : Told Header). Hands held lent s (outcome (judged_frame len last held))) (sym e) (frame_hands len last held lent small room)

pub delivers : (end : Maybe Closed) (held lent : List ℕ) (a : Answer) → Fits end → length held ≡ held_max → JudgedAs (event_of end held) a
    → Small a × There a held × (given a held lent ≡ delivered (λ (m : Message). m.payload) (outcome (event_of end held)) lent)
delivers end held lent a f l e = subst (λ (s : Told Header). Hands held lent s (outcome (event_of end held))) (sym e) (end_hands end held lent f l)
