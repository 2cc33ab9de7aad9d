-- What an answer tells by its number, and what a judged frame tells and delivers.
-- Assumes nothing.
use Prim.Native.Nat.{ℕ, ◌+◌, ◌≤◌}
use mathlib.Core.Path.{◌≡◌, refl, sym, ap, ◌∙◌, subst}
use mathlib.Core.Bool.{Bool, true, false, cond}
use mathlib.Core.Option.{Option}
use mathlib.Core.List.{List, ◌∷◌}
use lib.ListN.{length, take, drop, get_or, length-drop}
use lib.Seq.{get_or-take, length-take-le}
use lib.Dec.{eqb}
use borrow.Author.Tests.{eq-eqb, ne_eqb}
use native.Mathlib.Omega.{arith}
use Rattle.answers.specs.declared.Damage.TheVariants.{WrongSum}
use Rattle.stream.proofs.ListLaws.{drop_take}
use Rattle.stream.proofs.HeldIsDelivered.{Delivers, delivers_held, delivers_told}
use Rattle.stream.specs.Event.{Event, message, damage, Told, gives, outcome}
use Rattle.stream.specs.Event as Event
use Rattle.stream.specs.Call.{retold, delivered}
use Rattle.stream.specs.Delivery as Delivery
use Rattle.fronius.specs.Wire.{Message, payload_max, checksum, message_of}
use Rattle.fronius.specs.Rules.{judged}
use Rattle.fronius.specs.Machine.{held_max}
use Rattle.fronius.specs.Reader.{number, told, header}
use Rattle.fronius.specs.Inside.{judged_frame, event_of, Fits, JudgedAs, Small, There, given}
use Rattle.fronius.specs.declared.reader.Header.{Header}
use Rattle.fronius.specs.declared.reader.Answer.{Answer}
use Rattle.fronius.specs.declared.reader.Answer.TheVariants.{Done, Message as Read, Damaged, Refused}
use Rattle.fronius.specs.declared.reader.End.{End}
use Rattle.fronius.specs.declared.reader.End.TheVariants.{UsedUp, Closed, BadLength}

-- an answer's number is that of what it tells
pub number_told : (a : Answer) → number a ≡ Event.number (told a)
number_told Done = refl
number_told (Read h) = refl
number_told (Damaged what lost) = refl
number_told (Refused why) = refl

-- the header that is read off the held bytes
abbrev pub held_header : ℕ → List ℕ → Header
held_header len held = record { device = get_or held 0 0; number = get_or held 1 0; command = get_or held 2 0; len = len }

-- ---- the message that is held

module _ (len : ℕ) (held : List ℕ) (room : 3 + len ≤ length held) where
  held_bytes : drop 3 (take (3 + len) held) ≡ take len (drop 3 held)
  held_bytes = drop_take 3 len held

  held_length : length (drop 3 (take (3 + len) held)) ≡ len
  held_length = ap length held_bytes ∙ length-take-le len (drop 3 held) (simp length-drop (omega arith))

  held_header_lem : header (message_of (take (3 + len) held)) ≡ held_header len held
  held_header_lem = rw (get_or-take (3 + len) held 0 0 (omega arith), get_or-take (3 + len) held 1 0 (omega arith), get_or-take (3 + len) held 2 0 (omega arith), held_length)

  pub judged_right : (sum : ℕ) → sum ≡ checksum (len ∷ take (3 + len) held) → JudgedAs (judged_frame len sum held) (Read (held_header len held))
  unfolding judged
  judged_right sum e = rw (eq-eqb sum (checksum (len ∷ take (3 + len) held)) e) (ap (λ (h : Header). gives (message h)) (sym held_header_lem))

  pub judged_wrong : (sum : ℕ) → (sum ≡ checksum (len ∷ take (3 + len) held) → ⊥) → JudgedAs (judged_frame len sum held) (Damaged WrongSum (8 + len))
  unfolding judged
  judged_wrong sum n = rw (ne_eqb sum (checksum (len ∷ take (3 + len) held)) n)

-- ---- what a judged frame delivers, and the end of a run

abbrev DeliversTo : List ℕ → List ℕ → Told Message → Type 0
DeliversTo held lent t = Delivers header (λ m. m.payload) (λ h. h.len) payload_max 3 held lent (retold header t) t

-- header and data of what is told are held
abbrev Holds : List ℕ → Told Header → Type 0
Holds held = Delivery.Small (λ (h : Header). 3 + h.len) (length held)

frame_delivers : (len sum : ℕ) (held lent : List ℕ) → len ≤ payload_max → 3 + len ≤ length held
    → DeliversTo held lent (outcome (judged_frame len sum held)) × Holds held (retold header (outcome (judged_frame len sum held)))
unfolding judged
frame_delivers len sum held lent small room = go (eqb sum (checksum (len ∷ take (3 + len) held)))
  where
    go : (t : Bool)
        → (let e : Told Message = gives (cond t (message (message_of (take (3 + len) held))) (damage 6 (8 + len))) in DeliversTo held lent e × Holds held (retold header e))
    go true =
        let n = held_length len held room in (
          delivers_held header (λ m. m.payload) (λ h. h.len) payload_max 3 held lent (message_of (take (3 + len) held)) (omega (arith, n))
              (ap (λ (k : ℕ). take k (drop 3 held)) n ∙ sym (held_bytes len held room)),
          omega (arith, n),
        )
    go false = ((tt, refl), tt)

end_delivers : (end : End) (held lent : List ℕ) → Fits end → length held ≡ held_max → DeliversTo held lent (outcome (event_of end held)) × Holds held (retold header (outcome (event_of end held)))
end_delivers UsedUp held lent f l = ((tt, refl), tt)
end_delivers (Closed len sum) held lent f l = frame_delivers len sum held lent f (omega arith)
end_delivers BadLength held lent f l = ((tt, refl), tt)

-- an answer that tells what came delivers it
abbrev pub DeliveredBy : Answer → Option (Event Message) → List ℕ → List ℕ → Type 0
DeliveredBy a event held lent = Small a × There a held × (given a held lent ≡ delivered (λ (m : Message). m.payload) (outcome event) lent)

by_answer : (event : Option (Event Message)) (held lent : List ℕ) (a : Answer) → JudgedAs event a
    → DeliversTo held lent (outcome event) × Holds held (retold header (outcome event)) → DeliveredBy a event held lent
by_answer event held lent a e d =
    let two = delivers_told header (λ m. m.payload) (λ h. h.len) payload_max 3 held lent (told a) (outcome event) e d.0 in
    (two.0, subst (Holds held) (sym e) d.1, two.1)

pub delivers : (end : End) (held lent : List ℕ) (a : Answer) → Fits end → length held ≡ held_max → JudgedAs (event_of end held) a → DeliveredBy a (event_of end held) held lent
delivers end held lent a f l e = by_answer (event_of end held) held lent a e (end_delivers end held lent f l)

pub delivers_frame : (len sum : ℕ) (held lent : List ℕ) (a : Answer) → len ≤ payload_max → 3 + len ≤ length held → JudgedAs (judged_frame len sum held) a
    → DeliveredBy a (judged_frame len sum held) held lent
delivers_frame len sum held lent a small room e = by_answer (judged_frame len sum held) held lent a e (frame_delivers len sum held lent small room)
