-- What is demanded of the ports, over the promise of `Ports::step`: the ports keep apart, each reads as its family's reader does alone,
-- 12 is for another port and for nothing else, and a refusal changes nothing.
use Rattle.std.specs.Prelude.{ℕ, ◌≤◌, ◌≡◌, ◌↔◌, List, [], ◌∷◌, length}
use Rattle.std.proofs.Math.Option.{some}
use Rattle.answers.specs.declared.Refusal.{Refusal}
use Rattle.stream.specs.Call.{lent_least}
use Rattle.stream.specs.Family.{Call, Allowed}
use Rattle.ports.specs.Ports.{Seat, port_most, row_of, seat_at, number, stepped, IsStep}
use Rattle.ports.specs.declared.Ports.{Ports}
use Rattle.ports.specs.declared.Step.{Step}
use Rattle.ports.specs.declared.Answer.TheVariants.{Refused}

-- ---- a call on one port leaves the readers of the others as they were

abbrev pub Apart : Type 0
Apart =
    (seat : Seat) (ports : Ports) (port : ℕ) (piece lent later : List ℕ) (r : Step) → IsStep ports port piece lent r later
    → (seat_at port ≡ some seat → ⊥) → (row_of seat).get r.ports ≡ (row_of seat).get ports

-- ---- on each port the family's reader reads as it does alone, so that the demands of the family hold there, however the ports interleave

-- one call that was made: its port; piece, buffers and result
pub record PortCall : Type 0 where
  pub port : ℕ
  pub call : Call Step

-- CALLS ONE AFTER ANOTHER, each with the readers that the one before it handed back, each on any port, one that no reader has too, with any
-- piece and any buffer of at least 255 bytes: every sequence of them that the promise of `Ports::step` allows
abbrev pub AllowedOn : Ports → List PortCall → Type 0
AllowedOn ports [] = Unit {0}
AllowedOn ports (c ∷ cs) =
    (lent_least ≤ length c.call.lent)
    × IsStep ports c.port c.call.piece c.call.lent c.call.result c.call.later
    × AllowedOn c.call.result.ports cs

-- a call on the ports, and a call of a port's reader: the same piece and buffers, and the result of the one is that of the other, put in its place
pub record SameCall (seat : Seat) (c : Call Step) (own : Call (row_of seat).family.Result) : Type 0 where
  pub piece : c.piece ≡ own.piece
  pub lent : c.lent ≡ own.lent
  pub result : c.result ≡ stepped seat c.result.ports own.result
  pub later : c.later ≡ own.later

-- of calls on any ports those on one, in order, as calls of its reader
pub data OwnCalls (seat : Seat) : List PortCall → List (Call (row_of seat).family.Result) → Type 0 where
  ends : OwnCalls seat [] []
  another : {c : PortCall} {cs : List PortCall} {owns : List (Call (row_of seat).family.Result)}
      → (seat_at c.port ≡ some seat → ⊥) → OwnCalls seat cs owns → OwnCalls seat (c ∷ cs) owns
  its : {c : PortCall} {cs : List PortCall} {own : Call (row_of seat).family.Result} {owns : List (Call (row_of seat).family.Result)}
      → seat_at c.port ≡ some seat → SameCall seat c.call own → OwnCalls seat cs owns → OwnCalls seat (c ∷ cs) (own ∷ owns)

-- they are calls that the family's own promise allows, from the reader that stands there
abbrev pub EachAlone : Type 0
EachAlone =
    (seat : Seat) (ports : Ports) (cs : List PortCall) → AllowedOn ports cs
    → (owns : List (Call (row_of seat).family.Result)) × OwnCalls seat cs owns × Allowed (row_of seat).family ((row_of seat).get ports) owns

-- ---- refusals

-- after one the readers are unchanged, nothing is used, and the lent buffer holds what it held. An answer is a refusal by its case, not by
-- its number: 21 is a damage's number too, and a damage uses bytes
abbrev pub Kept : Type 0
Kept =
    (ports : Ports) (port : ℕ) (piece lent later : List ℕ) (r : Step) (why : Refusal) → IsStep ports port piece lent r later
    → r.answer ≡ Refused why → (r.ports ≡ ports) × (r.used ≡ 0) × (later ≡ lent)

-- 12 is given exactly for another port than those of the table
abbrev pub WrongPort : Type 0
WrongPort =
    (ports : Ports) (port : ℕ) (piece lent later : List ℕ) (r : Step) → IsStep ports port piece lent r later
    → (number r.answer ≡ 12) ↔ ((1 ≤ port) × (port ≤ port_most) → ⊥)
