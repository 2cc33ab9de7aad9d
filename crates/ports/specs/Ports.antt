-- The readers of all ports side by side: THE ONE TABLE OF PORTS, and what a call on a port promises. Of the readers themselves
-- nothing is said here but by their families' own promises.
use Rattle.std.specs.Prelude.{ℕ, ◌+◌, ◌≡◌, Bool, cond, List, [], ◌∷◌, eqb}
use Rattle.std.proofs.Math.Option.{Option, none, some}
use Rattle.answers.specs.Refusal as Refusal
use Rattle.answers.specs.Damage as Damage
use Rattle.answers.specs.declared.Refusal.TheVariants.{WrongPortOrCount}
use Rattle.stream.specs.Event.{Event}
use Rattle.stream.specs.Pieces.{Moved}
use Rattle.stream.specs.Family.{Family}
use Rattle.comlynx.specs.Machine as ComlynxMachine
use Rattle.comlynx.specs.Reader as ComlynxReader
use Rattle.comlynx.specs.Demands.{comlynx}
use Rattle.comlynx.specs.declared.reader.Answer as ComlynxAnswer
use Rattle.comlynx.specs.declared.reader.Answer.TheVariants as OfComlynx
use Rattle.eversolar.specs.Machine as EversolarMachine
use Rattle.eversolar.specs.Reader as EversolarReader
use Rattle.eversolar.specs.Demands.{eversolar}
use Rattle.eversolar.specs.declared.reader.Answer as EversolarAnswer
use Rattle.eversolar.specs.declared.reader.Answer.TheVariants as OfEversolar
use Rattle.fronius.specs.Machine as FroniusMachine
use Rattle.fronius.specs.Reader as FroniusReader
use Rattle.fronius.specs.Demands.{fronius}
use Rattle.fronius.specs.declared.reader.Answer as FroniusAnswer
use Rattle.fronius.specs.declared.reader.Answer.TheVariants as OfFronius
use Rattle.drives.specs.Machine as DrivesMachine
use Rattle.drives.specs.Reader as DrivesReader
use Rattle.drives.specs.Demands.{drives}
use Rattle.drives.specs.declared.reader.Answer as DrivesAnswer
use Rattle.drives.specs.declared.reader.Answer.TheVariants as OfDrives
use Rattle.listing_text.specs.Lines.{Shown}
use Rattle.ports.specs.Shown.{show_comlynx, show_eversolar, show_fronius, show_drives}
use Rattle.ports.specs.declared.Ports.{Ports}
use Rattle.ports.specs.declared.Step.{Step}
use Rattle.ports.specs.declared.Answer.{Answer}
use Rattle.ports.specs.declared.Answer.TheVariants.{Done, ComLynx, Eversolar, Fronius, Drives, Damaged, Refused}

-- ---- a family's answers as answers of the ports: only a message is told by another name, its family's

abbrev pub comlynx_answer : ComlynxAnswer.Answer → Answer
comlynx_answer OfComlynx.Done = Done
comlynx_answer (OfComlynx.Message h) = ComLynx h
comlynx_answer (OfComlynx.Damaged what lost) = Damaged what lost
comlynx_answer (OfComlynx.Refused why) = Refused why

abbrev pub eversolar_answer : EversolarAnswer.Answer → Answer
eversolar_answer OfEversolar.Done = Done
eversolar_answer (OfEversolar.Message h) = Eversolar h
eversolar_answer (OfEversolar.Damaged what lost) = Damaged what lost
eversolar_answer (OfEversolar.Refused why) = Refused why

abbrev pub fronius_answer : FroniusAnswer.Answer → Answer
fronius_answer OfFronius.Done = Done
fronius_answer (OfFronius.Message h) = Fronius h
fronius_answer (OfFronius.Damaged what lost) = Damaged what lost
fronius_answer (OfFronius.Refused why) = Refused why

abbrev pub drives_answer : DrivesAnswer.Answer → Answer
drives_answer OfDrives.Done = Done
drives_answer (OfDrives.Message h) = Drives h
drives_answer (OfDrives.Damaged what lost) = Damaged what lost
drives_answer (OfDrives.Refused why) = Refused why

-- the table of answers, document 01's with 21 of document 02, case by case: the number of each. A damage and a refusal may share a number, 21;
-- the case tells which of them it is
abbrev pub number : Answer → ℕ
number Done = 0
number (ComLynx h) = 1
number (Eversolar h) = 1
number (Fronius h) = 1
number (Drives h) = 1
number (Damaged what lost) = Damage.number what
number (Refused why) = Refusal.number why

-- ---- THE ONE TABLE OF PORTS: a row a port. Everything above goes by it

pub data Seat : Type 0 where
  comlynx_seat : Seat
  eversolar_seat : Seat
  fronius_seat : Seat
  drives_seat : Seat

-- all of them
abbrev pub seats : List Seat
seats = comlynx_seat ∷ eversolar_seat ∷ fronius_seat ∷ drives_seat ∷ []

-- the ports are 1 to this
abbrev pub port_most : ℕ
port_most = 4

-- a number for each row, summed
abbrev pub sum_over : List Seat → (Seat → ℕ) → ℕ
sum_over [] n = 0
sum_over (l ∷ ls) n = n l + sum_over ls n

-- a row: its port, the family that sits there,
pub record Row : Type 1 where
  pub port : ℕ
  pub family : Family
  -- the family's machine, its states in range, how its messages are shown,
  pub next : family.State → ℕ → Moved family.State (Event family.Message)
  pub in_range : family.State → Bool
  pub show : family.Message → Shown
  -- where its reader stands among the ports: the reader there, and the ports with another in its place, the others left as they are,
  pub get : Ports → family.State
  pub put : Ports → family.State → Ports
  -- and what the result of its call holds: the reader handed back, the answer as one of the ports, the bytes used
  pub reader : family.Result → family.State
  pub answer : family.Result → Answer
  pub used : family.Result → ℕ

abbrev pub row_of : Seat → Row
row_of comlynx_seat = record {
  port = 1;
  family = comlynx;
  next = ComlynxMachine.next;
  in_range = ComlynxReader.in_range;
  show = show_comlynx;
  get = λ ports. ports.comlynx;
  put = λ ports s. record { comlynx = s; eversolar = ports.eversolar; fronius = ports.fronius; drives = ports.drives };
  reader = λ r. r.reader;
  answer = λ r. comlynx_answer r.answer;
  used = λ r. r.used;
}
row_of eversolar_seat = record {
  port = 2;
  family = eversolar;
  next = EversolarMachine.next;
  in_range = EversolarReader.in_range;
  show = show_eversolar;
  get = λ ports. ports.eversolar;
  put = λ ports s. record { comlynx = ports.comlynx; eversolar = s; fronius = ports.fronius; drives = ports.drives };
  reader = λ r. r.reader;
  answer = λ r. eversolar_answer r.answer;
  used = λ r. r.used;
}
row_of fronius_seat = record {
  port = 3;
  family = fronius;
  next = FroniusMachine.next;
  in_range = FroniusReader.in_range;
  show = show_fronius;
  get = λ ports. ports.fronius;
  put = λ ports s. record { comlynx = ports.comlynx; eversolar = ports.eversolar; fronius = s; drives = ports.drives };
  reader = λ r. r.reader;
  answer = λ r. fronius_answer r.answer;
  used = λ r. r.used;
}
row_of drives_seat = record {
  port = 4;
  family = drives;
  next = DrivesMachine.next;
  in_range = DrivesReader.in_range;
  show = show_drives;
  get = λ ports. ports.drives;
  put = λ ports s. record { comlynx = ports.comlynx; eversolar = ports.eversolar; fronius = ports.fronius; drives = s };
  reader = λ r. r.reader;
  answer = λ r. drives_answer r.answer;
  used = λ r. r.used;
}

-- the row of a port, if it has one
abbrev pub seat_among : List Seat → ℕ → Option Seat
seat_among [] port = none
seat_among (l ∷ ls) port = cond (eqb port (row_of l).port) (some l) (seat_among ls port)

unfoldable pub seat_at : ℕ → Option Seat
seat_at port = seat_among seats port

-- ---- the promises

-- what `Ports::fresh` promises: every reader before its first byte
abbrev pub IsFresh : Ports → Type 0
IsFresh r = (seat : Seat) → (row_of seat).get r ≡ (row_of seat).family.fresh

-- the result of a call on a port: that of its reader's call, with the reader that it handed back put in its place
abbrev pub stepped : (seat : Seat) → Ports → (row_of seat).family.Result → Step
stepped seat ports s = record { ports = (row_of seat).put ports ((row_of seat).reader s); answer = (row_of seat).answer s; used = (row_of seat).used s }

-- 12 leaves the ports unmoved: nothing used, all unchanged
abbrev pub unmoved : Ports → Step
unmoved ports = record { ports = ports; answer = Refused WrongPortOrCount; used = 0 }

-- a call on a port: there is a call of its reader that its family's promise allows, this is the result of that, and its answer has the same number;
-- on another than these: 12
abbrev pub StepsOn : Option Seat → Ports → List ℕ → List ℕ → Step → List ℕ → Type 0
StepsOn none ports piece lent r later = (r ≡ unmoved ports) × (later ≡ lent) × (number r.answer ≡ 12)
StepsOn (some seat) ports piece lent r later =
    (s : (row_of seat).family.Result)
    × (row_of seat).family.Steps ((row_of seat).get ports) piece lent s later
    × (r ≡ stepped seat ports s)
    × (number r.answer ≡ ((row_of seat).family.seen s later).number)

-- what `Ports::step` promises, of the readers, port, piece, lent buffer, result and the buffer afterwards
abbrev pub IsStep : Ports → ℕ → List ℕ → List ℕ → Step → List ℕ → Type 0
IsStep ports port = StepsOn (seat_at port) ports
